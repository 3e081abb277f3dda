use Rattle.std.proofs.Common.{◌≡◌, take}
use Rattle.sweep_sides.specs.Waiting.{queued}
use Rattle.temporal_join.specs.Lives.{life_waits}
use Rattle.temporal_join.proofs.settling.ends_of.Given as goal

abbrev pub invariant-loop-life : goal.invariant-loop-life
invariant-loop-life l = l.ends.items ≡ queued (life_waits (take l.life-index l.lives))
