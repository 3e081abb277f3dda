use Rattle.std.proofs.Common.{◌≡◌, take}
use Rattle.temporal_join.specs.Lives.{life_rows}
use Rattle.temporal_join.proofs.settling.rows_of.Given as goal

abbrev pub invariant-loop-life : goal.invariant-loop-life
invariant-loop-life l = l.rows.items ≡ life_rows (take l.life-index l.lives)
