use Rattle.std.proofs.Common.{◌≡◌, ◌++◌, take, map, false}
use Rattle.sweep_laws.specs.Moves.{told_at}
use Rattle.union_clip.proofs.sweep.tell_ends.Given as goal

abbrev pub invariant-loop-row : goal.invariant-loop-row
invariant-loop-row l = l.answer.items ≡ l.fn.answer.items ++ map (told_at false l.t) (take l.row-index l.rows)
