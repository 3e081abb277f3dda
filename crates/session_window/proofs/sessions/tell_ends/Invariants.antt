use Rattle.std.proofs.Common.{take, map, false}
use Rattle.sweep_laws.specs.Moves.{Adds, told_at}
use Rattle.session_window.proofs.sessions.tell_ends.Given as goal

abbrev pub invariant-loop-row : goal.invariant-loop-row
invariant-loop-row l = Adds l.fn.answer.items l.answer.items (map (told_at false l.t) (take l.row-index l.rows))
