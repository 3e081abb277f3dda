use Rattle.std.proofs.Common.{ℕ, ◌<◌, ◌≤◌, get_or}
use Rattle.row_reader.specs.Printed.{IsEnd}
use Rattle.ingress.proofs.loading.are_each_sound.Given as goal

abbrev pub invariant-loop-i : goal.invariant-loop-i
invariant-loop-i l = (s : ℕ) → s < l.i → IsEnd (get_or l.bounds s 0) × IsEnd (get_or l.marks s 0) × (l.last ≤ get_or l.bounds s 0) × (get_or l.marks s 0 ≤ get_or l.bounds s 0)
