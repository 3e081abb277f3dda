-- The entries before this one are ends or of other parts.
use Rattle.std.proofs.Common.{◌≡◌, true, take}
use Rattle.std.specs.List.{list_all}
use Rattle.lifetime_ops.specs.ExtendSaving.{is_end_in}
use Rattle.lifetime_ops.proofs.extending.are_ends_of_part.Given as goal

abbrev pub invariant-loop-entry : goal.invariant-loop-entry
invariant-loop-entry l = list_all (is_end_in l.part) (take l.entry-index l.entries) ≡ true
