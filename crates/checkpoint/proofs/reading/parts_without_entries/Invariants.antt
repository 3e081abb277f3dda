-- The parts so far are those of the forms so far.
use Rattle.std.proofs.Common.{◌≡◌, take}
use Rattle.checkpoint.specs.Steps.{empty_parts}
use Rattle.checkpoint.proofs.reading.parts_without_entries.Given as goal

abbrev pub invariant-loop-form : goal.invariant-loop-form
invariant-loop-form l = l.parts.items ≡ empty_parts (take l.form-index l.forms)
