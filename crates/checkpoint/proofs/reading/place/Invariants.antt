-- The search from here on gives what the whole search gives.
use Rattle.std.proofs.Common.{◌≡◌, drop}
use Rattle.std.specs.List.{position_from}
use Rattle.frozen_state.specs.Forms.{is_form_of}
use Rattle.checkpoint.specs.Steps.{place_of}
use Rattle.checkpoint.proofs.reading.place.Given as goal

abbrev pub invariant-loop-number : goal.invariant-loop-number
invariant-loop-number l = position_from (is_form_of l.part.owner l.part.shard) l.number (drop l.number l.forms) ≡ place_of l.forms l.from l.part
