-- The texts of the columns before this one have their places.
use Rattle.std.proofs.Common.{ℕ, ◌<◌, get_or}
use Rattle.batch.specs.declared.payload.Payload.{Payload}
use Rattle.batch.specs.Payloads.{payload_data}
use Rattle.batch.specs.Places.{IsColumnPlaced}
use Rattle.batch.proofs.batch.Batch.are_placed.Given as goal

abbrev pub invariant-loop-column : goal.invariant-loop-column
invariant-loop-column l = (k : ℕ) (d : Payload) → k < l.column-index → IsColumnPlaced l.texts l.self-inside.occupied.items (payload_data (get_or l.self-inside.payload.items k d))
