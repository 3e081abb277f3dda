-- What is given back and what is still to be given make up the whole.
use Rattle.std.proofs.Common.{◌≡◌, map, length}
use Rattle.std.specs.Prelude.{All}
use Rattle.batch.specs.Payloads.{payload_kind, payload_capacity}
use Rattle.batch.specs.PoolsView.{all_given}
use Rattle.batch.proofs.making.give_columns.Given as goal

abbrev pub invariant-loop-column : goal.invariant-loop-column
invariant-loop-column l = record {
  given : all_given l.pools (map payload_kind l.payload.items) ≡ all_given l.fn.pools (map payload_kind l.fn.payload.items);
  room : All (λ p. payload_capacity p ≡ l.pools.capacity) l.payload.items;
}

abbrev pub decreases-loop-column : goal.decreases-loop-column
decreases-loop-column l = length l.payload.items
