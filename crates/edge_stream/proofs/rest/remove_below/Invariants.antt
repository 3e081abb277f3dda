-- Batches that came before the time are gone.
use Rattle.std.proofs.Common.{◌≡◌, ℕ, List, length}
use Rattle.std.specs.Prelude.{filter, All}
use Rattle.tw_rows.specs.declared.kind.CellKind.{CellKind}
use Rattle.edge_history.specs.Order.{Rises, is_from}
use Rattle.edge_stream.specs.Listing.{IsOf, edges_in}
use Rattle.edge_stream.proofs.rest.remove_below.Given as goal

abbrev pub invariant-whole : goal.invariant-whole
invariant-whole l = record {
  edges : filter (is_from l.t) (edges_in l.batches.items) ≡ filter (is_from l.t) (edges_in l.fn.batches.items);
  rises : Rises 0 (edges_in l.batches.items);
  alike : (kinds : List CellKind) (capacity : ℕ) → All (IsOf kinds capacity) l.fn.batches.items → All (IsOf kinds capacity) l.batches.items;
}

abbrev pub decreases-whole : goal.decreases-whole
decreases-whole l = length l.batches.items
