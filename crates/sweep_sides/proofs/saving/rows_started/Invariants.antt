-- The rows of the edges before this one are there.
use Rattle.std.proofs.Common.{◌≡◌, ℕ, take}
use Rattle.tw_rows.specs.Bag.{total}
use Rattle.tw_rows.specs.declared.edge.HeldRow.{HeldRow}
use Rattle.sweep_laws.specs.Saving.{rows_of}
use Rattle.sweep_sides.proofs.saving.rows_started.Given as goal

abbrev pub invariant-loop-edge : goal.invariant-loop-edge
invariant-loop-edge l = record {
  key : l.rows.key ≡ l.key;
  rows : (w : HeldRow → ℕ) → total w l.rows.rows ≡ total w (rows_of (take l.edge-index l.edges));
}
