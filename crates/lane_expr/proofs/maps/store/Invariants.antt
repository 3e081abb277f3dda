-- The items before are as they were, and those so far are there.
use Rattle.std.proofs.Common.{◌≡◌, ℕ, ◌+◌, ◌<◌, length}
use Rattle.std.specs.Prelude.{slice_index_or}
use Rattle.lane_expr.proofs.maps.store.Given as goal

abbrev pub invariant-loop-j : goal.invariant-loop-j
invariant-loop-j g l = record {
  before : (i : ℕ) → i < length l.fn.out.items → slice_index_or l.out.items i g.C.Lane.blank ≡ slice_index_or l.fn.out.items i g.C.Lane.blank;
  long : length l.out.items ≡ length l.fn.out.items + l.j;
  values : (j : ℕ) → j < l.j → slice_index_or l.out.items (length l.fn.out.items + j) g.C.Lane.blank ≡ g.C.Lane.cell_at l.from j;
  room : l.out.capacity ≡ l.fn.out.capacity;
}
