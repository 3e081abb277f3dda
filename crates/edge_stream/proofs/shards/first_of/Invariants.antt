-- Of the cursors before this one, the first edge of least rank is that of the place, if there is one.
use Rattle.std.proofs.Common.{◌≡◌, ◌<◌, ℕ, false, get_or}
use Rattle.std.specs.Prelude.{None, IsSome, IfSome, IfNone, length}
use Rattle.edge_stream.specs.Reading.{Unread, rank_ahead, is_below_rank}
use Rattle.edge_stream.proofs.shards.first_of.Given as goal

abbrev pub invariant-loop-i : goal.invariant-loop-i
invariant-loop-i l = record {
  before : (k : ℕ) (d : Unread) → k < l.i → is_below_rank (rank_ahead (get_or l.cursors k d).edges) l.least ≡ false;
  within : IfSome l.first (λ i. i < length l.cursors);
  least : IfSome l.first (λ i. (d : Unread) → rank_ahead (get_or l.cursors i d).edges ≡ l.least);
  some : IfSome l.first (λ i. IsSome l.least);
  none : IfNone l.first (l.least ≡ None);
}
