use Rattle.std.proofs.Common.{◌≡◌, ℕ, ◌<◌, ◌≤◌, max, length}
use Rattle.ingress.specs.Streams.{bound_in, mark_in}
use Rattle.ingress.proofs.watermarks.Watermarks.raise_all.Given as goal

abbrev pub invariant-loop-stream : goal.invariant-loop-stream
invariant-loop-stream l = record {
  len : length l.self.streams.items ≡ length l.fn.self.streams.items;
  raised_bounds : (s : ℕ) → s < l.stream → bound_in l.self.streams.items s ≡ max (bound_in l.fn.self.streams.items s) l.t;
  bounds : (s : ℕ) → l.stream ≤ s → bound_in l.self.streams.items s ≡ bound_in l.fn.self.streams.items s;
  raised_marks : (s : ℕ) → s < l.stream → mark_in l.self.streams.items s ≡ max (mark_in l.fn.self.streams.items s) l.t;
  marks : (s : ℕ) → l.stream ≤ s → mark_in l.self.streams.items s ≡ mark_in l.fn.self.streams.items s;
}
