-- the widths that are found, and those of the streams that are left, are those of all streams
use Rattle.std.proofs.Common.{◌≡◌, ◌++◌, drop, length, map}
use Rattle.query_plan.proofs.choosing.widths_of.Given as goal

abbrev pub invariant-loop-stream : goal.invariant-loop-stream
invariant-loop-stream l =
    l.widths.items ++ map (λ s. length s.schema) (drop l.stream-index l.stream-items) ≡ map (λ s. length s.schema) l.stream-items
