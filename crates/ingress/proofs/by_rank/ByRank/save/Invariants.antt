use Rattle.std.proofs.Common.{◌≡◌, ◌++◌}
use Rattle.edge_stream.specs.Entries.{entries_of}
use Rattle.ingress.specs.Ranks.{edges_at}
use Rattle.ingress.proofs.by_rank.ByRank.save.Given as goal

abbrev pub invariant-loop-edges : goal.invariant-loop-edges
invariant-loop-edges l = l.saved ++ entries_of l.part (edges_at l.edges-iterator) ≡ l.fn.saved ++ entries_of l.part l.self
