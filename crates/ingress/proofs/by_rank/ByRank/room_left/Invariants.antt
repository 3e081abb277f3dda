use Rattle.std.proofs.Common.{◌≡◌, ◌+◌, ◌*◌, length}
use Rattle.std.specs.Prelude.{filter}
use Rattle.ingress.specs.Ranks.{edges_at, is_between}
use Rattle.ingress.proofs.by_rank.ByRank.room_left.Given as goal

abbrev pub invariant-loop-edges : goal.invariant-loop-edges
invariant-loop-edges l = l.rest + length (filter (is_between (2 * l.fn.from) (2 * l.fn.to)) l.self) ≡ l.room + length (edges_at l.edges-iterator)
