use Rattle.std.proofs.Common.{◌≡◌, ◌≤◌, ◌+◌, ◌-◌, ◌^◌, min, length}
use Rattle.ingress.specs.Ranks.{edges_at}
use Rattle.ingress.proofs.by_rank.ByRank.len.Given as goal

abbrev pub invariant-loop-edges : goal.invariant-loop-edges
invariant-loop-edges l = record {
  count : min (l.len + length (edges_at l.edges-iterator)) (2 ^ 64 - 1) ≡ min (length l.self) (2 ^ 64 - 1);
  within : l.len ≤ 2 ^ 64 - 1;
}
