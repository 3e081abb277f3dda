use Rattle.std.proofs.Common.{◌≡◌}
use Rattle.ingress.specs.Admits.{kinds_of}
use Rattle.ingress.specs.Ranks.{SamePools, lists_taken}
use Rattle.ingress.proofs.Leaving.{ReleasedTo}
use Rattle.ingress.proofs.ingress.Ingress.copy_below.Given as goal

abbrev pub invariant-loop-stream : goal.invariant-loop-stream
invariant-loop-stream l = record {
  released : ReleasedTo l.fn.p l.stream l.self.capacity (kinds_of l.self) l.self.held.waiting.items l.lists.items;
  taken : l.pools ≡ lists_taken l.fn.pools l.lists.items;
  pools : SamePools l.fn.pools l.pools;
}
