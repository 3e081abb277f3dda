use Rattle.std.proofs.Common.{length}
use Rattle.ingress.proofs.Released.{Dropping}
use Rattle.ingress.proofs.by_rank.ByRank.drop_below.Given as goal

abbrev pub invariant-ranks : goal.invariant-ranks
invariant-ranks l = Dropping l.fn.t l.initial.self-inside.ranks.entries l.self-inside.ranks.entries

abbrev pub decreases-ranks : goal.decreases-ranks
decreases-ranks l = length l.self-inside.ranks.entries
