use Rattle.std.proofs.Common.{◌≡◌, ◌++◌, map}
use Rattle.query_plan.specs.Growing.{levels_of}
use Rattle.query_plan.proofs.draft.put_all.Given as goal

abbrev pub invariant-loop-next : goal.invariant-loop-next
invariant-loop-next l =
    (l.nodes.items ≡ l.fn.nodes.items ++ map (λ p. p.node) l.yielded)
    × (l.schemas.items ≡ l.fn.schemas.items ++ map (λ p. p.schema) l.yielded)
    × (l.levels.items ≡ levels_of l.nodes.items)
