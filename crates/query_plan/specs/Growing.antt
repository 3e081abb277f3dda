-- A draft as it grows: what is found of the nodes that are put behind it, one after the other.
use Rattle.std.specs.Prelude.{◌≡◌, ℕ, nat_lt, Bool, true, not, Result, Ok, List, [], ◌∷◌, ◌++◌}
use Rattle.plan_model.specs.declared.fault.QueryFault.{QueryFault}
use Rattle.plan_model.specs.declared.fault.QueryFault.TheVariants as F
use Rattle.plan_model.specs.declared.node.Node.{Node}
use Rattle.plan_model.specs.Fold.{results_from, by_number}
use Rattle.plan_model.specs.IsPlan.{most_reach}
use Rattle.plan_model.specs.Meaning.{left_of, right_of}
use Rattle.plan_model.specs.Reach.{node_reach, node_is_event_level}
use Rattle.query_plan.specs.Draft.{Planned, and_then, needs}

-- whether the rows of the next node are events, from the levels of the nodes before it
abbrev pub next_level : Node → List Bool → Bool
next_level = by_number true (λ n at. node_is_event_level n (left_of true (λ s. true) at n) (right_of true at n))

-- the levels of all nodes. Of a source and a group over it: true, false
abbrev pub levels_of : List Node → List Bool
levels_of nodes = results_from next_level [] nodes

-- how far the next node reaches, from the reaches of the nodes before it
abbrev pub next_reach : Node → List ℕ → ℕ
next_reach = by_number 0 (λ n at. node_reach n (left_of 0 (λ s. 0) at n) (right_of 0 at n))

-- the reaches of all nodes. Of a source and a delay of 60 over it: 0, 60
abbrev pub reaches_of : List Node → List ℕ
reaches_of nodes = results_from next_reach [] nodes

-- the levels and the reaches are those of the nodes
abbrev pub AreFound : List Bool → List ℕ → List Node → Type 0
AreFound levels reaches nodes = (levels ≡ levels_of nodes) × (reaches ≡ reaches_of nodes)

-- the reach of the next node, or the fault where it is too far
abbrev pub near_reach : ℕ → Node → List ℕ → Result ℕ QueryFault
near_reach item n done = and_then (needs (not (nat_lt most_reach (next_reach n done))) (F.ReachTooLong item)) (λ u. Ok (next_reach n done))

-- the reaches with those of these nodes behind them, or the fault where one of them is too far
abbrev pub reaches_with : ℕ → List ℕ → List Planned → Result (List ℕ) QueryFault
reaches_with item done [] = Ok done
reaches_with item done (p ∷ ps) = and_then (near_reach item p.node done) (λ r. reaches_with item (done ++ r ∷ []) ps)
