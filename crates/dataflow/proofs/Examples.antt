-- What the definitions give on small cases.
use Rattle.std.specs.Prelude.{◌≡◌, List, [], ◌∷◌}
use Rattle.std.proofs.Common.{refl, arith, inl, inr}
use Rattle.tw_rows.specs.Instant.{inf}
use Rattle.tw_rows.specs.declared.edge.Edge.{Edge}
use Rattle.plan_model.specs.declared.node.Node.{Node}
use Rattle.plan_model.specs.declared.node.Node.TheVariants.{Source, Union, Delay}
use Rattle.plan_model.specs.IsPlan.{PlanParts}
use Rattle.edge_stream.specs.Lists.{edges_at, longer}
use Rattle.dataflow.specs.Stages.{reached, left_closing, right_closing}
use Rattle.dataflow.specs.Held.{IsNeeded, IsNeededRight}

not_yet : reached 0 5 ≡ 0
not_yet = refl

reached_after_3 : reached 3 5 ≡ 5
reached_after_3 = refl

no_list : edges_at [] 3 ≡ []
no_list = refl

put_behind : (a b : Edge) → longer (λ k. a ∷ []) (λ k. b ∷ []) 1 ≡ a ∷ b ∷ []
put_behind a b = refl

-- a source, and a delay by 5 over it, united
abbrev nodes_of : List Node
nodes_of = Source 0 ∷ Delay 0 5 ∷ Union 0 1 ∷ []

source_reads : left_closing nodes_of 7 (Source 0) ≡ 7
source_reads = refl

nothing_on_the_right : right_closing nodes_of 7 (Delay 0 5) ≡ inf
nothing_on_the_right = refl

union_reads : left_closing nodes_of 7 (Union 0 1) ≡ 7
union_reads = refl

-- its plan, with the union as the root: the source is read by the union on the left, and the delay on the right
abbrev plan_of : PlanParts
plan_of = record { streams = []; nodes = nodes_of; schemas = []; root = 2 }

source_is_read_again : IsNeededRight plan_of 1 0
source_is_read_again = inr (inr (2, (Union 0 1, (omega arith, (refl, inl refl)))))

delay_is_read_on_the_right : IsNeededRight plan_of 2 1
delay_is_read_on_the_right = inl (Union 0 1, (refl, refl))

root_is_needed : IsNeeded plan_of 3 2
root_is_needed = inl refl
