-- What a Source, a Where and a Select make of the edges that come in.
use Rattle.std.specs.Prelude.{◌≡◌, ℕ, List}
use Rattle.tw_rows.specs.declared.edge.Edge.{Edge}
use Rattle.plan_model.specs.declared.node.Node.{Node}
use Rattle.plan_model.specs.declared.node.Node.TheVariants.{Where, Select}
use Rattle.plan_laws.specs.Places.{EdgesArePlaced}
use Rattle.plan_laws.specs.Selected.{tested_edges, AreSelected}

-- the edges that a node puts out for those that came in, each read through the table. Of starts with the rows 5 and 20 the
-- node `where v > 10` makes the second, and the node `select v + v` starts with the rows 10 and 40. Each other node stands
-- here with the edges as they came
abbrev pub IsMade : List (List ℕ) → Node → List Edge → List Edge → Type 0
IsMade texts (Where of test) left out = out ≡ tested_edges texts test left
IsMade texts (Select of items) left out = AreSelected texts items left out × EdgesArePlaced texts out
IsMade texts n left out = out ≡ left
