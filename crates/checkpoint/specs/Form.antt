-- What is known of a checkpoint by whoever knows the query, the options and the plan.
use Rattle.std.specs.Prelude.{ℕ, zero, suc, List, [], ◌∷◌, ◌++◌, length, map, take, drop}
use Rattle.plan_model.specs.IsPlan.{PlanParts}
use Rattle.admission.specs.declared.policy.Policy.{Policy}
use Rattle.frozen_state.specs.Forms.{PartFormView, part_forms}
use Rattle.checkpoint.specs.Lines.{form_line, query_line, options_line}

-- the first lines, how many streams there are, and the parts
pub record FormView : Type 0 where
  pub head : List (List ℕ)
  pub streams : ℕ
  pub parts : List PartFormView

-- how many bytes of the query a line has at most
abbrev pub most_of_query : ℕ
most_of_query = 30000

-- the bytes cut into pieces, at most n, each of the most bytes but for the last one
abbrev pub pieces : ℕ → List ℕ → List (List ℕ)
pieces zero bytes = []
pieces (suc n) [] = []
pieces (suc n) (b ∷ bs) = take most_of_query (b ∷ bs) ∷ pieces n (drop most_of_query (b ∷ bs))

-- the query's bytes, in as many lines as they need
abbrev pub query_lines : List ℕ → List (List ℕ)
query_lines query = map query_line (pieces (length query) query)

-- the lines in front of what was frozen
abbrev pub head_lines : List ℕ → ℕ → Policy → List (List ℕ)
head_lines query workers policy = form_line ∷ (query_lines query ++ options_line workers policy ∷ [])

-- the form of the checkpoints of a query with these options and this plan
abbrev pub form_of : List ℕ → ℕ → Policy → PlanParts → FormView
form_of query workers policy plan = record { head = head_lines query workers policy; streams = length plan.streams; parts = part_forms workers plan }
