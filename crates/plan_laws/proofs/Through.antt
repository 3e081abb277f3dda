-- The list of each node of a plan, from those of its children and of the sources.
use Rattle.std.specs.Prelude.{◌≡◌, ℕ, suc, Option, Some, None, List, [], slice_get}
use Rattle.std.proofs.Common.{sym, subst, arith, inl, inr}
use Rattle.std.proofs.lemmas.Bool.{cases_lt}
use Rattle.tw_rows.specs.Instant.{inf}
use Rattle.tw_rows.specs.declared.edge.Edge.{Edge}
use Rattle.plan_model.specs.declared.node.Node.{Node}
use Rattle.plan_model.specs.Shape.{Shape, Stream, One, Two, shape, left_in, at_child, right_child, read_left, left_of, right_of, HasLower, IsOrdered}
use Rattle.plan_model.specs.Meaning.{Sources, node_events, node_closes, closes, events}
use Rattle.plan_model.proofs.Plans.{over_nodes-is}
use Rattle.plan_laws.specs.Places.{read_of}
use Rattle.plan_laws.specs.Standing.{StandsRead, SourcesStandRead, AllStandRead}
use Rattle.plan_laws.proofs.Standing.{none_stand, stands_of_sides}

module _ (texts : List (List ℕ)) (nodes : List Node) (ordered : IsOrdered nodes) (p : ℕ) (source : Sources) (given lists : ℕ → List Edge) (from : SourcesStandRead texts p source given) where
  left_at : (i : ℕ) (s : Shape) → HasLower i (left_in s) → AllStandRead texts nodes p source lists i →
      StandsRead texts (read_left inf (λ k. p) (λ k. closes nodes k p) s) (read_left [] given lists s) (read_left [] source (events source nodes) s)
  left_at i (Stream stream) low through = from stream
  left_at i (One child) low through = through child low
  left_at i (Two left right) low through = through left low

  child_at : (i : ℕ) (o : Option ℕ) → HasLower i o → AllStandRead texts nodes p source lists i →
      StandsRead texts (at_child inf (λ k. closes nodes k p) o) (at_child [] lists o) (at_child [] (events source nodes) o)
  child_at i None low through = none_stand texts inf (omega arith)
  child_at i (Some child) low through = through child low

  -- what a node reads on the left, and on the right
  pub left_stands : (i : ℕ) (n : Node) → slice_get nodes i ≡ Some n → AllStandRead texts nodes p source lists i →
      StandsRead texts (left_of inf (λ k. p) (λ k. closes nodes k p) n) (left_of [] given lists n) (left_of [] source (events source nodes) n)
  left_stands i n there through = left_at i (shape n) (ordered i n there).0 through

  pub right_stands : (i : ℕ) (n : Node) → slice_get nodes i ≡ Some n → AllStandRead texts nodes p source lists i →
      StandsRead texts (right_of inf (λ k. closes nodes k p) n) (right_of [] lists n) (right_of [] (events source nodes) n)
  right_stands i n there through = child_at i (right_child n) (ordered i n there).1 through

  -- the node, from what stands of it over what was read
  pub node_stands : (i : ℕ) (n : Node) → slice_get nodes i ≡ Some n → AllStandRead texts nodes p source lists i →
      StandsRead texts (node_closes n (left_of inf (λ k. p) (λ k. closes nodes k p) n) (right_of inf (λ k. closes nodes k p) n)) (lists i)
      (node_events n (read_of texts (left_of [] given lists n)) (read_of texts (right_of [] lists n))) →
      StandsRead texts (closes nodes i p) (lists i) (events source nodes i)
  node_stands i n there through s =
      subst (λ c. StandsRead texts c (lists i) (events source nodes i)) (sym (over_nodes-is inf (λ k. p) node_closes nodes ordered i n there))
      (subst (λ es. StandsRead texts (node_closes n (left_of inf (λ k. p) (λ k. closes nodes k p) n) (right_of inf (λ k. closes nodes k p) n)) (lists i) es) (sym (over_nodes-is [] source node_events nodes ordered i n there))
      (stands_of_sides texts n (left_of inf (λ k. p) (λ k. closes nodes k p) n) (right_of inf (λ k. closes nodes k p) n) (left_of [] given lists n) (right_of [] lists n) (lists i)
      (left_of [] source (events source nodes) n) (right_of [] (events source nodes) n) (left_stands i n there through) (right_stands i n there through) s))

pub all_more : (texts : List (List ℕ)) (nodes : List Node) (p : ℕ) (source : Sources) (lists : ℕ → List Edge) (i : ℕ) →
    AllStandRead texts nodes p source lists i → StandsRead texts (closes nodes i p) (lists i) (events source nodes i) → AllStandRead texts nodes p source lists (suc i)
all_more texts nodes p source lists i through last k low = elim (cases_lt k i) [
  | inl before ↦ through k before
  | inr after ↦ (let e : i ≡ k = omega (arith, low, after) in subst (λ j. StandsRead texts (closes nodes j p) (lists j) (events source nodes j)) e last)
]
