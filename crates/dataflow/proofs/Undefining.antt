-- Instants at which the nodes of a plan are undefined, as their stages find them.
use Rattle.std.specs.Prelude.{◌≡◌, ℕ, ◌<◌, ◌≤◌, Bool, true, false, is_some, IsTrue, Option, Some, None, List, [], slice_get}
use Rattle.std.proofs.Common.{refl, sym, ap, subst, ◌∙◌, arith, inl, inr}
use Rattle.std.proofs.lemmas.Bool.{cases_lt}
use Rattle.tw_rows.specs.Bag.{SameBag}
use Rattle.tw_rows.specs.Event.{Event, alive}
use Rattle.tw_rows.specs.Instant.{inf}
use Rattle.tw_rows.specs.Rows.{Row}
use Rattle.tw_rows.specs.declared.edge.Edge.{Edge}
use Rattle.tw_rows.proofs.Bags.{SameBag-refl}
use Rattle.plan_model.specs.declared.node.Node.{Node}
use Rattle.plan_model.specs.declared.node.Node.TheVariants.{Source, Where, Select, Union, Delay, Hop, Duration, Extend, Session, Clip, Group, Join, Anti, Coalesce, Mean, Top, Follow}
use Rattle.plan_model.specs.IsPlan.{PlanParts, IsPlan}
use Rattle.plan_model.specs.Keys.{value_ops}
use Rattle.plan_model.specs.Meaning.{Sources, left_of, node_closes, closes, events, snapshots}
use Rattle.plan_model.proofs.Closings.{closes_low}
use Rattle.plan_model.proofs.Kept.{IsPlan-ordered}
use Rattle.plan_model.proofs.Levels.{IsPlan-levelled}
use Rattle.plan_model.proofs.PlanLaws.{events_agree}
use Rattle.plan_model.proofs.Plans.{over_nodes-is, left_all}
use Rattle.plan_laws.specs.Undefined.{is_group, undefined_over, left_rows, undefined_node, undefined_at, first_below, first_undefined, overflow_of, overflow_there}
use Rattle.plan_laws.proofs.Undefinedness.{undefined_others, undefined_alike, undefined_known, first_below_same, IsFirst, first_below_is}
use Rattle.plan_laws.specs.Places.{read_of}
use Rattle.plan_laws.specs.Standing.{StandsRead}
use Rattle.dataflow.specs.Slices.{overflow_under}
use Rattle.dataflow.specs.Stages.{left_closing, right_closing, first_undefined_read}

-- a group is closed where its child is
group_closes : (n : Node) (u v : ℕ) → is_group n ≡ true → node_closes n u v ≡ u
group_closes (Group of key aggs) u v e = refl
group_closes (Source stream) u v e = refl
group_closes (Where of test) u v e = refl
group_closes (Select of items) u v e = refl
group_closes (Union left right) u v e = absurd (cc)
group_closes (Delay of by) u v e = absurd (cc)
group_closes (Hop of size period) u v e = absurd (cc)
group_closes (Duration of by) u v e = refl
group_closes (Extend of by) u v e = refl
group_closes (Session of timeout key) u v e = refl
group_closes (Clip left right left_key right_key) u v e = absurd (cc)
group_closes (Join left right left_key right_key) u v e = absurd (cc)
group_closes (Anti left right left_key right_key) u v e = absurd (cc)
group_closes (Coalesce of) u v e = refl
group_closes (Mean of at) u v e = refl
group_closes (Top of key by count) u v e = refl
group_closes (Follow left right left_key right_key within) u v e = absurd (cc)

module _ (texts : List (List ℕ)) (plan : PlanParts) (kept : IsPlan plan) (p : ℕ) (low : p ≤ inf) (source : Sources) (i : ℕ) (n : Node) (there : slice_get plan.nodes i ≡ Some n) where
  own_closing : closes plan.nodes i p ≡ node_closes n (left_closing plan.nodes p n) (right_closing plan.nodes p n)
  own_closing = over_nodes-is inf (λ s. p) node_closes plan.nodes (IsPlan-ordered plan kept) i n there

  rows_alike : (t : ℕ) → t < inf → SameBag (alive (left_of [] source (events source plan.nodes) n) t) (left_rows source plan.nodes t n)
  rows_alike t below =
      left_all (λ (es : List (Event Row)) (rows : List Row) (z : ℕ). SameBag (alive es t) rows) [] [] 0 source (λ s. alive (source s) t) (λ s. 0) (events source plan.nodes) (λ k. snapshots source plan.nodes k t) (λ k. 0) i n
      (IsPlan-ordered plan kept i n there).0 (λ s. SameBag-refl (alive (source s) t)) (λ k lower. (events_agree source plan.nodes (IsPlan-ordered plan kept) (IsPlan-levelled plan kept) k).same_rows t below)

  -- at an instant below its closing the node is undefined where it is over what is read of the edges that came
  at_instant : (hl : List Edge) → StandsRead texts (left_closing plan.nodes p n) hl (left_of [] source (events source plan.nodes) n) → (t : ℕ) → t < closes plan.nodes i p →
      undefined_over value_ops n (alive (read_of texts hl) t) ≡ undefined_at source plan.nodes i t
  at_instant hl stands t below = pick (is_group n) refl ∙ sym (ap (undefined_node source plan.nodes t) there)
    where
      pick : (b : Bool) → is_group n ≡ b → undefined_over value_ops n (alive (read_of texts hl) t) ≡ undefined_over value_ops n (left_rows source plan.nodes t n)
      pick false e = undefined_others value_ops n (alive (read_of texts hl) t) e ∙ sym (undefined_others value_ops n (left_rows source plan.nodes t n) e)
      pick true e =
          let all : closes plan.nodes i p ≤ inf = closes_low plan.nodes (IsPlan-ordered plan kept) p p (omega arith) low i in
          let here : t < left_closing plan.nodes p n = subst (λ c. t < c) (own_closing ∙ group_closes n (left_closing plan.nodes p n) (right_closing plan.nodes p n) e) below in
          undefined_known value_ops n (left_closing plan.nodes p n) t (read_of texts hl) (left_of [] source (events source plan.nodes) n) stands.known here
          ∙ undefined_alike value_ops n (alive (left_of [] source (events source plan.nodes) n) t) (left_rows source plan.nodes t n) (rows_alike t (omega (arith, below, all)))

  -- and so is the first such instant
  pub first_as_read : (hl : List Edge) → StandsRead texts (left_closing plan.nodes p n) hl (left_of [] source (events source plan.nodes) n) → (found : Option ℕ) →
      first_undefined_read texts n hl (node_closes n (left_closing plan.nodes p n) (right_closing plan.nodes p n)) ≡ found → first_undefined source plan.nodes i (closes plan.nodes i p) ≡ found
  first_as_read hl stands found e =
      sym (first_below_same (λ t. undefined_over value_ops n (alive (read_of texts hl) t)) (undefined_at source plan.nodes i) (closes plan.nodes i p) (at_instant hl stands))
      ∙ ap (first_undefined_read texts n hl) own_closing ∙ e

-- the overflow of a punctuation, from the first instants of its nodes
module _ (first : ℕ → Option ℕ) where
  none_there : (count : ℕ) → ((j : ℕ) → j < count → first j ≡ None) → overflow_there first (first_below (λ i. is_some (first i)) count) ≡ None
  none_there count none = go (first_below (λ i. is_some (first i)) count) (first_below_is (λ i. is_some (first i)) count)
    where
      go : (o : Option ℕ) → IsFirst (λ i. is_some (first i)) count o → overflow_there first o ≡ None
      go None h = refl
      go (Some t) h = ap (overflow_of t) (none t h.0)

  some_there : (count i time : ℕ) → i < count → first i ≡ Some time → ((j : ℕ) → j < i → first j ≡ None) →
      overflow_there first (first_below (λ j. is_some (first j)) count) ≡ Some (record { node = i; time = time })
  some_there count i time low here none = go (first_below (λ j. is_some (first j)) count) (first_below_is (λ j. is_some (first j)) count)
    where
      at : (t : ℕ) → t ≡ i → overflow_of t (first t) ≡ Some (record { node = i; time = time })
      at t e = ap (λ k. overflow_of k (first k)) e ∙ ap (overflow_of i) here

      go : (o : Option ℕ) → IsFirst (λ j. is_some (first j)) count o → overflow_there first o ≡ Some (record { node = i; time = time })
      go None h = (let no : is_some (first i) ≡ false = h i low in let yes : is_some (first i) ≡ true = ap is_some here in absurd (cc))
      go (Some t) h = elim (cases_lt t i) [
        | inl less ↦ (let no : is_some (first t) ≡ false = ap is_some (none t less) in let yes : IsTrue (is_some (first t)) = h.1 in absurd (cc))
        | inr more ↦ elim (cases_lt i t) [
          | inl greater ↦ (let no : is_some (first i) ≡ false = h.2 i greater in let yes : is_some (first i) ≡ true = ap is_some here in absurd (cc))
          | inr less ↦ at t (omega (arith, more, less))
        ]
      ]

pub none_under : (source : Sources) (nodes : List Node) (p count : ℕ) → ((j : ℕ) → j < count → first_undefined source nodes j (closes nodes j p) ≡ None) → overflow_under source nodes p count ≡ None
none_under source nodes p count none = none_there (λ i. first_undefined source nodes i (closes nodes i p)) count none

pub overflow_at : (source : Sources) (nodes : List Node) (p count i time : ℕ) → i < count → first_undefined source nodes i (closes nodes i p) ≡ Some time →
    ((j : ℕ) → j < i → first_undefined source nodes j (closes nodes j p) ≡ None) → overflow_under source nodes p count ≡ Some (record { node = i; time = time })
overflow_at source nodes p count i time low here none = some_there (λ i. first_undefined source nodes i (closes nodes i p)) count i time low here none
