-- A plan at work before its first step.
use Rattle.std.specs.Prelude.{◌≡◌, ℕ, suc, ◌+◌, ◌-◌, ◌^◌, ◌<◌, ◌≤◌, min, false, Some, List, [], ◌∷◌, ◌++◌, map, length, get_or, slice_get}
use Rattle.std.proofs.Common.{refl, sym, ap, subst, ◌∙◌, take, arith, inl, inr}
use Rattle.std.proofs.lemmas.Bool.{cases_lt}
use Rattle.std.proofs.lemmas.List.{get_or_push, get_or_append_left, get_or-map, take_more, length-map, length-take-le}
use Rattle.std.proofs.lemmas.Option.{slice_get-get_or, slice_get_within, get_or_from_slice_get}
use Rattle.tw_rows.specs.Texts.{BeginsWith}
use Rattle.tw_rows.specs.declared.edge.Edge.{Edge}
use Rattle.plan_model.specs.declared.node.Node.{Node}
use Rattle.plan_model.specs.declared.node.Node.TheVariants.{Source as SourceNode}
use Rattle.plan_model.specs.IsPlan.{PlanParts}
use Rattle.plan_model.specs.Shape.{Shape, Stream, One, Two, shape, read_left, right_of, at_child, right_child}
use Rattle.std.specs.Prelude.{Option, None}
use Rattle.where_select.specs.Texts.{nodes_in}
use Rattle.dataflow.specs.declared.stage.Stage.{Stage}
use Rattle.dataflow.specs.Stages.{left_kinds, right_kinds, IsReady, StageKeeps, StandsAsMade, entries_in}
use Rattle.dataflow.specs.Flows.{parts_of, Flows, held_from}
use Rattle.dataflow.specs.Held.{AreFresh}
use Rattle.dataflow.proofs.Rules.{ready_longer, keeps_longer}
use Rattle.dataflow.proofs.Workers.{with_workers}

left_none : (s : Shape) → read_left {R = List Edge} [] (λ k. []) (λ k. []) s ≡ []
left_none (Stream stream) = refl
left_none (One child) = refl
left_none (Two left right) = refl

right_none : (child : Option ℕ) → at_child {R = List Edge} [] (λ k. []) child ≡ []
right_none None = refl
right_none (Some k) = refl

-- the stages of the nodes so far
pub record AreFreshTo (texts : List (List ℕ)) (capacity : ℕ) (plan : PlanParts) (count : ℕ) (stages : List Stage) : Type 0 where
  pub ready : (i : ℕ) (n : Node) (d : Stage) → i < count → slice_get plan.nodes i ≡ Some n →
      IsReady texts capacity (left_kinds plan n) (right_kinds plan n) n (get_or stages i d) 0 0
  pub opens : (i : ℕ) (n : Node) (d : Stage) → i < count → slice_get plan.nodes i ≡ Some n →
      StageKeeps texts n (get_or stages i d) 0 0 [] [] []
  pub made : (i : ℕ) (d : Stage) → i < count → StandsAsMade (get_or stages i d)

pub fresh_none : (texts : List (List ℕ)) (capacity : ℕ) (plan : PlanParts) (stages : List Stage) → AreFreshTo texts capacity plan 0 stages
fresh_none texts capacity plan stages = record {
  ready = λ i n d low there. absurd (omega (arith, low));
  opens = λ i n d low there. absurd (omega (arith, low));
  made = λ i d low. absurd (omega (arith, low));
}

pub fresh_next : (texts more : List (List ℕ)) → BeginsWith more texts → (capacity : ℕ) (plan : PlanParts) (i : ℕ) (stages : List Stage) (s : Stage) → length stages ≡ i → AreFreshTo texts capacity plan i stages →
    ((n : Node) → slice_get plan.nodes i ≡ Some n → IsReady more capacity (left_kinds plan n) (right_kinds plan n) n s 0 0) →
    ((n : Node) → slice_get plan.nodes i ≡ Some n → StageKeeps more n s 0 0 [] [] []) →
    StandsAsMade s → AreFreshTo more capacity plan (i + 1) (stages ++ s ∷ [])
fresh_next texts more begins capacity plan i stages s count fresh ready opens made = record {
  ready = λ j n d low there. elim (cases_lt j i) [
    | inl before ↦
        subst (λ x. IsReady more capacity (left_kinds plan n) (right_kinds plan n) n x 0 0) (sym (get_or_append_left stages (s ∷ []) d j (omega (arith, before, count))))
        (ready_longer texts more begins capacity (left_kinds plan n) (right_kinds plan n) n (get_or stages j d) 0 0 (fresh.ready j n d before there))
    | inr after ↦
        let e : i ≡ j = omega (arith, low, after) in
        subst (λ k. IsReady more capacity (left_kinds plan n) (right_kinds plan n) n (get_or (stages ++ s ∷ []) k d) 0 0) e
        (subst (λ x. IsReady more capacity (left_kinds plan n) (right_kinds plan n) n x 0 0) (sym (get_or_push stages s d i count)) (ready n (subst (λ k. slice_get plan.nodes k ≡ Some n) (sym e) there)))
  ];
  opens = λ j n d low there. elim (cases_lt j i) [
    | inl before ↦
        subst (λ x. StageKeeps more n x 0 0 [] [] []) (sym (get_or_append_left stages (s ∷ []) d j (omega (arith, before, count))))
        (keeps_longer texts more begins capacity (left_kinds plan n) (right_kinds plan n) n (get_or stages j d) 0 0 (fresh.ready j n d before there) [] [] [] (fresh.opens j n d before there))
    | inr after ↦
        let e : i ≡ j = omega (arith, low, after) in
        subst (λ k. StageKeeps more n (get_or (stages ++ s ∷ []) k d) 0 0 [] [] []) e
        (subst (λ x. StageKeeps more n x 0 0 [] [] []) (sym (get_or_push stages s d i count)) (opens n (subst (λ k. slice_get plan.nodes k ≡ Some n) (sym e) there)))
  ];
  made = λ j d low. elim (cases_lt j i) [
    | inl before ↦ subst StandsAsMade (sym (get_or_append_left stages (s ∷ []) d j (omega (arith, before, count)))) (fresh.made j d before)
    | inr after ↦
        let e : i ≡ j = omega (arith, low, after) in
        subst (λ k. StandsAsMade (get_or (stages ++ s ∷ []) k d)) e (subst StandsAsMade (sym (get_or_push stages s d i count)) made)
  ];
}

pub fresh_all : (texts : List (List ℕ)) (capacity : ℕ) (plan : PlanParts) (stages : List Stage) → length stages ≡ length plan.nodes → AreFreshTo texts capacity plan (length plan.nodes) stages → AreFresh texts capacity plan stages
fresh_all texts capacity plan stages count fresh = record {
  count = count;
  ready = λ i n s there here. subst (λ x. IsReady texts capacity (left_kinds plan n) (right_kinds plan n) n x 0 0) (get_or_from_slice_get stages i s s here) (fresh.ready i n s (slice_get_within plan.nodes i n there) there);
  opens = λ i n s there here. subst (λ x. StageKeeps texts n x 0 0 [] [] []) (get_or_from_slice_get stages i s s here) (fresh.opens i n s (slice_get_within plan.nodes i n there) there);
  made = λ i s here. subst StandsAsMade (get_or_from_slice_get stages i s s here) (fresh.made i s (let low = slice_get_within stages i s here in omega (arith, low, count)));
}

-- so the plan can take its first step
pub flows_at_first : (texts : List (List ℕ)) (capacity workers : ℕ) (plan : PlanParts) (stages : List Stage) → AreFresh texts capacity plan stages → 1 ≤ capacity →
    Flows texts 0 (λ s. []) (λ k. []) (with_workers workers (parts_of plan stages capacity false))
flows_at_first texts capacity workers plan stages fresh room = record {
  can = record {
    count = fresh.count;
    fine = refl;
    room = room;
    ready = λ i n s there here. fresh.ready i n s there here;
  };
  first = λ none k. (refl, refl);
  kept = λ i n s there here.
      subst (λ l. StageKeeps texts n s 0 0 l (right_of [] (λ k. []) n) []) (sym (left_none (shape n)))
      (subst (λ r. StageKeeps texts n s 0 0 [] r []) (sym (right_none (right_child n))) (fresh.opens i n s there here));
}

-- a pair for each stage
held_last : (k : ℕ) (stages : List Stage) (s : Stage) → held_from k (stages ++ s ∷ []) ≡ held_from k stages ++ (k + length stages, min (entries_in s) (2 ^ 64 - 1)) ∷ []
held_last k [] s = (let e : k ≡ k + 0 = omega arith in λ i. (e i, min (entries_in s) (2 ^ 64 - 1)) ∷ [])
held_last k (x ∷ stages) s =
    let e : suc k + length stages ≡ k + suc (length stages) = omega arith in
    ap (λ ps. (k, min (entries_in x) (2 ^ 64 - 1)) ∷ ps) (held_last (suc k) stages s ∙ (λ i. held_from (suc k) stages ++ (e i, min (entries_in s) (2 ^ 64 - 1)) ∷ []))

pub held_next : (stages : List Stage) (i held : ℕ) (s : Stage) (pairs : List (ℕ × ℕ)) → i < length stages → s ≡ get_or stages i s → held ≡ min (entries_in s) (2 ^ 64 - 1) → pairs ≡ held_from 0 (take i stages) →
    pairs ++ (i, held) ∷ [] ≡ held_from 0 (take (i + 1) stages)
held_next stages i held s pairs low is count before =
    let len : 0 + length (take i stages) ≡ i = (let l = length-take-le i stages (omega arith) in omega (arith, l)) in
    (λ j. before j ++ (sym len j, count j) ∷ [])
    ∙ sym (held_last 0 (take i stages) s)
    ∙ ap (held_from 0) (ap (λ x. take i stages ++ x ∷ []) is ∙ sym (take_more stages i s low))

-- what holds of a stage whatever its node is holds of it
pub made_at : (nodes : List Node) (i : ℕ) → i < length nodes → (s : Stage) → ((n : Node) → slice_get nodes i ≡ Some n → StandsAsMade s) → StandsAsMade s
made_at nodes i low s made = made (get_or nodes i (SourceNode 0)) (slice_get-get_or nodes i (SourceNode 0) low)

-- the expressions of the nodes up to one, and its own
pub items_next : (nodes : List Node) (i : ℕ) (n : Node) → i < length nodes → slice_get nodes i ≡ Some n → take (i + 1) (map nodes_in nodes) ≡ take i (map nodes_in nodes) ++ nodes_in n ∷ []
items_next nodes i n low there =
    let long = length-map nodes nodes_in in
    take_more (map nodes_in nodes) i (nodes_in n) (omega (arith, low, long))
    ∙ ap (λ m. take i (map nodes_in nodes) ++ m ∷ []) (get_or-map nodes_in nodes i n (nodes_in n) low ∙ ap nodes_in (get_or_from_slice_get nodes i n n there))
