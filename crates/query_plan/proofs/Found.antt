-- What a search for cuts keeps.
use Rattle.std.specs.Prelude.{◌≡◌, ℕ, zero, suc, ◌+◌, ◌*◌, ◌<◌, ◌≤◌, min, nat_eq, nat_lt, Bool, true, false, Some, None, List, [], ◌∷◌, ◌++◌, length, slice_get, slice_index_or, drop, refl}
use Rattle.std.proofs.Common.{inl, inr, sym, ◌∙◌, ap, subst, arith, add-one, mul-suc, mul_assoc, drop-cons}
use native.Mathlib.Numerals.{unary_clauses}
use Rattle.std.proofs.Math.Seq.{get_or-append_seam}
use Rattle.std.proofs.lemmas.Bool.{cases_lt, ltb-false}
use Rattle.std.proofs.lemmas.List.{get_or_append_left}
use Rattle.plan_model.specs.declared.node.Node.{Node}
use Rattle.plan_model.specs.IsPlan.{PlanParts, IsPlan}
use Rattle.plan_model.specs.Shape.{left_of, right_of}
use Rattle.plan_model.proofs.Kept.{IsPlan-ordered, node_at}
use Rattle.plan_model.proofs.Plans.{over_nodes-from}
use Rattle.plan_laws.specs.Undefined.{or_next, first_below}
use Rattle.query_plan.specs.Cuts.{in_both_keys, node_places, width_at, stream_places, cut_places, is_uncut}
use Rattle.query_plan.specs.Choices.{choice_count}

-- no column is found once one of the keys ends
no_other : (left_key left right : List ℕ) → in_both_keys left_key [] left right ≡ []
no_other [] left right = refl
no_other (l ∷ left_key) left right = refl

no_more : (xs : List ℕ) → xs ++ [] ≡ xs
no_more [] = refl
no_more (x ∷ xs) = ap (λ l. x ∷ l) (no_more xs)

pub left_ends : (found left_key right_key left right all : List ℕ) → left_key ≡ [] →
    found ++ in_both_keys left_key right_key left right ≡ all → found ≡ all
left_ends found left_key right_key left right all e h =
    sym (no_more found) ∙ (ap (λ l. found ++ in_both_keys l right_key left right) (sym e) ∙ h)

pub right_ends : (found left_key right_key left right all : List ℕ) → right_key ≡ [] →
    found ++ in_both_keys left_key right_key left right ≡ all → found ≡ all
right_ends found left_key right_key left right all e h =
    sym (no_more found)
    ∙ (ap (λ l. found ++ l) (sym (no_other left_key left right))
    ∙ (ap (λ l. found ++ in_both_keys left_key l left right) (sym e) ∙ h))

pub past : (b : Bool) (i n : ℕ) → b ≡ nat_lt i n → b ≡ false → n ≤ i
past b i n e k = ltb-false i n (sym e ∙ k)

-- the columns of the next node, from those of the nodes before it
pub next_found : (plan : PlanParts) → IsPlan plan → (columns : List ℕ) (i : ℕ) (n : Node) → slice_get plan.nodes i ≡ Some n →
    (done : List (List ℕ)) → ((k : ℕ) → k < i → slice_index_or done k [] ≡ cut_places plan columns k) →
    node_places (width_at plan.schemas) n (left_of [] (stream_places plan.streams columns) (λ k. slice_index_or done k []) n)
    (right_of [] (λ k. slice_index_or done k []) n) ≡ cut_places plan columns i
next_found plan kept columns i n there done below =
    sym (over_nodes-from [] (stream_places plan.streams columns) (node_places (width_at plan.schemas)) plan.nodes
    (IsPlan-ordered plan kept) i n there (λ k. slice_index_or done k []) below)

-- the least number that passes a test
pub first_is : (p : ℕ → Bool) (i n : ℕ) → first_below p i ≡ None → p i ≡ true → i < n → first_below p n ≡ Some i
first_is p i zero none here low = absurd (omega (arith, low))
first_is p i (suc n) none here low = elim (cases_lt i n) [
  | inl less ↦ rw (first_is p i n none here less) refl
  | inr more ↦
      let same : i ≡ n = omega (arith, low, more) in
      subst (λ k. or_next p k (first_below p k) ≡ Some i) same (rw (none, here) refl)
]

pub none_more : (p : ℕ → Bool) (i : ℕ) → first_below p i ≡ None → p i ≡ false → first_below p (suc i) ≡ None
none_more p i none out = rw (none, out) refl

-- products that stop at a greatest number
pub saturates : (a r most : ℕ) → min (min a most * r) most ≡ min (a * r) most
saturates a zero most = simp unary_clauses
saturates a (suc r) most = elim (cases_lt most a) [
  | inl less ↦
      let is : min a most ≡ most = omega (arith, less) in
      rw (is) (rw (mul-suc most r, mul-suc a r) (omega (arith, less)))
  | inr more ↦ (let is : min a most ≡ a = omega (arith, more) in rw (is) refl)
]

pub some_each : (w n : ℕ) → 0 < w * n → (0 < w) × (0 < n)
some_each zero n h = absurd (omega (arith, h))
some_each (suc w) zero h = absurd (omega (arith, h))
some_each (suc w) (suc n) h = (omega arith, omega arith)

-- one more number
pub count_more : (count i next most all : ℕ) (widths : List ℕ) → i < length widths →
    next ≡ min (count * slice_index_or widths i 0) most → min (count * choice_count (drop i widths)) most ≡ all →
    min (next * choice_count (drop (i + 1) widths)) most ≡ all
count_more count i next most all widths low e h =
    let w = slice_index_or widths i 0 in
    let rest = choice_count (drop (i + 1) widths) in
    let first : drop i widths ≡ w ∷ drop (i + 1) widths = rw (add-one i) (drop-cons widths i 0 low) in
    ap (λ n. min (n * rest) most) e
    ∙ (saturates (count * w) rest most
    ∙ (ap (λ n. min n most) (mul_assoc count w rest)
    ∙ (ap (λ l. min (count * choice_count l) most) (sym first) ∙ h)))

-- the columns that are found of the node that is read
pub next_is : (plan : PlanParts) → IsPlan plan → (columns : List ℕ) (i : ℕ) (n : Node) (nodes : List Node)
    (done passed : List (List ℕ)) (places : List ℕ) → nodes ≡ plan.nodes → i < length nodes → n ≡ slice_index_or nodes i n →
    passed ≡ done → ((k : ℕ) → k < i → slice_index_or done k [] ≡ cut_places plan columns k) →
    places ≡ node_places (width_at plan.schemas) n
    (left_of [] (stream_places plan.streams columns) (λ k. slice_index_or passed k []) n)
    (right_of [] (λ k. slice_index_or passed k []) n) → places ≡ cut_places plan columns i
next_is plan kept columns i n nodes done passed places same low is value below e =
    e ∙ next_found plan kept columns i n
    (node_at plan nodes i n kept same (subst (λ l. i < length l) same low) is).here passed
    (λ k less. ap (λ l. slice_index_or l k []) value ∙ below k less)

pub uncut_is : (plan : PlanParts) (columns : List ℕ) (i : ℕ) (places : List ℕ) (b : Bool) → places ≡ cut_places plan columns i →
    nat_eq (length places) 0 ≡ b → is_uncut plan columns i ≡ b
uncut_is plan columns i places b is e = ap (λ l. nat_eq (length l) 0) (sym is) ∙ e

pub done_more : (f : ℕ → List ℕ) (i : ℕ) (done new : List (List ℕ)) (x : List ℕ) → length done ≡ i → new ≡ done ++ x ∷ [] →
    ((k : ℕ) → k < i → slice_index_or done k [] ≡ f k) → x ≡ f i → (k : ℕ) → k < i + 1 → slice_index_or new k [] ≡ f k
done_more f i done new x counted is below here k low = elim (cases_lt k i) [
  | inl less ↦
      ap (λ l. slice_index_or l k []) is
      ∙ (get_or_append_left done (x ∷ []) [] k (omega (arith, less, counted)) ∙ below k less)
  | inr more ↦
      let at : k ≡ length done = omega (arith, low, more, counted) in
      ap (λ l. slice_index_or l k []) is
      ∙ (ap (λ j. slice_index_or (done ++ x ∷ []) j []) at
      ∙ (get_or-append_seam done x [] []
      ∙ (here ∙ ap f (let z : i ≡ k = omega (arith, at, counted) in z))))
]
