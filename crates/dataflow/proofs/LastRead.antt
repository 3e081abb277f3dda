-- Which node reads a list last, node by node.
use Rattle.std.specs.Prelude.{◌≡◌, ◌↔◌, ◌⊎◌, ℕ, ◌+◌, ◌<◌, ◌≤◌, nat_lt, nat_eq, IsTrue, Option, Some, None, List, length, get_or, slice_get, slice_set}
use Rattle.std.proofs.Common.{refl, sym, ap, subst, ◌∙◌, arith, inl, inr}
use Rattle.std.proofs.lemmas.Bool.{cases_lt, cases_eq}
use Rattle.std.proofs.lemmas.Bool.Decides.{Decides-eqb, Decides-ltb}
use Rattle.std.proofs.lemmas.List.{get_or-set_same, get_or-set_other, length-set}
use Rattle.std.proofs.lemmas.Option.{slice_get_within}
use Rattle.plan_model.specs.declared.node.Node.{Node}
use Rattle.plan_model.specs.declared.node.Node.TheVariants.{Source}
use Rattle.plan_model.specs.IsPlan.{PlanParts, IsPlan, ReadsStream as ReadsStreamIn}
use Rattle.plan_model.specs.Meaning.{left_child, right_child, HasLower}
use Rattle.dataflow.specs.Held.{IsRead, IsNeededStream}
use Rattle.dataflow.specs.Readers.{with_last}

-- of the first i numbers, those from one on that are below m have such a one among them
abbrev pub IsLast : (ℕ → Type 0) → ℕ → ℕ → Type 0
IsLast R i m = (from : ℕ) → (from < m) ↔ ((j : ℕ) × ((from ≤ j) × ((j < i) × R j)))

pub last_none : (R : ℕ → Type 0) → IsLast R 0 0
last_none R from = (λ low. absurd (omega (arith, low)), λ some. absurd (let low = some.1.1.0 in omega (arith, low)))

pub last_here : (R : ℕ → Type 0) (i : ℕ) → R i → IsLast R (i + 1) (i + 1)
last_here R i here from = (λ low. (i, (omega (arith, low), (omega arith, here))), λ some. (let high = some.1.0 in let low = some.1.1.0 in omega (arith, high, low)))

pub last_still : (R : ℕ → Type 0) (i m : ℕ) → (R i → ⊥) → IsLast R i m → IsLast R (i + 1) m
last_still R i m not before from = (
  λ low. (let some = (before from).0 low in (some.0, (some.1.0, ((let below = some.1.1.0 in omega (arith, below)), some.1.1.1)))),
  λ some. elim (cases_lt some.0 i) [
    | inl below ↦ (before from).1 (some.0, (some.1.0, (below, some.1.1.1)))
    | inr above ↦ (let low = some.1.1.0 in let e : some.0 ≡ i = omega (arith, above, low) in absurd (not (subst R e some.1.1.1)))
  ],
)

-- the number of a list that is read is the new one, and the others stay
pub with_last-count : (last : List ℕ) (read : Option ℕ) (number : ℕ) → length (with_last last read number) ≡ length last
with_last-count last None number = refl
with_last-count last (Some at) number = length-set last at number

pub with_last-at : (last : List ℕ) (read : Option ℕ) (number k : ℕ) → k < length last → read ≡ Some k → get_or (with_last last read number) k 0 ≡ number
with_last-at last None number k low is = absurd (cc)
with_last-at last (Some at) number k low is = (let e : at ≡ k = cc in subst (λ a. get_or (slice_set last a number) k 0 ≡ number) (sym e) (get_or-set_same last k number 0 low))

pub with_last-other : (last : List ℕ) (read : Option ℕ) (number k : ℕ) → (read ≡ Some k → ⊥) → get_or (with_last last read number) k 0 ≡ get_or last k 0
with_last-other last None number k other = refl
with_last-other last (Some at) number k other = get_or-set_other last at k number 0 (λ e. absurd (other (ap Some (sym e))))

-- a number is that of the option or not
cases_some : (read : Option ℕ) (k : ℕ) → (read ≡ Some k) ⊎ (read ≡ Some k → ⊥)
cases_some None k = inr (λ e. absurd (cc))
cases_some (Some at) k = elim (cases_eq at k) [
  | inl same ↦ inl (ap Some same)
  | inr other ↦ inr (λ e. absurd (other (let same : at ≡ k = cc in same)))
]

-- the nodes that read the list of node k, and the sources that read the stream s
abbrev pub ReadsNode : PlanParts → ℕ → ℕ → Type 0
ReadsNode plan k j = (n : Node) × ((slice_get plan.nodes j ≡ Some n) × ((left_child n ≡ Some k) ⊎ (right_child n ≡ Some k)))

abbrev pub ReadsStream : PlanParts → ℕ → ℕ → Type 0
ReadsStream plan s j = slice_get plan.nodes j ≡ Some (Source s)

one_of : (nodes : List Node) (i : ℕ) (x y : Node) → slice_get nodes i ≡ Some x → slice_get nodes i ≡ Some y → x ≡ y
one_of nodes i x y a b = cc

module _ (plan : PlanParts) (i : ℕ) (n : Node) (there : slice_get plan.nodes i ≡ Some n) where
  pub nodes_next : (last : List ℕ) → ((k : ℕ) → k < length last → IsLast (ReadsNode plan k) i (get_or last k 0)) → (k : ℕ) → k < length last →
      IsLast (ReadsNode plan k) (i + 1) (get_or (with_last (with_last last (left_child n) (i + 1)) (right_child n) (i + 1)) k 0)
  nodes_next last before k low =
      let first = with_last last (left_child n) (i + 1) in
      let same = with_last-count last (left_child n) (i + 1) in
      elim (cases_some (right_child n) k) [
        | inl right ↦
            subst (IsLast (ReadsNode plan k) (i + 1)) (sym (with_last-at first (right_child n) (i + 1) k (omega (arith, low, same)) right)) (last_here (ReadsNode plan k) i (n, (there, inr right)))
        | inr not_right ↦
            subst (IsLast (ReadsNode plan k) (i + 1)) (sym (with_last-other first (right_child n) (i + 1) k not_right))
            (elim (cases_some (left_child n) k) [
              | inl left ↦
                  subst (IsLast (ReadsNode plan k) (i + 1)) (sym (with_last-at last (left_child n) (i + 1) k low left)) (last_here (ReadsNode plan k) i (n, (there, inl left)))
              | inr not_left ↦
                  subst (IsLast (ReadsNode plan k) (i + 1)) (sym (with_last-other last (left_child n) (i + 1) k not_left))
                  (last_still (ReadsNode plan k) i (get_or last k 0) (no_reader k not_left not_right) (before k low))
            ])
      ]
    where
      no_reader : (k : ℕ) → (left_child n ≡ Some k → ⊥) → (right_child n ≡ Some k → ⊥) → ReadsNode plan k i → ⊥
      no_reader k not_left not_right reads =
          let e : reads.0 ≡ n = one_of plan.nodes i reads.0 n reads.1.0 there in
          elim reads.1.1 [
            | inl left ↦ not_left (ap left_child (sym e) ∙ left)
            | inr right ↦ not_right (ap right_child (sym e) ∙ right)
          ]

  pub streams_next : (last : List ℕ) (read : Option ℕ) → ((s : ℕ) → (read ≡ Some s) ↔ (n ≡ Source s)) → ((s : ℕ) → s < length last → IsLast (ReadsStream plan s) i (get_or last s 0)) → (s : ℕ) → s < length last →
      IsLast (ReadsStream plan s) (i + 1) (get_or (with_last last read (i + 1)) s 0)
  streams_next last read is before s low =
      elim (cases_some read s) [
        | inl here ↦ subst (IsLast (ReadsStream plan s) (i + 1)) (sym (with_last-at last read (i + 1) s low here)) (last_here (ReadsStream plan s) i (there ∙ ap Some ((is s).0 here)))
        | inr other ↦
            subst (IsLast (ReadsStream plan s) (i + 1)) (sym (with_last-other last read (i + 1) s other))
            (last_still (ReadsStream plan s) i (get_or last s 0) (λ reads. other ((is s).1 (one_of plan.nodes i n (Source s) there reads))) (before s low))
      ]

-- of all nodes
pub read_by_all : (plan : PlanParts) (k i m : ℕ) → length plan.nodes ≤ i → IsLast (ReadsNode plan k) i m → (from : ℕ) → (from < m) ↔ IsRead plan from k
read_by_all plan k i m all last from = (
  λ low. (let some = (last from).0 low in (some.0, (some.1.1.1.0, (some.1.0, some.1.1.1.1)))),
  λ read. (last from).1 (read.0, (read.1.1.0, ((let low = slice_get_within plan.nodes read.0 read.1.0 read.1.1.1.0 in omega (arith, low, all)), (read.1.0, read.1.1.1)))),
)

pub streamed_by_all : (plan : PlanParts) (s i m : ℕ) → length plan.nodes ≤ i → IsLast (ReadsStream plan s) i m → (from : ℕ) → (from < m) ↔ IsNeededStream plan from s
streamed_by_all plan s i m all last from = (
  λ low. (let some = (last from).0 low in (some.0, (some.1.0, some.1.1.1))),
  λ read. (last from).1 (read.0, (read.1.0, ((let low = slice_get_within plan.nodes read.0 (Source s) read.1.1 in omega (arith, low, all)), read.1.1))),
)

-- what a comparison tests
pub is_below : (P : Type 0) (a b : ℕ) → ((a < b) ↔ P) → IsTrue (nat_lt a b) ↔ P
is_below P a b same = (λ t. same.0 ((Decides-ltb a b).0 (search t)), λ p. (let t = (Decides-ltb a b).1 (same.1 p) in search t))

pub is_equal : (a b : ℕ) → IsTrue (nat_eq a b) ↔ (a ≡ b)
is_equal a b = (λ t. (Decides-eqb a b).0 (search t), λ e. (let t = (Decides-eqb a b).1 e in search t))

-- a child's number, and that of a stream that a source reads, are within
pub lower_than : (i m : ℕ) (read : Option ℕ) → i ≤ m → HasLower i read → HasLower m read
lower_than i m None low h = tt
lower_than i m (Some at) low h = omega arith

pub source_there : (plan : PlanParts) (i : ℕ) (n : Node) → IsPlan plan → slice_get plan.nodes i ≡ Some n → (read : Option ℕ) (m : ℕ) → m ≡ length plan.streams → ((s : ℕ) → (read ≡ Some s) ↔ (n ≡ Source s)) → HasLower m read
source_there plan i n kept there None m same is = tt
source_there plan i n kept there (Some s) m same is = (let low : s < length plan.streams = subst (ReadsStreamIn plan.streams) ((is s).0 refl) (kept.nodes_are.each i n there).streamed in omega (arith, low, same))
