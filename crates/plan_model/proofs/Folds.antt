-- The equation of the fold over a list of nodes, and the induction on numbers that goes with it.
use Rattle.std.specs.Prelude.{◌≡◌, ℕ, zero, suc, ◌<◌, ◌≤◌, Some, List, [], ◌∷◌, ◌++◌, take, get_or, length, slice_get, refl}
use Rattle.std.proofs.Common.{sym, ◌∙◌, ap, arith, append_assoc, append-nil}
use Rattle.std.proofs.lemmas.List.{get_or-take, get_or_past}
use Rattle.std.proofs.lemmas.Option.{get_or_from_slice_get, slice_get_past}
use Rattle.std.proofs.lemmas.Bool.{cases_lt}
use Rattle.std.proofs.Common.{inl, inr}
use Rattle.plan_model.specs.Fold.{results_from, by_number, result}

pub length-results_from : {N R : Type 0} (step : N → List R → R) (done : List R) (ns : List N) → length (results_from step done ns) ≡ length ns
length-results_from step done [] = refl
length-results_from step done (n ∷ ns) = ap suc (length-results_from step (done ++ step n done ∷ []) ns)

-- each result is the step's, from the results before it
step_at : {N R : Type 0} (step : N → List R → R) (done : List R) (ns : List N) (i : ℕ) (m : N) (d : R) → i < length ns → get_or (results_from step done ns) i d ≡ step (get_or ns i m) (done ++ take i (results_from step done ns))
step_at step done [] i m d h = absurd (omega arith)
step_at step done (n ∷ ns) zero m d h = ap (step n) (sym (append-nil done))
step_at step done (n ∷ ns) (suc i) m d h =
    let low : i < length ns = omega arith in
    step_at step (done ++ step n done ∷ []) ns i m d low
    ∙ ap (step (get_or ns i m)) (append_assoc done (step n done ∷ []) (take i (results_from step (done ++ step n done ∷ []) ns)))

-- the node reads results below number i alone
abbrev pub ReadsBelow : {R : Type 0} → ℕ → ((ℕ → R) → R) → Type 0
ReadsBelow {R} i node = (f g : ℕ → R) → ((j : ℕ) → j < i → f j ≡ g j) → node f ≡ node g

-- the number of a node that is there
pub slice_get-below : {N : Type 0} (ns : List N) (i : ℕ) (n : N) → slice_get ns i ≡ Some n → i < length ns
slice_get-below ns i n e = elim (cases_lt i (length ns)) [
  | inl low ↦ low
  | inr past ↦ let none = slice_get_past ns i past in absurd (cc)
]

-- the equation of the fold: the result of a node is made from the results that it reads
pub result-is : {N R : Type 0} (none : R) (node : N → (ℕ → R) → R) (ns : List N) (i : ℕ) (n : N) → slice_get ns i ≡ Some n → ReadsBelow i (node n) → result none node ns i ≡ node n (result none node ns)
result-is none node ns i n e reads =
    let low = slice_get-below ns i n e in
    let rs = results_from (by_number none node) [] ns in
    step_at (by_number none node) [] ns i n none low
    ∙ (ap (λ m. node m (λ j. get_or (take i rs) j none)) (get_or_from_slice_get ns i n n e)
    ∙ reads _ _ (λ j h. get_or-take i rs j none h))

-- past the last node there is no result
pub result-past : {N R : Type 0} (none : R) (node : N → (ℕ → R) → R) (ns : List N) (i : ℕ) → length ns ≤ i → result none node ns i ≡ none
result-past none node ns i past = get_or_past (results_from (by_number none node) [] ns) i none (let same = length-results_from (by_number none node) [] ns in omega (arith, same))

-- what holds of a number where it holds of each lower one holds of all
below_all : (P : ℕ → Type 0) → ((i : ℕ) → ((j : ℕ) → j < i → P j) → P i) → (n : ℕ) (i : ℕ) → i < n → P i
below_all P step zero i h = absurd (omega arith)
below_all P step (suc n) i h = step i (λ j k. below_all P step n j (omega arith))

pub by_lower : (P : ℕ → Type 0) → ((i : ℕ) → ((j : ℕ) → j < i → P j) → P i) → (i : ℕ) → P i
by_lower P step i = below_all P step (suc i) i (omega arith)
