-- No run goes on from another.
use Rattle.std.specs.Prelude.{◌≡◌, ℕ, zero, suc, ◌≤◌, nat_eq, Bool, true, false, cond, ◌&&◌, Option, Some, None, List, [], ◌∷◌, refl}
use Rattle.std.proofs.Common.{inl, inr, sym, ◌∙◌, ap, arith}
use Rattle.std.proofs.lemmas.Bool.{cases_lt, eq-eqb}
use Rattle.tw_rows.specs.Event.{Event}
use Rattle.key_nodes.specs.Runs.{goes_on, runs, IsApart, AreMaximal, AreFalling}
use Rattle.key_nodes.proofs.RunSteps.{Within, runs_within}

apart : {R : Type 0} (same_row : R → R → Bool) (e : Event R) (es : List (Event R)) (r : R) (n : ℕ) → e.end ≤ n →
    (nat_eq e.end n && same_row e.row r) ≡ false →
    IsApart same_row (record { row = r; start = n; end = suc n }) (e ∷ es)
apart same_row e es r n low h = elim (cases_lt e.end n) [
  | inl before ↦ inl before
  | inr after ↦ let at : e.end ≡ n =
      omega arith in inr (at, sym (ap (λ b. b && same_row e.row r) (eq-eqb e.end n at)) ∙ h)
]

same_start : {R : Type 0} (same_row : R → R → Bool) (e : Event R) (es : List (Event R)) (m : ℕ) →
    IsApart same_row e es → IsApart same_row (record { row = e.row; start = e.start; end = m }) es
same_start same_row e [] m h = tt
same_start same_row e (d ∷ es) m h = h

goes_on_maximal : {R : Type 0} (same_row : R → R → Bool) (o : Option R) (n : ℕ) (es : List (Event R)) → Within n es →
    AreMaximal same_row es → AreMaximal same_row (goes_on same_row o n es)
goes_on_maximal same_row None n es k h = h
goes_on_maximal same_row (Some r) n [] k h = (tt, tt)
goes_on_maximal same_row (Some r) n (e ∷ es) k h = pick (nat_eq e.end n && same_row e.row r) refl
  where
    pick : (b : Bool) → (nat_eq e.end n && same_row e.row r) ≡ b →
        AreMaximal same_row
        (cond b (record { row = e.row; start = e.start; end = suc n } ∷ es)
        (record { row = r; start = n; end = suc n } ∷ e ∷ es))
    pick true t = (same_start same_row e es (suc n) h.0, h.1)
    pick false t = (apart same_row e es r n k.1 t, h)

pub runs_maximal : {R : Type 0} (same_row : R → R → Bool) (f : ℕ → Option R) (n : ℕ) →
    AreMaximal same_row (runs same_row f n)
runs_maximal same_row f zero = tt
runs_maximal same_row f (suc n) =
    goes_on_maximal same_row (f n) n (runs same_row f n) (runs_within same_row f n) (runs_maximal same_row f n)

-- as no run goes on from the one after it in the list, that one ends by the time at which it begins
maximal_falls : {R : Type 0} (same_row : R → R → Bool) (es : List (Event R)) → AreMaximal same_row es → AreFalling es
maximal_falls same_row [] h = tt
maximal_falls same_row (e ∷ []) h = tt
maximal_falls same_row (e ∷ d ∷ es) h = (
  elim h.0 [
    | inl before ↦ omega (arith, before)
    | inr at ↦ let k = at.0 in omega (arith, k)
  ],
  maximal_falls same_row (d ∷ es) h.1,
)

pub runs_falling : {R : Type 0} (same_row : R → R → Bool) (f : ℕ → Option R) (n : ℕ) → AreFalling (runs same_row f n)
runs_falling same_row f n = maximal_falls same_row (runs same_row f n) (runs_maximal same_row f n)
