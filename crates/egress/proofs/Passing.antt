-- What one row's ends and starts do to tests that open cells pass.
use Rattle.std.specs.Prelude.{◌≡◌, ℕ, zero, suc, Bool, true, false, cond, List, [], ◌∷◌, ◌++◌, drop, refl}
use Rattle.std.proofs.Common.{sym, ◌∙◌, ap}
use Rattle.tw_rows.specs.declared.cells.Datum.{Datum}
use Rattle.tw_rows.specs.SameCells.{same_cells, cells_are_same}
use Rattle.egress.specs.Kept.{OpensPass}

-- what is open passes a test that it passed
module _ (p : List Datum → Bool) (old new : List Datum → List ℕ) (h : OpensPass p old) (k : List Datum) where
  dropped_nil : (n : ℕ) → drop {A = ℕ} n [] ≡ []
  dropped_nil zero = refl
  dropped_nil (suc n) = refl

  pub dropped_pass : (n : ℕ) → ((c : List Datum) → new c ≡ cond (same_cells k c) (drop n (old c)) (old c)) → OpensPass p new
  dropped_pass n set c t rest is = pick (old c) refl (same_cells k c) (sym (set c) ∙ is)
    where
      pick : (l : List ℕ) → old c ≡ l → (b : Bool) → cond b (drop n (old c)) (old c) ≡ t ∷ rest → p c ≡ true
      pick (x ∷ xs) e b f = h c x xs e
      pick [] e true f = absurd (let z = sym (ap (drop n) e ∙ dropped_nil n) ∙ f in cc)
      pick [] e false f = absurd (let z = sym e ∙ f in cc)

  pub added_pass : (more : List ℕ) → p k ≡ true → ((c : List Datum) → new c ≡ cond (same_cells k c) (old c ++ more) (old c)) → OpensPass p new
  added_pass more own set c t rest is = pick (same_cells k c) refl (sym (set c) ∙ is)
    where
      pick : (b : Bool) → same_cells k c ≡ b → cond b (old c ++ more) (old c) ≡ t ∷ rest → p c ≡ true
      pick true e f = ap p (sym (cells_are_same k c e)) ∙ own
      pick false e f = h c t rest f
