-- When a group is undefined, in the words of the node.
use Rattle.std.specs.Prelude.{◌≡◌, ℕ, zero, suc, ◌<◌, ◌≤◌, ◌⊎◌, Bool, true, false, cond, ◌||◌, Some, None, List, [], ◌∷◌, length, refl}
use Rattle.std.specs.List.{list_any}
use Rattle.std.proofs.Common.{inl, inr, sym, ◌∙◌, ap, arith}
use Rattle.std.proofs.lemmas.Bool.{cases_lt}
use Rattle.tw_rows.specs.SameCells.{same_cells, cells_are_same}
use Rattle.tw_rows.specs.declared.cells.Datum.{Datum}
use Rattle.plan_laws.specs.Keeping.{plain_cells}
use Rattle.plan_laws.specs.Undefined.{first_below, or_next}
use Rattle.plan_model.specs.declared.agg.Agg.{Agg}
use Rattle.plan_model.specs.RowOps.{rows_of_key_in, is_undefined_group_in, is_undefined_in}
use Rattle.snapshot_agg.proofs.Kept.{or_last}
use Rattle.snapshot_agg.specs.Words.{key_data, bad}
use Rattle.snapshot_agg.proofs.Totaling.{none_undefined}

none_any : {X : Type 0} (p : X → Bool) (xs : List X) → ((x : X) → p x ≡ false) → list_any p xs ≡ false
none_any p [] h = refl
none_any p (x ∷ xs) h = ap (λ b. b || list_any p xs) (h x) ∙ none_any p xs h

module _ (key : List ℕ) (aggs : List Agg) where
  pub all_defined : (rows : List (List Datum)) → ((k : List Datum) → bad key aggs k rows ≡ false) → is_undefined_in plain_cells key aggs rows ≡ false
  all_defined rows h = none_any _ rows (λ row. h (key_data key row))

  -- a row of the key is there
  found_in : (k : List Datum) (all rows : List (List Datum)) → bad key aggs k all ≡ true → 1 ≤ length (rows_of_key_in plain_cells key k rows) →
      list_any (λ row. bad key aggs (key_data key row) all) rows ≡ true
  found_in k all [] b some = absurd (omega (arith, some))
  found_in k all (row ∷ rows) b some = pick (same_cells k (key_data key row)) refl some (λ s. found_in k all rows b s)
    where
      pick : (c : Bool) → same_cells k (key_data key row) ≡ c → 1 ≤ length (cond c (row ∷ rows_of_key_in plain_cells key k rows) (rows_of_key_in plain_cells key k rows)) →
          (1 ≤ length (rows_of_key_in plain_cells key k rows) → list_any (λ r. bad key aggs (key_data key r) all) rows ≡ true) →
          (bad key aggs (key_data key row) all || list_any (λ r. bad key aggs (key_data key r) all) rows) ≡ true
      pick true e s r = ap (λ c. c || list_any (λ r. bad key aggs (key_data key r) all) rows) (ap (λ q. bad key aggs q all) (sym (cells_are_same k (key_data key row) e)) ∙ b)
      pick false e s r = or_last (bad key aggs (key_data key row) all) (list_any (λ r. bad key aggs (key_data key r) all) rows) (r s)

  some_there : (k : List Datum) (rows : List (List Datum)) → bad key aggs k rows ≡ true → 1 ≤ length (rows_of_key_in plain_cells key k rows)
  some_there k rows b = pick (rows_of_key_in plain_cells key k rows) b
    where
      pick : (rs : List (List Datum)) → is_undefined_group_in plain_cells aggs rs ≡ true → 1 ≤ length rs
      pick [] e = let z = sym (none_undefined aggs) ∙ e in absurd (cc)
      pick (r ∷ rs) e = omega arith

  pub some_undefined : (k : List Datum) (rows : List (List Datum)) → bad key aggs k rows ≡ true → is_undefined_in plain_cells key aggs rows ≡ true
  some_undefined k rows b = found_in k rows rows b (some_there k rows b)

-- the least instant below c of which a test is true
pub none_below : (p : ℕ → Bool) (c : ℕ) → ((t : ℕ) → t < c → p t ≡ false) → first_below p c ≡ None
none_below p zero h = refl
none_below p (suc n) h =
    ap (or_next p n) (none_below p n (λ t low. h t (omega (arith, low)))) ∙ ap (λ b. cond b (Some n) None) (h n (omega arith))

pub least_below : (p : ℕ → Bool) (c t : ℕ) → t < c → p t ≡ true → ((u : ℕ) → u < t → p u ≡ false) → first_below p c ≡ Some t
least_below p zero t low is_so before = absurd (omega (arith, low))
least_below p (suc n) t low is_so before = pick (cases_lt t n) (λ h. least_below p n t h is_so before)
  where
    at : t ≡ n → first_below p (suc n) ≡ Some t
    at e = ap (or_next p n) (none_below p n (λ u h. before u (omega (arith, h, e)))) ∙ ap (λ b. cond b (Some n) None) (ap p (sym e) ∙ is_so) ∙ ap Some (sym e)

    pick : (t < n) ⊎ (n ≤ t) → (t < n → first_below p n ≡ Some t) → first_below p (suc n) ≡ Some t
    pick (inl h) r = ap (or_next p n) (r h)
    pick (inr h) r = at (omega (arith, low, h))
