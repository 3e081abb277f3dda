-- The totals of all keys, as rows come and go, and what they tell.
use Rattle.std.specs.Prelude.{◌≡◌, ℕ, suc, ◌+◌, ◌<◌, ◌≤◌, Bool, true, false, cond, ◌||◌, Option, Some, None, List, [], ◌∷◌, Vec, length, filter, refl}
use Rattle.std.specs.List.{list_any}
use Rattle.std.proofs.Common.{sym, ◌∙◌, ap, subst, arith}
use Rattle.indexmap.specs.IndexMap.{IndexMap}
use Rattle.tw_rows.specs.Bag.{SameBag, total}
use Rattle.tw_rows.specs.SameCells.{same_cells, same_cells-Decides, cells_are_same, same_itself}
use Rattle.tw_rows.specs.declared.cells.Datum.{Datum}
use Rattle.tw_rows.specs.declared.edge.HeldRow.{HeldRow}
use Rattle.tw_rows.proofs.Bags.{total-map, SameBag-filter, SameBag-map, SameBag-sym}
use Rattle.edge_history.specs.Opens.{bare}
use Rattle.key_nodes.specs.Runs.{Tells as KeyTells}
use Rattle.key_nodes.specs.Groups.{has_key, IsGroupRow}
use Rattle.plan_laws.specs.Keeping.{plain_cells}
use Rattle.plan_model.specs.declared.agg.Agg.{Agg}
use Rattle.plan_model.specs.declared.agg.Agg.TheVariants.{Count, Sum, Least, Greatest}
use Rattle.plan_model.specs.Amounts.{most_rows}
use Rattle.plan_model.specs.RowOps.{key_in, group_row_in, rows_of_key_in, has_large_sum_in, is_undefined_group_in}
use Rattle.plan_model.proofs.Aggregates.{length_same, row_of_group_is, undefined_group_same}
use Rattle.sweep_laws.specs.Grouping.{DependsOnKey}
use Rattle.snapshot_agg.specs.declared.totals.Totals.{Totals}
use Rattle.snapshot_agg.specs.Words.{key_data, tell, bad}
use Rattle.snapshot_agg.specs.States.{IsTotals, told_row}
use Rattle.snapshot_agg.specs.Totaled.{AreTotalsOf, IsTotalOf, Totaled, totals_of}
use Rattle.snapshot_agg.proofs.Kept.{totals_same, length_map}

-- the laws of groups ask for these
pub keys_tell : KeyTells same_cells
keys_tell x y = (λ h. (same_cells-Decides x y).0 h, λ h. (same_cells-Decides x y).1 h)

pub tell_is_group : (key : List ℕ) (aggs : List Agg) → IsGroupRow (key_data key) same_cells (tell key aggs)
tell_is_group key aggs = row_of_group_is plain_cells key aggs

pub bad_by_key : (key : List ℕ) (aggs : List Agg) → DependsOnKey (key_data key) same_cells (bad key aggs)
bad_by_key key aggs k xs ys h = undefined_group_same plain_cells aggs _ _ h

none_left : {X : Type 0} (xs : List X) → length xs ≡ 0 → xs ≡ []
none_left [] h = refl
none_left (x ∷ xs) h = absurd (omega (arith, h))

-- totals whose number of rows and states are the same
pub totals_kept : (t t2 : Totals) (aggs : List Agg) (rows : List (List Datum)) → t2.count ≡ t.count → t2.states.items ≡ t.states.items → AreTotalsOf t aggs rows → AreTotalsOf t2 aggs rows
totals_kept t t2 aggs rows count states h = subst (λ n. IsTotals n t2.states.items aggs rows) (sym count) (subst (λ l. IsTotals t.count l aggs rows) (sym states) h)

pub total_of_same : (o : Option Totals) (aggs : List Agg) (xs ys : List (List Datum)) → SameBag xs ys → IsTotalOf o aggs xs → IsTotalOf o aggs ys
total_of_same None aggs xs ys same h = none_left ys (sym (length_same xs ys same) ∙ ap length h)
total_of_same (Some t) aggs xs ys same h = (totals_same _ _ aggs xs ys same h.0, h.1)

abbrev pub of_key : List ℕ → List Datum → List HeldRow → List (List Datum)
of_key key k rows = rows_of_key_in plain_cells key k (bare rows)

filter_few : {X : Type 0} (p : X → Bool) (xs : List X) → length (filter p xs) ≤ length xs
filter_few p [] = omega arith
filter_few p (x ∷ xs) = pick (p x) (filter_few p xs)
  where
    pick : (b : Bool) → length (filter p xs) ≤ length xs → length (cond b (x ∷ filter p xs) (filter p xs)) ≤ suc (length xs)
    pick true h = omega (arith, h)
    pick false h = omega (arith, h)

pub few_of_key : (key : List ℕ) (k : List Datum) (rows : List HeldRow) → length (of_key key k rows) ≤ length rows
few_of_key key k rows =
    let a = filter_few (has_key (key_in plain_cells key) same_cells k) (bare rows) in
    let b = length_map (λ (r : HeldRow). r.cells) rows in
    omega (arith, a, b)

-- the same rows in another order
pub totaled_same : {S T : Type 0} (key : List ℕ) (aggs : List Agg) (rows rows2 : List HeldRow) (totals : IndexMap (Vec Datum S) Totals T) → SameBag rows rows2 →
    Totaled key aggs rows totals → Totaled key aggs rows2 totals
totaled_same key aggs rows rows2 totals same h = record {
  of_key = λ k. total_of_same (totals_of totals k) aggs (of_key key k rows) (of_key key k rows2)
      (SameBag-filter (has_key (key_in plain_cells key) same_cells k) (bare rows) (bare rows2) (SameBag-map (λ (r : HeldRow). r.cells) rows rows2 same)) (h.of_key k);
}

-- a row more: rows2 has it, and rows has it not
module _ (key : List ℕ) (rows rows2 : List HeldRow) (cells : List Datum) (start : ℕ)
    (more : (w : HeldRow → ℕ) → total w rows2 ≡ total w rows + w (record { cells = cells; start = start })) where
  bare_more : SameBag (bare rows2) (cells ∷ bare rows)
  bare_more = record {
    weigh = λ w.
        let a = total-map w (λ (r : HeldRow). r.cells) rows2 in
        let b = total-map w (λ (r : HeldRow). r.cells) rows in
        let c = more (λ r. w r.cells) in
        omega (arith, a, b, c);
  }

  by_key : (q : List Datum) → SameBag (of_key key q rows2) (cond (same_cells q (key_data key cells)) (cells ∷ of_key key q rows) (of_key key q rows))
  by_key q = SameBag-filter (has_key (key_in plain_cells key) same_cells q) (bare rows2) (cells ∷ bare rows) bare_more

  pub own_key : (k : List Datum) → k ≡ key_data key cells → SameBag (of_key key k rows2) (cells ∷ of_key key k rows)
  own_key k is = subst (λ b. SameBag (of_key key k rows2) (cond b (cells ∷ of_key key k rows) (of_key key k rows))) (ap (same_cells k) (sym is) ∙ same_itself k) (by_key k)

  other_key : (k q : List Datum) → k ≡ key_data key cells → same_cells k q ≡ false → SameBag (of_key key q rows2) (of_key key q rows)
  other_key k q is e = subst (λ b. SameBag (of_key key q rows2) (cond b (cells ∷ of_key key q rows) (of_key key q rows))) (pick (same_cells q (key_data key cells)) refl) (by_key q)
    where
      pick : (b : Bool) → same_cells q (key_data key cells) ≡ b → same_cells q (key_data key cells) ≡ false
      pick true f = let z = ap (same_cells k) (cells_are_same q (key_data key cells) f ∙ sym is) in let y = sym (same_itself k) ∙ sym z ∙ e in absurd (cc)
      pick false f = f

  module _ {S T : Type 0} (aggs : List Agg) (totals totals2 : IndexMap (Vec Datum S) Totals T) (k : List Datum) (is : k ≡ key_data key cells) where
    pub totaled_added : Totaled key aggs rows totals → ((q : List Datum) → same_cells k q ≡ false → totals_of totals2 q ≡ totals_of totals q) →
        ((rs : List (List Datum)) → IsTotalOf (totals_of totals k) aggs rs → IsTotalOf (totals_of totals2 k) aggs (cells ∷ rs)) → Totaled key aggs rows2 totals2
    totaled_added h others own = record { of_key = λ q. pick q (same_cells k q) refl }
      where
        pick : (q : List Datum) (b : Bool) → same_cells k q ≡ b → IsTotalOf (totals_of totals2 q) aggs (of_key key q rows2)
        pick q true e =
            subst (λ x. IsTotalOf (totals_of totals2 x) aggs (of_key key x rows2)) (cells_are_same k q e)
            (total_of_same (totals_of totals2 k) aggs (cells ∷ of_key key k rows) (of_key key k rows2) (SameBag-sym _ _ (own_key k is)) (own (of_key key k rows) (h.of_key k)))
        pick q false e =
            subst (λ o. IsTotalOf o aggs (of_key key q rows2)) (sym (others q e))
            (total_of_same (totals_of totals q) aggs (of_key key q rows) (of_key key q rows2) (SameBag-sym _ _ (other_key k q is e)) (h.of_key q))

    pub totaled_taken : Totaled key aggs rows2 totals → ((q : List Datum) → same_cells k q ≡ false → totals_of totals2 q ≡ totals_of totals q) →
        ((rs rest : List (List Datum)) → IsTotalOf (totals_of totals k) aggs rs → SameBag rs (cells ∷ rest) → IsTotalOf (totals_of totals2 k) aggs rest) → Totaled key aggs rows totals2
    totaled_taken h others own = record { of_key = λ q. pick q (same_cells k q) refl }
      where
        pick : (q : List Datum) (b : Bool) → same_cells k q ≡ b → IsTotalOf (totals_of totals2 q) aggs (of_key key q rows)
        pick q true e =
            subst (λ x. IsTotalOf (totals_of totals2 x) aggs (of_key key x rows)) (cells_are_same k q e)
            (own (of_key key k rows2) (of_key key k rows) (h.of_key k) (own_key k is))
        pick q false e =
            subst (λ o. IsTotalOf o aggs (of_key key q rows)) (sym (others q e))
            (total_of_same (totals_of totals q) aggs (of_key key q rows2) (of_key key q rows) (other_key k q is e) (h.of_key q))

-- WHAT IS TOLD
none_large : (a : Agg) → has_large_sum_in plain_cells [] a ≡ false
none_large Count = refl
none_large (Sum c) = refl
none_large (Least c) = refl
none_large (Greatest c) = refl

none_any : (aggs : List Agg) → list_any (has_large_sum_in plain_cells []) aggs ≡ false
none_any [] = refl
none_any (a ∷ aggs) = ap (λ b. b || list_any (has_large_sum_in plain_cells []) aggs) (none_large a) ∙ none_any aggs

pub none_undefined : (aggs : List Agg) → is_undefined_group_in plain_cells aggs [] ≡ false
unfolding most_rows
none_undefined aggs = none_any aggs

pub none_told : (aggs : List Agg) (k : List Datum) (rows : List (List Datum)) → rows ≡ [] → (is_undefined_group_in plain_cells aggs rows ≡ false) × (None ≡ group_row_in plain_cells aggs k rows)
none_told aggs k rows is = (ap (is_undefined_group_in plain_cells aggs) is ∙ none_undefined aggs, sym (ap (group_row_in plain_cells aggs k) is))

pub none_of_many : (aggs : List Agg) (k : List Datum) (rows : List (List Datum)) → 0 < length rows → None ≡ told_row aggs k rows → is_undefined_group_in plain_cells aggs rows ≡ true
none_of_many aggs k [] low h = absurd (omega (arith, low))
none_of_many aggs k (x ∷ rows) low h = pick (is_undefined_group_in plain_cells aggs (x ∷ rows)) refl h
  where
    pick : (b : Bool) → is_undefined_group_in plain_cells aggs (x ∷ rows) ≡ b → None ≡ cond b None (group_row_in plain_cells aggs k (x ∷ rows)) → is_undefined_group_in plain_cells aggs (x ∷ rows) ≡ true
    pick true e z = e
    pick false e z = absurd (cc)

pub some_told : (aggs : List Agg) (k row : List Datum) (rows : List (List Datum)) → Some row ≡ told_row aggs k rows →
    (is_undefined_group_in plain_cells aggs rows ≡ false) × (Some row ≡ group_row_in plain_cells aggs k rows)
some_told aggs k row rows h = pick (is_undefined_group_in plain_cells aggs rows) refl h
  where
    pick : (b : Bool) → is_undefined_group_in plain_cells aggs rows ≡ b → Some row ≡ cond b None (group_row_in plain_cells aggs k rows) →
        (is_undefined_group_in plain_cells aggs rows ≡ false) × (Some row ≡ group_row_in plain_cells aggs k rows)
    pick true e z = absurd (cc)
    pick false e z = (e, z)

-- no row is taken from a key without one, and a key whose rows are gone has none
pub nothing_taken : (aggs : List Agg) (rows rest : List (List Datum)) (cells : List Datum) → rows ≡ [] → SameBag rows (cells ∷ rest) → ⊥
nothing_taken aggs rows rest cells h same = let e = length_same rows (cells ∷ rest) same in let f = ap length h in omega (arith, e, f)

-- a key with a row more has totals
pub some_rows_of : (t : Totals) (aggs : List Agg) (cells : List Datum) (rows : List (List Datum)) → AreTotalsOf t aggs (cells ∷ rows) → IsTotalOf (Some t) aggs (cells ∷ rows)
some_rows_of t aggs cells rows h = (h, let e = h.is_count in omega (arith, e))

pub all_taken : (t t2 : Totals) (aggs : List Agg) (rows rest : List (List Datum)) → IsTotalOf (Some t) aggs rows →
    (IsTotals t.count t.states.items aggs rows → IsTotals t2.count t2.states.items aggs rest) → t2.count ≤ 0 → rest ≡ []
all_taken t t2 aggs rows rest h step low = let e = (step h.0).is_count in none_left rest (omega (arith, e, low))
