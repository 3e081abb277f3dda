-- A row that is not found in the group of its rank is in no group.
use Rattle.std.specs.Prelude.{◌≡◌, ℕ, suc, ◌+◌, ◌||◌, nat_eq, nat_lt, nat_le, not, Bool, true, false, cond, Some, List, [], ◌∷◌, refl}
use Rattle.std.specs.List.{All}
use Rattle.std.specs.Ordering.{nat_cmp}
use Rattle.std.specs.BTreeMap.{BTreeMap, IsOrdered, get}
use Rattle.std.proofs.Common.{sym, ◌∙◌, ap, arith}
use Rattle.std.proofs.lemmas.Bool.{and_parts}
use Rattle.std.proofs.lemmas.Bool.Decides.{nat_tests}
use Rattle.std.proofs.lemmas.List.Elements.{All-head, All-tail}
use Rattle.std.proofs.lemmas.Map.Views.{All-found}
use Rattle.std.proofs.lemmas.Cmp.{nat_cmp_total}
use Rattle.tw_rows.specs.SameCells.{same_cells, cells_are_same}
use Rattle.tw_rows.specs.declared.cells.Datum.{Datum}
use Rattle.tw_rows.specs.declared.edge.HeldRow.{HeldRow}
use Rattle.tw_rows.proofs.Bags.{total-append}
use Rattle.edge_history.specs.Order.{failing, many}
use Rattle.edge_history.specs.Opens.{is_held}
use Rattle.outer_top.specs.Ranks.{Group, rows_in, strays, AreRanked, AreBelow, AreFrom, IsOnlyRank}

module _ (rank_of : List Datum → ℕ → Bool) (cells : List Datum) (start rank : ℕ) (only : IsOnlyRank rank_of cells rank) where
  -- the group has another rank, or no such row
  abbrev pub lacks : Group → Bool
  lacks g = not (nat_eq g.0 rank) || nat_eq (many (is_held cells start) g.1) 0

  -- rows of another rank
  others : (k : ℕ) (rows : List HeldRow) → failing (λ r. rank_of r.cells k) rows ≡ 0 → nat_eq k rank ≡ false → many (is_held cells start) rows ≡ 0
  others k [] own apart = refl
  others k (r ∷ rows) own apart = one (is_held cells start r) refl (rank_of r.cells k) refl own (λ h. others k rows h apart)
    where
      one : (b : Bool) → is_held cells start r ≡ b → (q : Bool) → rank_of r.cells k ≡ q → cond {A = ℕ} q 0 1 + failing (λ x. rank_of x.cells k) rows ≡ 0 →
          (failing (λ x. rank_of x.cells k) rows ≡ 0 → many (is_held cells start) rows ≡ 0) → cond {A = ℕ} b 1 0 + many (is_held cells start) rows ≡ 0
      one b held false ranked h rest = absurd (omega (arith, h))
      one false held true ranked h rest = let z = rest (omega (arith, h)) in omega (arith, z)
      one true held true ranked h rest =
          let same = cells_are_same r.cells cells (and_parts (nat_eq r.start start) (same_cells r.cells cells) held).1 in
          let n = only k (ap (λ l. rank_of l k) (sym same) ∙ ranked) in
          absurd (let z : nat_eq k rank ≡ true = grind (arith, nat_tests) in cc (z, apart))

  pub none_of_rank : (gs : List Group) → AreRanked rank_of gs → failing lacks gs ≡ 0 → many (is_held cells start) (rows_in gs) ≡ 0
  none_of_rank [] own h = refl
  none_of_rank (g ∷ gs) own h =
      let a = total-append (λ r. cond {A = ℕ} (is_held cells start r) 1 0) g.1 (rows_in gs) in
      let r = none_of_rank gs (omega (arith, own)) (omega (arith, h)) in
      let z = here (nat_eq g.0 rank) refl (omega (arith, own)) (omega (arith, h)) in
      omega (arith, a, r, z)
    where
      zero : (n : ℕ) → cond {A = ℕ} (nat_eq n 0) 0 1 ≡ 0 → n ≡ 0
      zero n e = grind (arith, nat_tests)

      here : (b : Bool) → nat_eq g.0 rank ≡ b → strays rank_of g ≡ 0 → cond {A = ℕ} (not b || nat_eq (many (is_held cells start) g.1) 0) 0 1 ≡ 0 → many (is_held cells start) g.1 ≡ 0
      here false is mine e = others g.0 g.1 mine is
      here true is mine e = zero (many (is_held cells start) g.1) e

-- what is found at a rank has no such row
pub found_lacks : (rank_of : List Datum → ℕ → Bool) (cells : List Datum) (start rank : ℕ) (only : IsOnlyRank rank_of cells rank) (m : BTreeMap ℕ (List HeldRow)) → IsOrdered nat_cmp m →
    ((b : List HeldRow) → get nat_cmp m rank ≡ Some b → many (is_held cells start) b ≡ 0) → failing (lacks rank_of cells start rank only) m.entries ≡ 0
found_lacks rank_of cells start rank only m order none = go m.entries (All-found nat_cmp_total m order)
  where
    empty : (n : ℕ) → n ≡ 0 → nat_eq n 0 ≡ true
    empty n e = grind (arith, nat_tests)

    one : (g : Group) → get nat_cmp m g.0 ≡ Some g.1 → (b : Bool) → nat_eq g.0 rank ≡ b → cond {A = ℕ} (not b || nat_eq (many (is_held cells start) g.1) 0) 0 1 ≡ 0
    one g found false is = refl
    one g found true is =
        let same : g.0 ≡ rank = grind (arith, nat_tests) in
        ap (λ b. cond {A = ℕ} b 0 1) (empty (many (is_held cells start) g.1) (none g.1 (ap (get nat_cmp m) (sym same) ∙ found)))

    go : (gs : List Group) → All (λ e. get nat_cmp m e.0 ≡ Some e.1) gs → failing (lacks rank_of cells start rank only) gs ≡ 0
    go [] all = refl
    go (g ∷ gs) all =
        let a = one g (All-head (λ (e : Group). get nat_cmp m e.0 ≡ Some e.1) g gs all) (nat_eq g.0 rank) refl in
        let b = go gs (All-tail (λ (e : Group). get nat_cmp m e.0 ≡ Some e.1) g gs all) in
        omega (arith, a, b)

-- groups of other ranks alone have no such row
pub below_lack : (rank_of : List Datum → ℕ → Bool) (cells : List Datum) (start rank : ℕ) (only : IsOnlyRank rank_of cells rank) (gs : List Group) → AreBelow rank gs →
    failing (lacks rank_of cells start rank only) gs ≡ 0
below_lack rank_of cells start rank only [] h = refl
below_lack rank_of cells start rank only (g ∷ gs) h =
    let r = below_lack rank_of cells start rank only gs (omega (arith, h)) in
    let z = one g.0 (nat_eq (many (is_held cells start) g.1) 0) (omega (arith, h)) in
    omega (arith, r, z)
  where
    one : (k : ℕ) (b : Bool) → cond {A = ℕ} (nat_lt k rank) 0 1 ≡ 0 → cond {A = ℕ} (not (nat_eq k rank) || b) 0 1 ≡ 0
    one k b e = grind (arith, nat_tests)

pub above_lack : (rank_of : List Datum → ℕ → Bool) (cells : List Datum) (start rank : ℕ) (only : IsOnlyRank rank_of cells rank) (gs : List Group) → AreFrom (suc rank) gs →
    failing (lacks rank_of cells start rank only) gs ≡ 0
above_lack rank_of cells start rank only [] h = refl
above_lack rank_of cells start rank only (g ∷ gs) h =
    let r = above_lack rank_of cells start rank only gs (omega (arith, h)) in
    let z = one g.0 (nat_eq (many (is_held cells start) g.1) 0) (omega (arith, h)) in
    omega (arith, r, z)
  where
    one : (k : ℕ) (b : Bool) → cond {A = ℕ} (nat_le (suc rank) k) 0 1 ≡ 0 → cond {A = ℕ} (not (nat_eq k rank) || b) 0 1 ≡ 0
    one k b e = grind (arith, nat_tests)
