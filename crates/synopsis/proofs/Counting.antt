-- Rows counted in a map, and as moves.
use Rattle.std.specs.Prelude.{◌≡◌, ℕ, ◌+◌, ◌<◌, Bool, true, false, cond, not, Option, Some, None, option_to_list, slice_get, zero, suc, ◌++◌, List, [], ◌∷◌, map, take, get_or, length, refl}
use Rattle.std.specs.List.{IsDistinct, AllByRecursion}
use Rattle.std.specs.Map.{lookup, keys_of}
use Rattle.std.proofs.Common.{sym, ◌∙◌, ap, arith}
use Rattle.std.proofs.lemmas.List.{take_more}
use Rattle.tw_rows.specs.Bag.{total}
use Rattle.tw_rows.specs.SameCells.{same_cells, cells_are_same}
use Rattle.tw_rows.specs.declared.cells.Datum.{Datum}
use Rattle.tw_rows.proofs.Bags.{total-append}
use Rattle.edge_history.specs.Order.{failing}
use Rattle.key_nodes.specs.Coalesced.{how_often}
use Rattle.synopsis.specs.declared.moves.Moves.{Moves}
use Rattle.synopsis.specs.Kept.{AreOnce}
use Rattle.synopsis.proofs.Once.{either_way}
use Rattle.synopsis.specs.declared.gathering.Counts.{Counts}
use Rattle.synopsis.specs.Counted.{as_moves}

-- one row has other counts
pub set_count : (n : Option Counts → ℕ) (k c : List Datum) (old new : List Datum → Option Counts) (v : Counts) (more : ℕ) →
    ((q : List Datum) → new q ≡ cond (same_cells k q) (Some v) (old q)) → n (Some v) ≡ n (old k) + more →
    n (new c) ≡ n (old c) + cond (same_cells k c) more 0
set_count n k c old new v more set is = ap n (set c) ∙ pick (same_cells k c) refl
  where
    pick : (b : Bool) → same_cells k c ≡ b → n (cond b (Some v) (old c)) ≡ n (old c) + cond b more 0
    pick true e = is ∙ ap (λ x. n (old x) + more) (cells_are_same k c e)
    pick false e = omega arith

-- one more row
pub often_more : (xs : List (List Datum)) (i : ℕ) (x c : List Datum) → i < length xs → x ≡ get_or xs i x →
    how_often same_cells c (take (i + 1) xs) ≡ how_often same_cells c (take i xs) + cond (same_cells x c) 1 0
often_more xs i x c low is =
    let v : List Datum → ℕ = λ y. cond {A = ℕ} (same_cells c y) 1 0 in
    let a = ap (total v) (take_more xs i x low) ∙ total-append v (take i xs) (get_or xs i x ∷ []) in
    let b = ap v is in
    let d = ap (λ t. cond {A = ℕ} t 1 0) (either_way c x) in
    omega (arith, a, b, d)

pub nothing_more : (b : Bool) → cond {A = ℕ} b 0 0 ≡ 0
nothing_more true = refl
nothing_more false = refl

-- of keys that are all apart each move is of one row
others_apart : (k : List Datum) (es : List (List Datum × Counts)) → AllByRecursion (λ y. same_cells k y ≡ false) (keys_of es) → failing (λ n. not (same_cells k n.cells)) (map as_moves es) ≡ 0
others_apart k [] h = refl
others_apart k (e ∷ es) h =
    let r = others_apart k es h.1 in
    let z = ap (λ b. cond {A = ℕ} (not b) 0 1) h.0 in
    omega (arith, r, z)

pub once_of : (es : List (List Datum × Counts)) → IsDistinct same_cells (keys_of es) → AreOnce (map as_moves es)
unfolding IsDistinct
once_of [] h = tt
once_of (e ∷ es) h = (others_apart e.0 es h.0, once_of es h.1)

-- and what they count of a row is what the map has
module _ (n : Option Counts → ℕ) (v : Counts → ℕ) (none : n None ≡ 0) (some : (c : Counts) → n (Some c) ≡ v c) where
  absent : (k c : List Datum) → same_cells k c ≡ true → (es : List (List Datum × Counts)) → AllByRecursion (λ y. same_cells k y ≡ false) (keys_of es) →
      total (λ e. cond (same_cells e.0 c) (v e.1) 0) es ≡ 0
  absent k c is [] h = refl
  absent k c is (e ∷ es) h =
      let r = absent k c is es h.1 in
      let apart : same_cells e.0 c ≡ false = either_way e.0 c ∙ (ap (λ x. same_cells x e.0) (sym (cells_are_same k c is)) ∙ h.0) in
      let z = ap (λ b. cond b (v e.1) 0) apart in
      omega (arith, r, z)

  pub counted_of : (es : List (List Datum × Counts)) (c : List Datum) → IsDistinct same_cells (keys_of es) → total (λ e. cond (same_cells e.0 c) (v e.1) 0) es ≡ n (lookup (same_cells c) es)
  unfolding IsDistinct
  counted_of [] c h = sym none
  counted_of (e ∷ es) c h = go (same_cells e.0 c) refl (counted_of es c h.1)
    where
      go : (b : Bool) → same_cells e.0 c ≡ b → total (λ e. cond (same_cells e.0 c) (v e.1) 0) es ≡ n (lookup (same_cells c) es) →
          cond b (v e.1) 0 + total (λ e. cond (same_cells e.0 c) (v e.1) 0) es ≡ n (cond (same_cells c e.0) (Some e.1) (lookup (same_cells c) es))
      go true is ih =
          let a = absent e.0 c is es h.0 in
          let s = some e.1 in
          let p = ap (λ b. n (cond b (Some e.1) (lookup (same_cells c) es))) (either_way c e.0 ∙ is) in
          omega (arith, a, s, p)
      go false is ih =
          let p = ap (λ b. n (cond b (Some e.1) (lookup (same_cells c) es))) (either_way c e.0 ∙ is) in
          omega (arith, ih, p)

-- one more entry
pub moved_more : (es : List (List Datum × Counts)) (i : ℕ) (o : Option (List Datum × Counts)) (old new : List Moves) → i < length es → o ≡ slice_get es i →
    new ≡ old ++ map as_moves (option_to_list o) → old ≡ map as_moves (take i es) → new ≡ map as_moves (take (i + 1) es)
moved_more es i o old new low at is so =
    is ∙ (ap (λ l. l ++ map as_moves (option_to_list o)) so ∙ (ap (λ q. map as_moves (take i es) ++ map as_moves (option_to_list q)) at ∙ go es i low))
  where
    go : (es : List (List Datum × Counts)) (i : ℕ) → i < length es → map as_moves (take i es) ++ map as_moves (option_to_list (slice_get es i)) ≡ map as_moves (take (i + 1) es)
    go [] i low = absurd (omega (arith, low))
    go (e ∷ es) zero low = (let k : suc zero ≡ zero + 1 = omega arith in ap (λ n. map as_moves (take n (e ∷ es))) k)
    go (e ∷ es) (suc i) low = ap (λ l. as_moves e ∷ l) (go es i (omega (arith, low))) ∙ (let k : suc (i + 1) ≡ suc i + 1 = omega arith in ap (λ n. map as_moves (take n (e ∷ es))) k)
