-- Cells and the rows that they stand for, in a table without a text twice.
use Rattle.std.specs.Prelude.{◌≡◌, ℕ, suc, ◌+◌, ◌<◌, ◌≤◌, nat_lt, ◌&&◌, ◌⊎◌, Bool, true, false, not, cond, List, [], ◌∷◌, ◌++◌, length, refl}
use Rattle.std.specs.declared.collections.VecDeque.{VecDeque}
use Rattle.std.specs.Str.{bytes_eq}
use Rattle.std.specs.List.{position_or_len}
use Rattle.std.specs.Ordering.{eq_by_cmp}
use Rattle.std.proofs.Common.{inl, inr, sym, ◌∙◌, ap, subst, arith, get_or}
use Rattle.std.proofs.lemmas.Bool.{ltb-true, lt-ltb, and_parts, false_from_ne_true}
use Rattle.std.proofs.lemmas.List.Elements.{All-head, All-tail}
use Rattle.std.proofs.lemmas.Slice.Eq.{bytes_eq-Decides}
use Rattle.indexmap.specs.IndexMap.{IndexMap}
use Rattle.tw_rows.specs.Rows.{Row, row_cmp}
use Rattle.tw_rows.specs.Texts.{BeginsWith}
use Rattle.tw_rows.specs.declared.edge.Edge.{Edge}
use Rattle.tw_rows.specs.declared.row.Value.{Value}
use Rattle.tw_rows.specs.declared.row.Value.TheVariants.{Int, Bool as Flag, Text}
use Rattle.tw_rows.specs.declared.cells.Datum.{Datum}
use Rattle.tw_rows.specs.declared.cells.Datum.TheVariants.{Int as IntDatum, Bool as FlagDatum, Text as PlaceDatum}
use Rattle.tw_rows.specs.Cells.{IsPlaced, ArePlaced, read_datum, read_cells}
use Rattle.tw_rows.specs.SameCells.{same_cells, cells_are_same, same_itself}
use Rattle.edge_history.specs.Order.{failing}
use Rattle.plan_laws.specs.Places.{AreDistinct, EdgesArePlaced}
use Rattle.plan_laws.proofs.RowCells.{cells_again}
use Rattle.plan_model.proofs.InOrder.{same_row, row_itself}
use Rattle.synopsis.specs.Kept.{since_at}
use Rattle.plan_laws.specs.RowCells.{datum_of, cells_of}
use Rattle.egress.specs.Kept.{is_placed, are_placed, stand_for, since_in, OpensPass}

pub both : (a b : Bool) → a ≡ true → b ≡ true → (a && b) ≡ true
both true true e f = refl
both true false e f = f
both false b e f = e

datum_placed : (texts : List (List ℕ)) (d : Datum) → is_placed texts d ≡ true → IsPlaced texts d
datum_placed texts (IntDatum x) e = tt
datum_placed texts (FlagDatum b) e = tt
datum_placed texts (PlaceDatum i) e = ltb-true i (length texts) e

pub placed_if : (texts : List (List ℕ)) (ds : List Datum) → are_placed texts ds ≡ true → ArePlaced texts ds
placed_if texts [] e = tt
placed_if texts (d ∷ ds) e = let p = and_parts (is_placed texts d) (are_placed texts ds) e in (datum_placed texts d p.0, placed_if texts ds p.1)

datum_placed_then : (texts : List (List ℕ)) (d : Datum) → IsPlaced texts d → is_placed texts d ≡ true
datum_placed_then texts (IntDatum x) h = refl
datum_placed_then texts (FlagDatum b) h = refl
datum_placed_then texts (PlaceDatum i) h = lt-ltb i (length texts) h

pub placed_then : (texts : List (List ℕ)) (ds : List Datum) → ArePlaced texts ds → are_placed texts ds ≡ true
placed_then texts [] h = refl
placed_then texts (d ∷ ds) h = both (is_placed texts d) (are_placed texts ds) (datum_placed_then texts d h.0) (placed_then texts ds h.1)

-- at the first place of a test it holds
first_holds : {X : Type 0} (p : X → Bool) (xs : List X) (d : X) → position_or_len p xs < length xs → p (get_or xs (position_or_len p xs) d) ≡ true
first_holds p [] d low = absurd (omega (arith, low))
first_holds p (x ∷ xs) d low = pick (p x) refl (first_holds p xs d) low
  where
    pick : (b : Bool) → p x ≡ b → (position_or_len p xs < length xs → p (get_or xs (position_or_len p xs) d) ≡ true) → cond (not b) (1 + position_or_len p xs) 0 < suc (length xs) → p (get_or (x ∷ xs) (cond (not b) (1 + position_or_len p xs) 0) d) ≡ true
    pick true e rest l = e
    pick false e rest l =
        let n : 1 + position_or_len p xs ≡ suc (position_or_len p xs) = omega arith in
        ap (λ k. p (get_or (x ∷ xs) k d)) n ∙ rest (omega (arith, l))

value_again : (texts : List (List ℕ)) (v : Value) → IsPlaced texts (datum_of texts v) → read_datum texts (datum_of texts v) ≡ v
value_again texts (Int x) h = refl
value_again texts (Flag b) h = refl
value_again texts (Text t) h = ap Text (sym ((bytes_eq-Decides t (get_or texts (position_or_len (bytes_eq t) texts) [])).0 (first_holds (bytes_eq t) texts [] h)))

pub row_again : (texts : List (List ℕ)) (r : Row) → ArePlaced texts (cells_of texts r) → read_cells texts (cells_of texts r) ≡ r
row_again texts [] h = refl
row_again texts (v ∷ vs) h = let x = value_again texts v h.0 in let y = row_again texts vs h.1 in λ i. x i ∷ y i

module _ (texts : List (List ℕ)) (apart : AreDistinct texts) (k : Row) (cells : List Datum) (stands : stand_for texts k cells ≡ true) where
  pub told_placed : ArePlaced texts cells
  told_placed = placed_if texts cells (and_parts (are_placed texts cells) (eq_by_cmp row_cmp (read_cells texts cells) k) stands).0

  pub told_read : read_cells texts cells ≡ k
  told_read = same_row (read_cells texts cells) k (and_parts (are_placed texts cells) (eq_by_cmp row_cmp (read_cells texts cells) k) stands).1

  -- the cells of a row are those that stand for it
  pub told_cells : cells_of texts k ≡ cells
  told_cells = ap (cells_of texts) (sym told_read) ∙ cells_again texts apart cells told_placed

  -- and of no other row
  pub same_place : (q : Row) → same_cells cells (cells_of texts q) ≡ eq_by_cmp row_cmp k q
  same_place q = pick (eq_by_cmp row_cmp k q) refl (same_cells cells (cells_of texts q)) refl
    where
      pick : (b : Bool) → eq_by_cmp row_cmp k q ≡ b → (c : Bool) → same_cells cells (cells_of texts q) ≡ c → c ≡ b
      pick true e c f = sym f ∙ ap (λ x. same_cells cells x) (ap (cells_of texts) (sym (same_row k q e)) ∙ told_cells) ∙ same_itself cells
      pick false e false f = refl
      pick false e true f =
          let is : cells ≡ cells_of texts q = cells_are_same cells (cells_of texts q) f in
          let read : read_cells texts (cells_of texts q) ≡ q = row_again texts q (subst (ArePlaced texts) is told_placed) in
          let same : k ≡ q = sym told_read ∙ ap (read_cells texts) is ∙ read in
          absurd (let z : eq_by_cmp row_cmp k q ≡ true = ap (λ x. eq_by_cmp row_cmp k x) (sym same) ∙ row_itself k in let w = sym e ∙ z in cc)

  -- what is set at the cells is set at the row
  module _ {S H : Type 0} (m n : IndexMap (List Datum) (VecDeque ℕ S) H) where
    pub since_set : (f : List ℕ → List ℕ) → ((c : List Datum) → since_at n c ≡ cond (same_cells cells c) (f (since_at m c)) (since_at m c)) →
        (r : Row) → since_in texts n r ≡ cond (eq_by_cmp row_cmp k r) (f (since_in texts m r)) (since_in texts m r)
    since_set f set r = set (cells_of texts r) ∙ ap (λ b. cond b (f (since_in texts m r)) (since_in texts m r)) (same_place r)

    pub since_own : since_at m cells ≡ since_in texts m k
    since_own = ap (since_at m) (sym told_cells)

-- placed cells stand for what they are read as
pub stands_itself : (texts : List (List ℕ)) (cells : List Datum) → ArePlaced texts cells → stand_for texts (read_cells texts cells) cells ≡ true
stands_itself texts cells placed = both (are_placed texts cells) (eq_by_cmp row_cmp (read_cells texts cells) (read_cells texts cells)) (placed_then texts cells placed) (row_itself (read_cells texts cells))

-- cells of edges that are placed pass the tests
pub placed_all : (texts : List (List ℕ)) (es : List Edge) → EdgesArePlaced texts es → failing (λ e. are_placed texts e.cells) es ≡ 0
placed_all texts [] h = refl
placed_all texts (e ∷ es) h =
    let one : cond {A = ℕ} (are_placed texts e.cells) 0 1 ≡ 0 = ap (λ b. cond {A = ℕ} b 0 1) (placed_then texts e.cells (All-head (λ (x : Edge). ArePlaced texts x.cells) e es h)) in
    let rest = placed_all texts es (All-tail (λ (x : Edge). ArePlaced texts x.cells) e es h) in
    omega (arith, one, rest)

-- A LONGER TABLE
place_longer : (p : List ℕ → Bool) (xs ys : List (List ℕ)) →
    (position_or_len p (xs ++ ys) ≡ position_or_len p xs) ⊎ ((length xs ≤ position_or_len p (xs ++ ys)) × (length xs ≤ position_or_len p xs))
place_longer p [] ys = inr (omega arith, omega arith)
place_longer p (x ∷ xs) ys = pick (p x) (place_longer p xs ys)
  where
    pick : (b : Bool) → (position_or_len p (xs ++ ys) ≡ position_or_len p xs) ⊎ ((length xs ≤ position_or_len p (xs ++ ys)) × (length xs ≤ position_or_len p xs)) →
        (cond (not b) (1 + position_or_len p (xs ++ ys)) 0 ≡ cond (not b) (1 + position_or_len p xs) 0)
        ⊎ ((suc (length xs) ≤ cond (not b) (1 + position_or_len p (xs ++ ys)) 0) × (suc (length xs) ≤ cond (not b) (1 + position_or_len p xs) 0))
    pick true h = inl refl
    pick false (inl e) = inl (ap (λ n. 1 + n) e)
    pick false (inr q) = inr (let a = q.0 in omega (arith, a), let a = q.1 in omega (arith, a))

not_below : (i n : ℕ) → n ≤ i → nat_lt i n ≡ false
not_below i n h = false_from_ne_true (nat_lt i n) (λ e. let z = ltb-true i n e in omega (arith, z, h))

-- a value has the same place in both tables, or none in the shorter one
datum_longer : (old more : List (List ℕ)) (v : Value) →
    (datum_of (old ++ more) v ≡ datum_of old v) ⊎ ((is_placed old (datum_of (old ++ more) v) ≡ false) × (is_placed old (datum_of old v) ≡ false))
datum_longer old more (Int x) = inl refl
datum_longer old more (Flag b) = inl refl
datum_longer old more (Text t) = pick (place_longer (bytes_eq t) old more)
  where
    pick : (position_or_len (bytes_eq t) (old ++ more) ≡ position_or_len (bytes_eq t) old) ⊎ ((length old ≤ position_or_len (bytes_eq t) (old ++ more)) × (length old ≤ position_or_len (bytes_eq t) old)) →
        (PlaceDatum (position_or_len (bytes_eq t) (old ++ more)) ≡ PlaceDatum (position_or_len (bytes_eq t) old))
        ⊎ ((nat_lt (position_or_len (bytes_eq t) (old ++ more)) (length old) ≡ false) × (nat_lt (position_or_len (bytes_eq t) old) (length old) ≡ false))
    pick (inl e) = inl (ap PlaceDatum e)
    pick (inr q) = inr (not_below (position_or_len (bytes_eq t) (old ++ more)) (length old) q.0, not_below (position_or_len (bytes_eq t) old) (length old) q.1)

and_false_left : (a b : Bool) → a ≡ false → (a && b) ≡ false
and_false_left true b e = absurd (cc)
and_false_left false b e = refl

and_false_right : (a b : Bool) → b ≡ false → (a && b) ≡ false
and_false_right true b e = e
and_false_right false b e = refl

cells_longer : (old more : List (List ℕ)) (r : Row) →
    (cells_of (old ++ more) r ≡ cells_of old r) ⊎ ((are_placed old (cells_of (old ++ more) r) ≡ false) × (are_placed old (cells_of old r) ≡ false))
cells_longer old more [] = inl refl
cells_longer old more (v ∷ vs) = pick (datum_longer old more v) (cells_longer old more vs)
  where
    pick : (datum_of (old ++ more) v ≡ datum_of old v) ⊎ ((is_placed old (datum_of (old ++ more) v) ≡ false) × (is_placed old (datum_of old v) ≡ false)) →
        (cells_of (old ++ more) vs ≡ cells_of old vs) ⊎ ((are_placed old (cells_of (old ++ more) vs) ≡ false) × (are_placed old (cells_of old vs) ≡ false)) →
        (datum_of (old ++ more) v ∷ cells_of (old ++ more) vs ≡ datum_of old v ∷ cells_of old vs)
        ⊎ (((is_placed old (datum_of (old ++ more) v) && are_placed old (cells_of (old ++ more) vs)) ≡ false) × ((is_placed old (datum_of old v) && are_placed old (cells_of old vs)) ≡ false))
    pick (inr q) h = inr (and_false_left (is_placed old (datum_of (old ++ more) v)) (are_placed old (cells_of (old ++ more) vs)) q.0, and_false_left (is_placed old (datum_of old v)) (are_placed old (cells_of old vs)) q.1)
    pick (inl e) (inr q) = inr (and_false_right (is_placed old (datum_of (old ++ more) v)) (are_placed old (cells_of (old ++ more) vs)) q.0, and_false_right (is_placed old (datum_of old v)) (are_placed old (cells_of old vs)) q.1)
    pick (inl e) (inl f) = inl (λ i. e i ∷ f i)

-- where only placed cells are open, nothing is open of others
pub none_unplaced : (p : List Datum → Bool) (since : List Datum → List ℕ) → OpensPass p since → (c : List Datum) → p c ≡ false → since c ≡ []
none_unplaced p since h c e = pick (since c) refl
  where
    pick : (l : List ℕ) → since c ≡ l → l ≡ []
    pick [] f = refl
    pick (t ∷ rest) f = absurd (let z = h c t rest f in cc)

pub since_longer : (new old : List (List ℕ)) → BeginsWith new old → (since : List Datum → List ℕ) → OpensPass (are_placed old) since →
    (r : Row) → since (cells_of new r) ≡ since (cells_of old r)
since_longer new old begins since h r = subst (λ ts. since (cells_of ts r) ≡ since (cells_of old r)) (sym begins.1) (pick (cells_longer old begins.0 r))
  where
    pick : (cells_of (old ++ begins.0) r ≡ cells_of old r) ⊎ ((are_placed old (cells_of (old ++ begins.0) r) ≡ false) × (are_placed old (cells_of old r) ≡ false)) →
        since (cells_of (old ++ begins.0) r) ≡ since (cells_of old r)
    pick (inl e) = ap since e
    pick (inr q) = none_unplaced (are_placed old) since h (cells_of (old ++ begins.0) r) q.0 ∙ sym (none_unplaced (are_placed old) since h (cells_of old r) q.1)
