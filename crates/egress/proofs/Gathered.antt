-- The rows of moves, as they are gathered from edges.
use Rattle.std.specs.Prelude.{◌≡◌, ℕ, ◌-◌, Bool, true, false, cond, All, List, [], ◌∷◌, ◌++◌, length, slice_get, Some, None, refl}
use Rattle.std.specs.List.{dedup, dedup_from}
use Rattle.std.specs.Ordering.{eq_by_cmp}
use Rattle.std.proofs.Common.{sym, ◌∙◌, ap, subst, arith}
use Rattle.std.proofs.Math.Seq.{get_or-append_seam}
use Rattle.std.proofs.lemmas.List.{length-append, map-append}
use Rattle.std.proofs.lemmas.Option.{slice_get-get_or}
use Rattle.std.proofs.lemmas.List.Elements.{All-nil, All-cons, All-head, All-tail, All-push}
use Rattle.tw_rows.specs.Cells.{ArePlaced, read_cells}
use Rattle.tw_rows.specs.Rows.{Row, row_cmp}
use Rattle.tw_rows.specs.declared.cells.Datum.{Datum}
use Rattle.plan_laws.specs.Places.{AreDistinct}
use Rattle.plan_model.proofs.InOrder.{same_row, row_itself}
use Rattle.egress.specs.declared.moves.Moves.{Moves}
use Rattle.plan_laws.specs.RowCells.{cells_of}
use Rattle.egress.specs.Kept.{rows_of, KeepCells}
use Rattle.plan_laws.proofs.RowCells.{cells_again}

abbrev pub same : Row → Row → Bool
same = eq_by_cmp row_cmp

-- rows with one more, unless it is the last of them
push_row : List Row → Row → List Row
push_row [] y = y ∷ []
push_row (k ∷ []) y = cond (same y k) (k ∷ []) (k ∷ y ∷ [])
push_row (k ∷ x ∷ xs) y = k ∷ push_row (x ∷ xs) y

is_some_row : List Row → Bool
is_some_row [] = false
is_some_row (x ∷ xs) = true

some_rows : (k : Row) (xs : List Row) → is_some_row (dedup_from same k xs) ≡ true
unfolding is_some_row
some_rows k [] = refl
some_rows k (x ∷ xs) = pick (same x k) (some_rows k xs)
  where
    pick : (b : Bool) → is_some_row (dedup_from same k xs) ≡ true → is_some_row (cond b (dedup_from same k xs) (k ∷ dedup_from same x xs)) ≡ true
    pick true rest = rest
    pick false rest = refl

push_under : (k : Row) (xs : List Row) (y : Row) → is_some_row xs ≡ true → k ∷ push_row xs y ≡ push_row (k ∷ xs) y
unfolding push_row is_some_row
push_under k [] y e = absurd (cc)
push_under k (x ∷ xs) y e = refl

dedup_from-push : (k : Row) (xs : List Row) (y : Row) → dedup_from same k (xs ++ y ∷ []) ≡ push_row (dedup_from same k xs) y
unfolding push_row
dedup_from-push k [] y = refl
dedup_from-push k (x ∷ xs) y = pick (same x k) (dedup_from-push k xs y) (dedup_from-push x xs y)
  where
    pick : (b : Bool) → dedup_from same k (xs ++ y ∷ []) ≡ push_row (dedup_from same k xs) y → dedup_from same x (xs ++ y ∷ []) ≡ push_row (dedup_from same x xs) y →
        cond b (dedup_from same k (xs ++ y ∷ [])) (k ∷ dedup_from same x (xs ++ y ∷ [])) ≡ push_row (cond b (dedup_from same k xs) (k ∷ dedup_from same x xs)) y
    pick true stay next = stay
    pick false stay next = ap (λ l. k ∷ l) next ∙ push_under k (dedup_from same x xs) y (some_rows x xs)

dedup-push : (xs : List Row) (y : Row) → dedup same (xs ++ y ∷ []) ≡ push_row (dedup same xs) y
unfolding push_row
dedup-push [] y = refl
dedup-push (x ∷ xs) y = dedup_from-push x xs y

push_row-last : (xs : List Row) (k y : Row) → push_row (xs ++ k ∷ []) y ≡ cond (same y k) (xs ++ k ∷ []) ((xs ++ k ∷ []) ++ y ∷ [])
unfolding push_row
push_row-last [] k y = refl
push_row-last (x ∷ []) k y = under x (k ∷ []) (k ∷ y ∷ []) (same y k)
  where
    under : (x : Row) (p q : List Row) (b : Bool) → x ∷ cond b p q ≡ cond b (x ∷ p) (x ∷ q)
    under x p q true = refl
    under x p q false = refl
push_row-last (x ∷ z ∷ xs) k y = ap (λ l. x ∷ l) (push_row-last (z ∷ xs) k y) ∙ under (same y k)
  where
    under : (b : Bool) → x ∷ cond b ((z ∷ xs) ++ k ∷ []) (((z ∷ xs) ++ k ∷ []) ++ y ∷ []) ≡ cond b ((x ∷ z ∷ xs) ++ k ∷ []) (((x ∷ z ∷ xs) ++ k ∷ []) ++ y ∷ [])
    under true = refl
    under false = refl

-- the rows of edges so far, and what one more edge makes of them
module _ (before : List Row) where
  pub rows_first : (y : Row) → [] ≡ dedup same before → y ∷ [] ≡ dedup same (before ++ y ∷ [])
  unfolding push_row
  rows_first y is = ap (λ l. push_row l y) is ∙ sym (dedup-push before y)

  pub rows_stay : (xs : List Row) (k y : Row) → xs ++ k ∷ [] ≡ dedup same before → k ≡ y → xs ++ k ∷ [] ≡ dedup same (before ++ y ∷ [])
  rows_stay xs k y is e =
      sym (ap (λ b. cond b (xs ++ k ∷ []) ((xs ++ k ∷ []) ++ y ∷ [])) (ap (same y) e ∙ row_itself y))
      ∙ sym (push_row-last xs k y) ∙ ap (λ l. push_row l y) is ∙ sym (dedup-push before y)

  pub rows_grow : (xs : List Row) (k y : Row) → xs ++ k ∷ [] ≡ dedup same before → same y k ≡ false → (xs ++ k ∷ []) ++ y ∷ [] ≡ dedup same (before ++ y ∷ [])
  rows_grow xs k y is e =
      sym (ap (λ b. cond b (xs ++ k ∷ []) ((xs ++ k ∷ []) ++ y ∷ [])) e)
      ∙ sym (push_row-last xs k y) ∙ ap (λ l. push_row l y) is ∙ sym (dedup-push before y)

-- placed cells that are not the same stand for rows that are not
pub rows_apart : (texts : List (List ℕ)) → AreDistinct texts → (a b : List Datum) → ArePlaced texts a → ArePlaced texts b → (a ≡ b → ⊥) → same (read_cells texts b) (read_cells texts a) ≡ false
rows_apart texts distinct a b pa pb differ = pick (same (read_cells texts b) (read_cells texts a)) refl
  where
    pick : (c : Bool) → same (read_cells texts b) (read_cells texts a) ≡ c → c ≡ false
    pick false e = refl
    pick true e =
        absurd (differ (sym (cells_again texts distinct a pa)
        ∙ ap (cells_of texts) (sym (same_row (read_cells texts b) (read_cells texts a) e))
        ∙ cells_again texts distinct b pb))

-- what all moves are, those in front are, and the last are
all_left : (P : Moves → Type 0) (mid rest : List Moves) → All P (mid ++ rest) → All P mid
all_left P [] rest h = All-nil P
all_left P (x ∷ mid) rest h = All-cons P x mid (All-head P x (mid ++ rest) h) (all_left P mid rest (All-tail P x (mid ++ rest) h))

all_last : (P : Moves → Type 0) (mid : List Moves) (last : Moves) → All P (mid ++ last ∷ []) → P last
all_last P [] last h = All-head P last [] h
all_last P (x ∷ mid) last h = all_last P mid last (All-tail P x (mid ++ last ∷ []) h)

pub last_placed : (texts : List (List ℕ)) (old mid : List Moves) (last : Moves) → old ≡ mid ++ last ∷ [] → All (λ m. ArePlaced texts m.cells) old → ArePlaced texts last.cells
last_placed texts old mid last is h = all_last (λ (m : Moves). ArePlaced texts m.cells) mid last (subst (λ (l : List Moves). All (λ m. ArePlaced texts m.cells) l) is h)

pub left_kept : (p : List Datum → Bool) (old mid rest : List Moves) → old ≡ mid ++ rest → KeepCells p old → KeepCells p mid
left_kept p old mid rest is keeps = all_left (λ (m : Moves). p m.cells ≡ true) mid rest (subst (λ (l : List Moves). KeepCells p l) is keeps)

pub push_kept : (p : List Datum → Bool) (mid new : List Moves) (made : Moves) → new ≡ mid ++ made ∷ [] → KeepCells p mid → p made.cells ≡ true → KeepCells p new
push_kept p mid new made is keeps own = subst (λ (l : List Moves). KeepCells p l) (sym is) (All-push (λ (m : Moves). p m.cells ≡ true) mid made keeps own)

-- the last moves stand at the end
pub last_found : (rest : List Moves) (last : Moves) → slice_get (rest ++ last ∷ []) (length (rest ++ last ∷ []) - 1) ≡ Some last
last_found rest last =
    let n = length-append rest (last ∷ []) in
    let at : length (rest ++ last ∷ []) - 1 ≡ length rest = omega (arith, n) in
    ap (slice_get (rest ++ last ∷ [])) at ∙ slice_get-get_or (rest ++ last ∷ []) (length rest) last (omega (arith, n)) ∙ ap Some (get_or-append_seam rest last [] last)

pub no_last : (last : Moves) → None ≡ Some last → ⊥
no_last last e = absurd (cc)

pub same_last : (a b : Moves) → Some a ≡ Some b → a ≡ b
same_last a b e = cc

-- a list is empty, or has a last item
from_end : {X R : Type 0} (xs : List X) → (xs ≡ [] → R) → ((rest : List X) (x : X) → xs ≡ rest ++ x ∷ [] → R) → R
from_end [] none some = none refl
from_end (x ∷ xs) none some = from_end xs (λ e. some [] x (ap (λ l. x ∷ l) e)) (λ rest y e. some (x ∷ rest) y (ap (λ l. x ∷ l) e))

-- moves of another row than the last are one row more
pub rows_more : (texts : List (List ℕ)) → AreDistinct texts → (before : List Row) (old : List Moves) (made : Moves) → All (λ m. ArePlaced texts m.cells) old → ArePlaced texts made.cells →
    rows_of texts old ≡ dedup same before → ((rest : List Moves) (last : Moves) → old ≡ rest ++ last ∷ [] → last.cells ≡ made.cells → ⊥) →
    rows_of texts (old ++ made ∷ []) ≡ dedup same (before ++ read_cells texts made.cells ∷ [])
rows_more texts distinct before old made placed own is other =
    let y = read_cells texts made.cells in
    map-append (λ (m : Moves). read_cells texts m.cells) old (made ∷ [])
    ∙ from_end old
    (λ none. ap (λ l. rows_of texts l ++ y ∷ []) none ∙ rows_first before y (sym (ap (rows_of texts) none) ∙ is))
    (λ rest last at.
    let split = ap (rows_of texts) at ∙ map-append (λ (m : Moves). read_cells texts m.cells) rest (last ∷ []) in
    ap (λ l. l ++ y ∷ []) split
    ∙ rows_grow before (rows_of texts rest) (read_cells texts last.cells) y (sym split ∙ is)
    (rows_apart texts distinct last.cells made.cells (last_placed texts old rest last at placed) own (other rest last at)))
