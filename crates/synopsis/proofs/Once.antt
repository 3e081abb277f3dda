-- Rows that stand once among moves.
use Rattle.std.specs.Prelude.{◌≡◌, ℕ, Bool, true, false, cond, not, ◌||◌, Result, Ok, Err, OnOk, List, [], ◌∷◌, refl}
use Rattle.std.specs.List.{list_any}
use Rattle.std.proofs.Common.{sym, ◌∙◌, ap, arith}
use Rattle.tw_rows.specs.SameCells.{same_cells, cells_are_same, same_itself}
use Rattle.tw_rows.specs.declared.cells.Datum.{Datum}
use Rattle.edge_history.specs.Order.{failing}
use Rattle.key_nodes.specs.Runs.{Tells}
use Rattle.key_nodes.specs.Groups.{distinct}
use Rattle.synopsis.specs.declared.moves.Moves.{Moves}
use Rattle.synopsis.specs.Kept.{rows_of, AreOnce}
use Rattle.synopsis.proofs.Telling.{sum_at}

pub cells_tell : Tells same_cells
cells_tell a b = (cells_are_same a b, λ e. ap (same_cells a) (sym e) ∙ same_itself a)

swapped : (a b : List Datum) → same_cells a b ≡ false → same_cells b a ≡ false
swapped a b h = go (same_cells b a) refl
  where
    go : (t : Bool) → same_cells b a ≡ t → same_cells b a ≡ false
    go false e = e
    go true e = let z = (cells_tell a b).1 (sym ((cells_tell b a).0 e)) in absurd (cc (z, h))

pub either_way : (a b : List Datum) → same_cells a b ≡ same_cells b a
either_way a b = go (same_cells a b) refl
  where
    go : (t : Bool) → same_cells a b ≡ t → t ≡ same_cells b a
    go true e = sym ((cells_tell b a).1 (sym ((cells_tell a b).0 e)))
    go false e = sym (swapped a b e)

-- a row that no move is of
pub none_of : (v : Moves → ℕ) (c : List Datum) (ms : List Moves) → list_any (same_cells c) (rows_of ms) ≡ false → sum_at v ms c ≡ 0
none_of v c [] h = refl
none_of v c (m ∷ ms) h =
    let p = both (same_cells c m.cells) (list_any (same_cells c) (rows_of ms)) h in
    let r = none_of v c ms p.1 in
    let z = ap (λ b. cond b (v m) 0) (swapped c m.cells p.0) in
    omega (arith, r, z)
  where
    both : (a b : Bool) → (a || b) ≡ false → (a ≡ false) × (b ≡ false)
    both true b h = absurd (cc)
    both false b h = (refl, h)

none_like : (k : List Datum) (ms : List Moves) → failing (λ n. not (same_cells k n.cells)) ms ≡ 0 → list_any (same_cells k) (rows_of ms) ≡ false
none_like k [] h = refl
none_like k (n ∷ ms) h = ap (λ b. b || list_any (same_cells k) (rows_of ms)) (is_false (same_cells k n.cells) (omega (arith, h))) ∙ none_like k ms (omega (arith, h))
  where
    is_false : (b : Bool) → cond {A = ℕ} (not b) 0 1 ≡ 0 → b ≡ false
    is_false true h = absurd (omega (arith, h))
    is_false false h = refl

pub all_distinct : (ms : List Moves) → AreOnce ms → distinct same_cells (rows_of ms) ≡ rows_of ms
all_distinct [] once = refl
all_distinct (m ∷ ms) once =
    ap (λ b. cond b (distinct same_cells (rows_of ms)) (m.cells ∷ distinct same_cells (rows_of ms))) (none_like m.cells ms once.0) ∙ ap (λ l. m.cells ∷ l) (all_distinct ms once.1)

pub on_both : {A B : Type 0} (r : Result A B) (P Q : Type 0) → OnOk r P → (P → Q) → OnOk r Q
on_both (Ok x) P Q h f = f h
on_both (Err x) P Q h f = tt
