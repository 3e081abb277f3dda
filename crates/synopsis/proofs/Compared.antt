-- Few rows that are compared with each other.
use Rattle.std.specs.Prelude.{◌≡◌, ℕ, zero, suc, ◌+◌, ◌<◌, true, cond, not, List, [], ◌∷◌, ◌++◌, drop, length, get_or, refl}
use Rattle.std.specs.List.{list_all}
use Rattle.std.proofs.Common.{sym, ◌∙◌, ap, subst, arith}
use Rattle.tw_rows.specs.SameCells.{same_cells}
use Rattle.tw_rows.specs.declared.cells.Datum.{Datum}
use Rattle.tw_rows.proofs.Bags.{total-append}
use Rattle.edge_stream.proofs.CarriedParts.{none_fails}
use Rattle.key_nodes.specs.Coalesced.{how_often}
use Rattle.synopsis.specs.declared.moves.Moves.{Moves}
use Rattle.synopsis.specs.Kept.{ends_of, starts_of, AreOnce}
use Rattle.synopsis.specs.Counted.{each_moves}
use Rattle.synopsis.proofs.Counting.{nothing_more}
use Rattle.synopsis.proofs.Once.{either_way}
use Rattle.synopsis.proofs.Telling.{sum_at}

-- the moves from one on stand once, where those behind it do and are of other rows
once_more : (ms : List Moves) (i : ℕ) (x d : Moves) → i < length ms → x ≡ get_or ms i d →
    list_all (λ m. not (same_cells x.cells m.cells)) (drop (suc i) ms) ≡ true → AreOnce (drop (suc i) ms) → AreOnce (drop i ms)
once_more [] i x d low is apart once = absurd (omega (arith, low))
once_more (m ∷ ms) zero x d low is apart once =
    (none_fails (λ n. not (same_cells m.cells n.cells)) ms (subst (λ y. list_all (λ n. not (same_cells y.cells n.cells)) ms ≡ true) is apart), once)
once_more (m ∷ ms) (suc i) x d low is apart once = once_more ms i x d (omega (arith, low)) is apart once

pub once_next : (ms : List Moves) (i : ℕ) (x d : Moves) → i < length ms → x ≡ get_or ms i d →
    list_all (λ m. not (same_cells x.cells m.cells)) (drop (i + 1) ms) ≡ true → AreOnce (drop (i + 1) ms) → AreOnce (drop i ms)
once_next ms i x d low is apart once =
    let z : i + 1 ≡ suc i = omega arith in
    once_more ms i x d low is (ap (λ k. list_all (λ m. not (same_cells x.cells m.cells)) (drop k ms)) (sym z) ∙ apart) (subst (λ k. AreOnce (drop k ms)) z once)

-- moves that each count once, or not at all
module _ (ends starts : ℕ) (v : Moves → ℕ) where
  each_often : ((k : List Datum) → v (record { cells = k; ends = ends; starts = starts }) ≡ 1) → (rows : List (List Datum)) (c : List Datum) →
      sum_at v (each_moves ends starts rows) c ≡ how_often same_cells c rows
  each_often one [] c = refl
  each_often one (k ∷ rows) c =
      let r = each_often one rows c in
      let z = ap (λ n. cond {A = ℕ} (same_cells k c) n 0) (one k) in
      let a = ap (λ b. cond {A = ℕ} b 1 0) (either_way k c) in
      omega (arith, r, z, a)

  each_never : ((k : List Datum) → v (record { cells = k; ends = ends; starts = starts }) ≡ 0) → (rows : List (List Datum)) (c : List Datum) →
      sum_at v (each_moves ends starts rows) c ≡ 0
  each_never none [] c = refl
  each_never none (k ∷ rows) c =
      let r = each_never none rows c in
      let z = ap (λ n. cond {A = ℕ} (same_cells k c) n 0) (none k) in
      let a = nothing_more (same_cells k c) in
      omega (arith, r, z, a)

-- a move for each row that was lost or won
pub few_ends : (lost won : List (List Datum)) (ms : List Moves) (c : List Datum) → ms ≡ each_moves 1 0 lost ++ each_moves 0 1 won → ends_of ms c ≡ how_often same_cells c lost
few_ends lost won ms c is =
    let s = ap (λ l. ends_of l c) is ∙ total-append (λ m. cond (same_cells m.cells c) m.ends 0) (each_moves 1 0 lost) (each_moves 0 1 won) in
    let a = each_often 1 0 (λ m. m.ends) (λ k. refl) lost c in
    let b = each_never 0 1 (λ m. m.ends) (λ k. refl) won c in
    omega (arith, s, a, b)

pub few_starts : (lost won : List (List Datum)) (ms : List Moves) (c : List Datum) → ms ≡ each_moves 1 0 lost ++ each_moves 0 1 won → starts_of ms c ≡ how_often same_cells c won
few_starts lost won ms c is =
    let s = ap (λ l. starts_of l c) is ∙ total-append (λ m. cond (same_cells m.cells c) m.starts 0) (each_moves 1 0 lost) (each_moves 0 1 won) in
    let a = each_never 1 0 (λ m. m.starts) (λ k. refl) lost c in
    let b = each_often 0 1 (λ m. m.starts) (λ k. refl) won c in
    omega (arith, s, a, b)
