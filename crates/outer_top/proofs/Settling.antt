-- How far rows were hidden and shown.
use Rattle.std.specs.Prelude.{◌≡◌, ℕ, ◌+◌, Bool, cond, List, refl}
use Rattle.std.proofs.Common.{◌∙◌, arith}
use Rattle.tw_rows.specs.Bag.{total}
use Rattle.tw_rows.specs.declared.cells.Datum.{Datum}
use Rattle.tw_rows.specs.declared.edge.HeldRow.{HeldRow}
use Rattle.tw_rows.proofs.Bags.{total-map}
use Rattle.edge_history.specs.Order.{failing}
use Rattle.edge_history.specs.Opens.{bare}
use Rattle.outer_top.specs.Ranks.{Group, rows_in, AreRanked}

-- the rows are the same, and those that are shown changed by what was lost and won
pub record Moved (shown0 hidden0 shown hidden : List Group) (lost0 won0 lost won : List (List Datum)) : Type 0 where
  pub rows : (w : HeldRow → ℕ) → total w (rows_in shown) + total w (rows_in hidden) ≡ total w (rows_in shown0) + total w (rows_in hidden0)
  pub moved : (w : List Datum → ℕ) → total w (bare (rows_in shown)) + total w lost + total w won0 ≡ total w (bare (rows_in shown0)) + total w lost0 + total w won
  pub fits : (p : List Datum → Bool) → failing p (bare (rows_in shown0)) ≡ 0 → failing p (bare (rows_in hidden0)) ≡ 0 → failing p won0 ≡ 0 → failing p won ≡ 0
  pub ranked : (rank : List Datum → ℕ → Bool) → AreRanked rank shown0 → AreRanked rank hidden0 → AreRanked rank shown × AreRanked rank hidden

module _ (shown0 hidden0 shown hidden shown1 hidden1 : List Group) (lost0 won0 lost won : List (List Datum)) (so_far : Moved shown0 hidden0 shown hidden lost0 won0 lost won)
    (rows : (w : HeldRow → ℕ) → total w (rows_in shown1) + total w (rows_in hidden1) ≡ total w (rows_in shown) + total w (rows_in hidden))
    (ranked : (rank : List Datum → ℕ → Bool) → AreRanked rank shown → AreRanked rank hidden → AreRanked rank shown1 × AreRanked rank hidden1) where
  pub then_lost : (lost1 : List (List Datum)) → ((w : List Datum → ℕ) → total w (bare (rows_in shown1)) + total w lost1 ≡ total w (bare (rows_in shown)) + total w lost) →
      Moved shown0 hidden0 shown1 hidden1 lost0 won0 lost1 won
  then_lost lost1 h = record {
    rows = λ w. rows w ∙ so_far.rows w;
    moved = λ w. let a = so_far.moved w in let b = h w in omega (arith, a, b);
    fits = so_far.fits;
    ranked = λ rank a b. let r = so_far.ranked rank a b in ranked rank r.0 r.1;
  }

  pub then_won : (won1 : List (List Datum)) → ((w : List Datum → ℕ) → total w (bare (rows_in shown1)) + total w won ≡ total w (bare (rows_in shown)) + total w won1) →
      Moved shown0 hidden0 shown1 hidden1 lost0 won0 lost won1
  then_won won1 h = record {
    rows = λ w. rows w ∙ so_far.rows w;
    moved = λ w. let a = so_far.moved w in let b = h w in omega (arith, a, b);
    fits = λ p a b z. (
        let v : HeldRow → ℕ = λ r. cond {A = ℕ} (p r.cells) 0 1 in
        let e = rows v ∙ so_far.rows v in
        let x = total-map (λ (l : List Datum). cond {A = ℕ} (p l) 0 1) (λ (r : HeldRow). r.cells) (rows_in shown0) in
        let y = total-map (λ (l : List Datum). cond {A = ℕ} (p l) 0 1) (λ (r : HeldRow). r.cells) (rows_in hidden0) in
        let s = total-map (λ (l : List Datum). cond {A = ℕ} (p l) 0 1) (λ (r : HeldRow). r.cells) (rows_in shown1) in
        let f = so_far.fits p a b z in
        let g = h (λ l. cond {A = ℕ} (p l) 0 1) in
        omega (arith, e, x, y, s, f, g, a, b)
        );
    ranked = λ rank a b. let r = so_far.ranked rank a b in ranked rank r.0 r.1;
  }

pub not_moved : (shown hidden : List Group) (lost won : List (List Datum)) → Moved shown hidden shown hidden lost won lost won
not_moved shown hidden lost won = record { rows = λ w. refl; moved = λ w. refl; fits = λ p a b z. z; ranked = λ rank a b. (a, b) }
