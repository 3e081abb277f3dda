-- The columns of what an anti-join tells are those of the left rows.
use Rattle.std.specs.Prelude.{◌≡◌, ℕ, zero, suc, ◌&&◌, nat_eq, Bool, true, false, cond, Option, Some, None, List, [], ◌∷◌, refl}
use Rattle.std.proofs.Common.{◌∙◌, ap, subst, arith}
use Rattle.tw_rows.specs.Bag.{total}
use Rattle.tw_rows.specs.Instant.{inf}
use Rattle.tw_rows.specs.SameCells.{same_cells}
use Rattle.tw_rows.specs.declared.cells.Datum.{Datum}
use Rattle.tw_rows.specs.declared.kind.CellKind.{CellKind}
use Rattle.tw_rows.proofs.Bags.{total-flat_map, total_zero}
use Rattle.edge_history.specs.History.{CellEvent}
use Rattle.edge_history.proofs.Sums.{sum_eq}
use Rattle.key_nodes.specs.Antis.{alone_at}
use Rattle.key_nodes.specs.Runs.{goes_on, runs}
use Rattle.sweep_laws.specs.Saving.{store_all}
use Rattle.sweep_sides.proofs.StoredRows.{row_stored}
use Rattle.sweep_sides.specs.Sweeping.{AreStored}
use Rattle.anti_join.specs.AntiJoined.{anti_meets, antis}

module _ (lk rk : List ℕ) (own : List CellKind) where
  abbrev lost : CellEvent → ℕ
  lost e = cond (row_stored own e) 0 1

  go_on : (o : Option (List Datum)) (t : ℕ) (es : List CellEvent) → ((r : List Datum) → o ≡ Some r → store_all own r ≡ true) → total lost es ≡ 0 → total lost (goes_on same_cells o t es) ≡ 0
  go_on None t es h z = z
  go_on (Some r) t [] h z = let s = ap (λ b. cond {A = ℕ} b 0 1) (h r refl) in omega (arith, s)
  go_on (Some r) t (e ∷ es) h z = pick (nat_eq e.end t && same_cells e.row r)
    where
      pick : (b : Bool) → total lost (cond b (record { row = e.row; start = e.start; end = suc t } ∷ es) (record { row = r; start = t; end = suc t } ∷ e ∷ es)) ≡ 0
      pick true = z
      pick false = let s = ap (λ b. cond {A = ℕ} b 0 1) (h r refl) in omega (arith, s, z)

  runs_stored : (f : ℕ → Option (List Datum)) (n : ℕ) → ((t : ℕ) (r : List Datum) → f t ≡ Some r → store_all own r ≡ true) → total lost (runs same_cells f n) ≡ 0
  runs_stored f zero h = refl
  runs_stored f (suc n) h = go_on (f n) n (runs same_cells f n) (λ r e. h n r e) (runs_stored f n h)

  of_row : (b : Bool) (x r : List Datum) → cond b (Some x) None ≡ Some r → store_all own x ≡ true → store_all own r ≡ true
  of_row true x r e h = let same : x ≡ r = cc in subst (λ (l : List Datum). store_all own l ≡ true) same h
  of_row false x r e h = absurd (cc)

  pub antis_stored : (a b : List CellEvent) → AreStored own a → AreStored own (antis lk rk a b)
  antis_stored a b ha =
      total-flat_map lost (λ e. runs same_cells (alone_at (anti_meets lk rk) b e) inf) a
      ∙ (sum_eq (row_stored own) (λ e. total lost (runs same_cells (alone_at (anti_meets lk rk) b e) inf)) (λ e. 0) a
      (λ e he. runs_stored (alone_at (anti_meets lk rk) b e) inf (λ t r k. of_row _ e.row r k he)) ha
      ∙ total_zero a)
