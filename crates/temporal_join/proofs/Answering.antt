-- The columns of pairs are those of both rows.
use Rattle.std.specs.Prelude.{◌≡◌, ℕ, suc, max, min, nat_eq, nat_lt, Bool, true, false, cond, List, [], ◌∷◌, ◌++◌, map, flat_map, refl}
use Rattle.std.specs.List.{list_any}
use Rattle.std.proofs.Common.{sym, ◌∙◌, ap, arith}
use Rattle.std.proofs.lemmas.List.{map-append}
use Rattle.tw_rows.specs.Bag.{total}
use Rattle.tw_rows.specs.Cells.{datum_kind}
use Rattle.tw_rows.specs.declared.cells.Datum.{Datum}
use Rattle.tw_rows.specs.declared.kind.CellKind.{CellKind}
use Rattle.tw_rows.proofs.Bags.{total-flat_map, total_zero}
use Rattle.edge_history.specs.History.{CellEvent}
use Rattle.edge_history.proofs.Sums.{sum_eq}
use Rattle.key_nodes.specs.Joins.{joined_one}
use Rattle.plan_model.specs.Keys.{outside_from, outside_key, paired_row}
use Rattle.sweep_laws.specs.Saving.{store_all}
use Rattle.sweep_laws.proofs.Stored.{kinds_stored, stored_kinds}
use Rattle.sweep_sides.proofs.StoredRows.{row_stored}
use Rattle.sweep_sides.specs.Sweeping.{AreStored}
use Rattle.temporal_join.specs.Joined.{join_meets, joins}

-- a function of each column commutes with pairing
module _ {X Y : Type 0} (f : X → Y) where
  outside_mapped : (i : ℕ) (key : List ℕ) (row : List X) → outside_from i key (map f row) ≡ map f (outside_from i key row)
  outside_mapped i key [] = refl
  outside_mapped i key (x ∷ row) = ap (λ l. cond (list_any (nat_eq i) key) l (f x ∷ l)) (outside_mapped (suc i) key row) ∙ out (list_any (nat_eq i) key)
    where
      out : (b : Bool) → cond b (map f (outside_from (suc i) key row)) (f x ∷ map f (outside_from (suc i) key row)) ≡ map f (cond b (outside_from (suc i) key row) (x ∷ outside_from (suc i) key row))
      out true = refl
      out false = refl

  pub pair_mapped : (key : List ℕ) (a b : List X) → paired_row key (map f a) (map f b) ≡ map f (paired_row key a b)
  pair_mapped key a b = ap (λ l. map f a ++ l) (outside_mapped 0 key b) ∙ sym (map-append f a (outside_key key b))

module _ (lk rk : List ℕ) (left right own : List CellKind) (follows : own ≡ paired_row rk left right) where
  pair_stored : (a b : List Datum) → store_all left a ≡ true → store_all right b ≡ true → store_all own (paired_row rk a b) ≡ true
  pair_stored a b h k =
      kinds_stored own (paired_row rk a b)
      (sym (pair_mapped datum_kind rk a b) ∙ ((λ i. paired_row rk (stored_kinds left a h i) (stored_kinds right b k i)) ∙ sym follows))

  abbrev lost : CellEvent → ℕ
  lost e = cond (row_stored own e) 0 1

  one_stored : (a b : CellEvent) → row_stored left a ≡ true → row_stored right b ≡ true → total lost (joined_one (join_meets lk rk) (paired_row rk) a b) ≡ 0
  one_stored a b h k = go (join_meets lk rk a.row b.row) (nat_lt (max a.start b.start) (min a.end b.end))
    where
      none : cond {A = ℕ} (store_all own (paired_row rk a.row b.row)) 0 1 ≡ 0
      none = ap (λ t. cond {A = ℕ} t 0 1) (pair_stored a.row b.row h k)

      go : (m l : Bool) → total lost (cond m (cond l (record { row = paired_row rk a.row b.row; start = max a.start b.start; end = min a.end b.end } ∷ []) []) []) ≡ 0
      go true true = let z = none in omega (arith, z)
      go true false = refl
      go false l = refl

  pub joins_stored : (a b : List CellEvent) → AreStored left a → AreStored right b → AreStored own (joins lk rk a b)
  joins_stored a b ha hb =
      total-flat_map lost (λ e. flat_map (joined_one (join_meets lk rk) (paired_row rk) e) b) a
      ∙ (sum_eq (row_stored left) (λ e. total lost (flat_map (joined_one (join_meets lk rk) (paired_row rk) e) b)) (λ e. 0) a
      (λ e he. total-flat_map lost (joined_one (join_meets lk rk) (paired_row rk) e) b
      ∙ (sum_eq (row_stored right) (λ g. total lost (joined_one (join_meets lk rk) (paired_row rk) e g)) (λ g. 0) b (λ g hg. one_stored e g he hg) hb ∙ total_zero b)) ha
      ∙ total_zero a)
