-- What is open of the pairs are the pairs of what is open.
use Rattle.std.specs.Prelude.{◌≡◌, ℕ, Bool, true, false, List, flat_map, refl}
use Rattle.std.proofs.Common.{sym, ◌∙◌, arith}
use Rattle.std.proofs.lemmas.Bool.Decides.{nat_tests}
use Rattle.tw_rows.specs.Bag.{SameBag, total}
use Rattle.tw_rows.specs.declared.cells.Datum.{Datum}
use Rattle.tw_rows.proofs.Bags.{total-flat_map, total_same, total_swap}
use Rattle.edge_history.specs.History.{CellEvent}
use Rattle.tw_rows.specs.declared.edge.HeldRow.{HeldRow}
use Rattle.edge_history.specs.Opens.{open_of, opens}
use Rattle.sweep_laws.specs.Pairs.{pair_of, pairs, partners, all_partners}
use Rattle.key_nodes.specs.Joins.{joined_one, joined}

module _ (m : List Datum → List Datum → Bool) (p : List Datum → List Datum → List Datum) where
  pub pairs_total : (w : HeldRow → ℕ) (ls rs : List HeldRow) → total w (pairs m p ls rs) ≡ total (λ l. total (λ r. total w (pair_of m p l r)) rs) ls
  pairs_total w ls rs = total-flat_map w (λ l. flat_map (pair_of m p l) rs) ls ∙ total_same _ _ ls (λ l. total-flat_map w (pair_of m p l) rs)

  open_pair : (w : HeldRow → ℕ) (t : ℕ) (e f : CellEvent) →
      total (λ x. total w (open_of t x)) (joined_one m p e f) ≡ total (λ l. total (λ r. total w (pair_of m p l r)) (open_of t f)) (open_of t e)
  open_pair w t e f = grind (arith, nat_tests)

  pub opens_joined : (t : ℕ) (a b : List CellEvent) → SameBag (opens t (joined m p a b)) (pairs m p (opens t a) (opens t b))
  opens_joined t a b = record {
    weigh = λ w.
        let f1 = total-flat_map w (open_of t) (joined m p a b) in
        let v : CellEvent → ℕ = λ x. total w (open_of t x) in
        let f2 = total-flat_map v (λ e. flat_map (joined_one m p e) b) a in
        let f3 = total_same (λ e. total v (flat_map (joined_one m p e) b)) (λ e. total (λ l. total (λ r. total w (pair_of m p l r)) (opens t b)) (open_of t e)) a (λ e. one w e) in
        let f4 = total-flat_map (λ l. total (λ r. total w (pair_of m p l r)) (opens t b)) (open_of t) a in
        let f5 = pairs_total w (opens t a) (opens t b) in
        f1 ∙ f2 ∙ (f3 ∙ sym f4) ∙ sym f5;
  }
    where
      one : (w : HeldRow → ℕ) (e : CellEvent) → total (λ x. total w (open_of t x)) (flat_map (joined_one m p e) b) ≡ total (λ l. total (λ r. total w (pair_of m p l r)) (opens t b)) (open_of t e)
      one w e =
          total-flat_map (λ x. total w (open_of t x)) (joined_one m p e) b
          ∙ total_same _ _ b (λ f. open_pair w t e f)
          ∙ total_swap (λ f l. total (λ r. total w (pair_of m p l r)) (open_of t f)) b (open_of t e)
          ∙ total_same _ _ (open_of t e) (λ l. sym (total-flat_map (λ r. total w (pair_of m p l r)) (open_of t) b))

  -- the same bags give the same pairs
  pub pairs_same : (ls ms rs ss : List HeldRow) → SameBag ls ms → SameBag rs ss → SameBag (pairs m p ls rs) (pairs m p ms ss)
  pairs_same ls ms rs ss h k = record {
    weigh = λ w.
        pairs_total w ls rs ∙ total_same _ _ ls (λ l. k.weigh (λ r. total w (pair_of m p l r)))
        ∙ h.weigh (λ l. total (λ r. total w (pair_of m p l r)) ss) ∙ sym (pairs_total w ms ss);
  }

  -- from either side
  pub from_left : (w : HeldRow → ℕ) (ls rs : List HeldRow) → total w (all_partners m p false ls rs) ≡ total w (pairs m p ls rs)
  from_left w ls rs = refl

  pub from_right : (w : HeldRow → ℕ) (ls rs : List HeldRow) → total w (all_partners m p true rs ls) ≡ total w (pairs m p ls rs)
  from_right w ls rs =
      total-flat_map w (λ x. partners m p true x ls) rs ∙ total_same _ _ rs (λ r. total-flat_map w (λ l. pair_of m p l r) ls)
      ∙ total_swap (λ r l. total w (pair_of m p l r)) rs ls ∙ sym (pairs_total w ls rs)
