-- What is held in another order, and how much it is.
use Rattle.std.specs.Prelude.{◌≡◌, ℕ, zero, suc, ◌≤◌, nat_eq, not, Bool, true, false, cond, Some, None, List, [], ◌∷◌, filter, length, refl}
use Rattle.std.proofs.Common.{sym, ◌∙◌, ap, arith}
use Rattle.tw_rows.specs.Bag.{SameBag}
use Rattle.tw_rows.specs.SameCells.{same_cells, same_itself}
use Rattle.tw_rows.specs.declared.cells.Datum.{Datum}
use Rattle.tw_rows.specs.declared.edge.HeldRow.{HeldRow}
use Rattle.tw_rows.proofs.Bags.{SameBag-trans, SameBag-map, total_same}
use Rattle.edge_history.specs.History.{CellEvent}
use Rattle.edge_history.specs.Opens.{bare}
use Rattle.edge_history.specs.Order.{many}
use Rattle.key_nodes.proofs.Bags.{any_of_same}
use Rattle.synopsis.specs.Held.{key_of, is_of_key}
use Rattle.anti_join.specs.AntiJoined.{anti_meets}
use Rattle.anti_join.specs.Free.{status_of}
use Rattle.anti_join.specs.Holding.{same_run, AntiHeld}
use Rattle.anti_join.proofs.Keys.{parted, ones, others_of, kept_length}

-- of equal bags of right rows and times a key has the same status
same_status : (lk rk : List ℕ) (right right2 times times2 : List HeldRow) (k : List Datum) → SameBag right2 right → SameBag times2 times → status_of lk rk right2 times2 k ≡ status_of lk rk right times k
same_status lk rk right right2 times times2 k b t =
    let r = b.weigh (λ x. cond (is_of_key rk k x) 1 0) in
    let s = t.weigh (λ x. cond (is_of_key lk k x) x.start 0) in
    λ i. cond (nat_eq (r i) 0) (Some (s i)) None

pub held_same : (lk rk : List ℕ) (a b : List CellEvent) (t : ℕ) (left right times left2 right2 times2 : List HeldRow) → SameBag left2 left → SameBag right2 right → SameBag times2 times →
    AntiHeld lk rk a b t left right times → AntiHeld lk rk a b t left2 right2 times2
held_same lk rk a b t left right times left2 right2 times2 l r s h = record {
  status = h.status;
  now = record {
    left_rows = SameBag-trans _ _ _ l h.now.left_rows;
    right_rows = SameBag-trans _ _ _ r h.now.right_rows;
    since = h.now.since;
    steady = λ row. ap not (any_of_same (anti_meets lk rk row) (bare right2) (bare right) (SameBag-map (λ x. x.cells) right2 right r)) ∙ h.now.steady row;
    runs = h.now.runs;
  };
  agrees =
      l.weigh (λ x. cond (same_run (status_of lk rk right2 times2 (key_of lk x.cells)) (h.status (key_of lk x.cells)) x) 0 1)
      ∙ (total_same _ _ left (λ x. ap (λ st. cond {A = ℕ} (same_run st (h.status (key_of lk x.cells)) x) 0 1) (same_status lk rk right right2 times times2 (key_of lk x.cells) r s)) ∙ h.agrees);
  early = λ k. (let e = h.early k in let w = s.weigh (λ x. cond (is_of_key lk k x) x.start 0) in omega (arith, e, w));
  few = λ k none.
      let n = l.weigh (λ x. cond (is_of_key lk k x) 1 0) in
      let f = h.few k (omega (arith, n, none)) in
      let w = s.weigh (λ x. cond (is_of_key lk k x) 1 0) in
      omega (arith, f, w);
}

-- no more times than left rows
pub times_few : (key : List ℕ) (times left : List HeldRow) → ((k : List Datum) → many (is_of_key key k) times ≤ 1) → ((k : List Datum) → many (is_of_key key k) left ≡ 0 → many (is_of_key key k) times ≡ 0) →
    length times ≤ length left
times_few key [] left one few = omega arith
times_few key (x ∷ xs) left one few =
    let k = key_of key x.cells in
    let here = ap (λ b. cond {A = ℕ} b 1 0) (same_itself (key_of key x.cells)) in
    let some : 1 ≤ many (is_of_key key (key_of key x.cells)) left = at_least (many (is_of_key key (key_of key x.cells)) left) (λ z. (let f = few (key_of key x.cells) z in omega (arith, f, here))) in
    let rest = times_few key xs (filter (λ r. not (is_of_key key (key_of key x.cells) r)) left) fewer kept in
    let p = parted (λ r. 1) (is_of_key key (key_of key x.cells)) left in
    let n = kept_length (is_of_key key (key_of key x.cells)) left in
    let a = ones left in
    let b = ones (filter (is_of_key key (key_of key x.cells)) left) in
    let c = ones (filter (λ r. not (is_of_key key (key_of key x.cells) r)) left) in
    omega (arith, some, rest, p, n, a, b, c)
  where
    at_least : (n : ℕ) → (n ≡ 0 → ⊥) → 1 ≤ n
    at_least zero h = absurd (h refl)
    at_least (suc n) h = omega arith

    fewer : (k : List Datum) → many (is_of_key key k) xs ≤ 1
    fewer k = let o = one k in omega (arith, o)

    kept : (k : List Datum) → many (is_of_key key k) (filter (λ r. not (is_of_key key (key_of key x.cells) r)) left) ≡ 0 → many (is_of_key key k) xs ≡ 0
    kept k none = pick (same_cells (key_of key x.cells) k) refl (sym (others_of key (key_of key x.cells) k (λ r. 1) left) ∙ none)
      where
        pick : (b : Bool) → same_cells (key_of key x.cells) k ≡ b → cond (same_cells (key_of key x.cells) k) 0 (many (is_of_key key k) left) ≡ 0 → many (is_of_key key k) xs ≡ 0
        pick true e z = let o = one k in let y = ap (λ b. cond {A = ℕ} b 1 0) e in omega (arith, o, y)
        pick false e z =
            let y = ap (λ b. cond b 0 (many (is_of_key key k) left)) e in
            let f = few k (omega (arith, y, z)) in
            omega (arith, f)
