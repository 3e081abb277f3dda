-- When sessions end, and which are open after an instant.
use Rattle.std.specs.Prelude.{◌≡◌, ◌⊎◌, ℕ, suc, ◌+◌, ◌<◌, ◌≤◌, ◌&&◌, ◌||◌, nat_eq, nat_lt, nat_le, Bool, true, false, cond, not, List, [], ◌∷◌, map, filter, refl}
use Rattle.std.specs.List.{list_any}
use Rattle.std.proofs.Common.{inl, inr, sym, ◌∙◌, ap, subst, arith}
use Rattle.std.proofs.lemmas.Bool.Decides.{nat_tests}
use Rattle.std.proofs.lemmas.Bool.{cases_lt}
use Rattle.tw_rows.specs.Instant.{inf, later}
use Rattle.tw_rows.specs.Bag.{total}
use Rattle.tw_rows.specs.declared.cells.Datum.{Datum}
use Rattle.tw_rows.specs.declared.edge.HeldRow.{HeldRow}
use Rattle.tw_rows.proofs.Bags.{total-map, total-filter, total-flat_map, total_same, total-add}
use Rattle.edge_history.specs.Order.{failing}
use Rattle.edge_history.specs.History.{CellEvent}
use Rattle.edge_history.specs.Balance.{news_of, news}
use Rattle.edge_history.specs.Opens.{open_of, opens, started_of, started_rows}
use Rattle.edge_history.proofs.Sums.{sum_eq}
use Rattle.edge_history.proofs.Telling.{is_event}
use Rattle.key_nodes.specs.Runs.{Tells}
use Rattle.key_nodes.specs.Sessions.{any_between, last_starts, session_end, key_starts, session, sessions}
use Rattle.key_nodes.proofs.Least.{below, least_le}
use Rattle.key_nodes.proofs.Sessioning.{adds, below_is, end_after}
use Rattle.key_nodes.proofs.Bags.{any_by_weight}
use Rattle.sweep_laws.specs.Sessioning.{is_gap, IsLast}
use Rattle.sweep_laws.proofs.RowsTold.{cond_row, started_one}

-- a start that is there lies between
any_at : (from s t : ℕ) (starts : List ℕ) → list_any (nat_eq from) starts ≡ true → s < from → from < t → any_between starts s t ≡ true
any_at from s t [] h a b = h
any_at from s t (x ∷ xs) h a b = pick (λ k. any_at from s t xs k a b) (nat_eq from x) refl
  where
    one : (x : ℕ) → nat_eq from x ≡ true → (nat_lt s x && nat_lt x t) ≡ true
    one x e = grind (arith, nat_tests)

    right : (p q : Bool) → q ≡ true → (p || q) ≡ true
    right true q e = refl
    right false q e = e

    pick : (list_any (nat_eq from) xs ≡ true → any_between xs s t ≡ true) → (c : Bool) → nat_eq from x ≡ c → any_between (x ∷ xs) s t ≡ true
    pick rest true e = ap (λ c. c || any_between xs s t) (one x e)
    pick rest false e = right (nat_lt s x && nat_lt x t) (any_between xs s t) (rest (ap (λ c. c || list_any (nat_eq from) xs) (sym e) ∙ h))

-- one start: it ends the session before t + 1, as before t or with the gap at t
one_start : (timeout from t s : ℕ) (starts : List ℕ) → t < inf → from < t → list_any (nat_eq from) starts ≡ true →
    adds timeout starts from (suc t) s ≡ adds timeout starts from t s + cond (nat_eq (s + timeout) t && not (any_between starts s t)) 1 0
one_start timeout from t s starts low before there = pick (nat_eq (s + timeout) t) refl
  where
    pick : (c : Bool) → nat_eq (s + timeout) t ≡ c →
        adds timeout starts from (suc t) s ≡ adds timeout starts from t s + cond (nat_eq (s + timeout) t && not (any_between starts s t)) 1 0
    pick false e = other (not (any_between starts s (s + timeout))) (not (any_between starts s t)) e
      where
        other : (b d : Bool) → nat_eq (s + timeout) t ≡ false →
            cond {A = ℕ} (nat_le from s && b) (cond (nat_lt (later timeout s) (suc t)) 1 0) 0
            ≡ cond (nat_le from s && b) (cond (nat_lt (later timeout s) t) 1 0) 0 + cond (nat_eq (s + timeout) t && d) 1 0
        other b d e = grind (arith, nat_tests)
    pick true e = elim (cases_lt s from) [
      | inl early ↦
          let z = any_at from s t starts there early before in
          same (not (any_between starts s (s + timeout))) (not (any_between starts s t)) early (ap not z) e
      | inr after ↦
          let n : s + timeout ≡ t = is_it e in
          subst (λ u. cond {A = ℕ} (nat_le from s && not (any_between starts s (s + timeout))) (cond (nat_lt (later timeout s) (suc t)) 1 0) 0
          ≡ cond (nat_le from s && not (any_between starts s (s + timeout))) (cond (nat_lt (later timeout s) t) 1 0) 0 + cond (nat_eq (s + timeout) t && not (any_between starts s u)) 1 0) n
          (here (not (any_between starts s (s + timeout))) after e)
    ]
      where
        is_it : nat_eq (s + timeout) t ≡ true → s + timeout ≡ t
        is_it e = grind (arith, nat_tests)

        same : (b d : Bool) → s < from → d ≡ false → nat_eq (s + timeout) t ≡ true →
            cond {A = ℕ} (nat_le from s && b) (cond (nat_lt (later timeout s) (suc t)) 1 0) 0
            ≡ cond (nat_le from s && b) (cond (nat_lt (later timeout s) t) 1 0) 0 + cond (nat_eq (s + timeout) t && d) 1 0
        same b d p z e = grind (arith, nat_tests)

        here : (b : Bool) → from ≤ s → nat_eq (s + timeout) t ≡ true →
            cond {A = ℕ} (nat_le from s && b) (cond (nat_lt (later timeout s) (suc t)) 1 0) 0
            ≡ cond (nat_le from s && b) (cond (nat_lt (later timeout s) t) 1 0) 0 + cond (nat_eq (s + timeout) t && b) 1 0
        here b p e = grind (arith, nat_tests)

-- the step: what is open at t stays open unless the gap has just passed, which is the same for all rows of the key
pub session_step : (timeout from t : ℕ) (starts : List ℕ) → t < inf → from < t → list_any (nat_eq from) starts ≡ true →
    nat_le (suc t) (session_end timeout starts from) ≡ (nat_le t (session_end timeout starts from) && not (is_gap timeout starts t))
session_step timeout from t starts low before there =
    let g : ℕ → ℕ = λ s. cond (nat_eq (s + timeout) t && not (any_between starts s t)) 1 0 in
    let a = least_le (suc t) inf (map (later timeout) (last_starts timeout starts from)) in
    let b = least_le t inf (map (later timeout) (last_starts timeout starts from)) in
    let p = below_is timeout starts from (suc t) in
    let q = below_is timeout starts from t in
    let r = total_same (adds timeout starts from (suc t)) (λ s. adds timeout starts from t s + g s) starts (λ s. one_start timeout from t s starts low before there) in
    let u = total-add (adds timeout starts from t) g starts in
    let v = any_by_weight (λ s. nat_eq (s + timeout) t && not (any_between starts s t)) starts in
    final (session_end timeout starts from) (below (suc t) (map (later timeout) (last_starts timeout starts from))) (below t (map (later timeout) (last_starts timeout starts from))) (total g starts) (is_gap timeout starts t)
    a b (p ∙ r ∙ u ∙ ap (λ n. n + total g starts) (sym q)) v
  where
    final : (e m n k : ℕ) (c : Bool) → nat_le (suc t) e ≡ (nat_le (suc t) inf && nat_eq m 0) → nat_le t e ≡ (nat_le t inf && nat_eq n 0) → m ≡ n + k → c ≡ nat_lt 0 k →
        nat_le (suc t) e ≡ (nat_le t e && not c)
    final e m n k c a b p v = grind (arith, nat_tests)

module _ {K : Type 0} (key : List Datum → K) (same : K → K → Bool) (decides : Tells same) where
  -- every event's start is a start of its key
  each_there : (xs ys : List CellEvent) → ((p : CellEvent → ℕ) → total p xs ≤ total p ys) → failing (λ e. list_any (nat_eq e.start) (key_starts key same ys (key e.row))) xs ≡ 0
  each_there [] ys h = refl
  each_there (x ∷ xs) ys h =
      let rest = each_there xs ys (λ p. let z = h p in omega (arith, z)) in
      let one = present x xs ys h in
      let z = ap (λ b. cond {A = ℕ} b 0 1) one in
      omega (arith, rest, z)
    where
      test : CellEvent → CellEvent → ℕ
      test x e = cond (same (key x.row) (key e.row)) (cond (nat_eq x.start e.start) 1 0) 0

      itself : (n : ℕ) → nat_eq n n ≡ true
      itself n = grind (arith, nat_tests)

      present : (x : CellEvent) (xs ys : List CellEvent) → ((p : CellEvent → ℕ) → total p (x ∷ xs) ≤ total p ys) → list_any (nat_eq x.start) (key_starts key same ys (key x.row)) ≡ true
      present x xs ys h =
          let a = any_by_weight (nat_eq x.start) (key_starts key same ys (key x.row)) in
          let b = total-map (λ s. cond (nat_eq x.start s) 1 0) (λ (e : CellEvent). e.start) (filter (λ e. same (key x.row) (key e.row)) ys) in
          let c = total-filter (λ (e : CellEvent). cond (nat_eq x.start e.start) 1 0) (λ e. same (key x.row) (key e.row)) ys in
          let d = h (test x) in
          let k = ap (λ q. cond {A = ℕ} q (cond (nat_eq x.start x.start) 1 0) 0) ((decides (key x.row) (key x.row)).1 refl) in
          let n = ap (λ q. cond {A = ℕ} q 1 0) (itself x.start) in
          a ∙ lt_one _ (omega (arith, b, c, d, k, n))
        where
          lt_one : (m : ℕ) → 1 ≤ m → nat_lt 0 m ≡ true
          lt_one m l = grind (arith, nat_tests)

  -- one event
  session_one : (timeout t : ℕ) (a : List CellEvent) (w : HeldRow → ℕ) (e : CellEvent) → 1 ≤ timeout → t < inf → list_any (nat_eq e.start) (key_starts key same a (key e.row)) ≡ true →
      total w (open_of (suc t) (session key same timeout a e))
      ≡ total (λ r. cond (is_gap timeout (key_starts key same a (key r.cells)) t) 0 (w r)) (open_of t (session key same timeout a e))
      + cond (nat_eq e.start t) (w (record { cells = e.row; start = e.start })) 0
  session_one timeout t a w e pos low there =
      let r : HeldRow = record { cells = e.row; start = e.start } in
      let starts = key_starts key same a (key e.row) in
      let g = is_gap timeout starts t in
      let x = cond_row w (nat_lt e.start (suc t) && nat_le (suc t) (session_end timeout starts e.start)) r in
      let y = cond_row (λ q. cond (is_gap timeout (key_starts key same a (key q.cells)) t) 0 (w q)) (nat_lt e.start t && nat_le t (session_end timeout starts e.start)) r in
      let z = pick e.start (session_end timeout starts e.start) g (w r) (λ b. session_step timeout e.start t starts low b there)
      (λ b. subst (λ n. n < session_end timeout starts e.start) b (end_after timeout e.start starts pos (omega (arith, low, b)))) in
      x ∙ z ∙ ap (λ n. n + cond (nat_eq e.start t) (w r) 0) (sym y)
    where
      pick : (from end : ℕ) (g : Bool) (n : ℕ) → (from < t → nat_le (suc t) end ≡ (nat_le t end && not g)) → (from ≡ t → t < end) →
          cond {A = ℕ} (nat_lt from (suc t) && nat_le (suc t) end) n 0 ≡ cond (nat_lt from t && nat_le t end) (cond g 0 n) 0 + cond (nat_eq from t) n 0
      pick from end g n h k = elim (cases_lt from t) [
        | inl before ↦ low_case from end g n before (h before)
        | inr after ↦ (elim (cases_lt t from) [
          | inl late ↦ late_case from end g n late
          | inr no_later ↦ (let q : from ≡ t = omega (arith, after, no_later) in same_case from end g n q (k q))
        ])
      ]
        where
          low_case : (from end : ℕ) (g : Bool) (n : ℕ) → from < t → nat_le (suc t) end ≡ (nat_le t end && not g) →
              cond {A = ℕ} (nat_lt from (suc t) && nat_le (suc t) end) n 0 ≡ cond (nat_lt from t && nat_le t end) (cond g 0 n) 0 + cond (nat_eq from t) n 0
          low_case from end g n p q = grind (arith, nat_tests)

          late_case : (from end : ℕ) (g : Bool) (n : ℕ) → t < from →
              cond {A = ℕ} (nat_lt from (suc t) && nat_le (suc t) end) n 0 ≡ cond (nat_lt from t && nat_le t end) (cond g 0 n) 0 + cond (nat_eq from t) n 0
          late_case from end g n p = grind (arith, nat_tests)

          same_case : (from end : ℕ) (g : Bool) (n : ℕ) → from ≡ t → t < end →
              cond {A = ℕ} (nat_lt from (suc t) && nat_le (suc t) end) n 0 ≡ cond (nat_lt from t && nat_le t end) (cond g 0 n) 0 + cond (nat_eq from t) n 0
          same_case from end g n p q = grind (arith, nat_tests)

  -- all events: the open rows after an instant are those whose key has no gap there, and those that start
  pub sessions_step : (timeout t : ℕ) (a : List CellEvent) (w : HeldRow → ℕ) → 1 ≤ timeout → t < inf → failing is_event a ≡ 0 →
      total w (opens (suc t) (sessions key same timeout a))
      ≡ total (λ r. cond (is_gap timeout (key_starts key same a (key r.cells)) t) 0 (w r)) (opens t (sessions key same timeout a)) + total w (started_rows (news t (suc t) a))
  sessions_step timeout t a w pos low valid =
      let v : HeldRow → ℕ = λ r. cond (is_gap timeout (key_starts key same a (key r.cells)) t) 0 (w r) in
      let s = session key same timeout a in
      let n : CellEvent → ℕ = λ e. cond (nat_eq e.start t) (w (record { cells = e.row; start = e.start })) 0 in
      let a1 = total-flat_map w (open_of (suc t)) (map s a) ∙ total-map (λ x. total w (open_of (suc t) x)) s a in
      let a2 = total-flat_map v (open_of t) (map s a) ∙ total-map (λ x. total v (open_of t x)) s a in
      let one = sum_eq (λ e. list_any (nat_eq e.start) (key_starts key same a (key e.row))) (λ e. total w (open_of (suc t) (s e))) (λ e. total v (open_of t (s e)) + n e) a
      (λ e h. session_one timeout t a w e pos low h) (each_there a a (λ p. omega arith)) in
      let a3 = total-add (λ e. total v (open_of t (s e))) n a in
      let a4 = total-flat_map w started_of (news t (suc t) a) ∙ total-flat_map (λ x. total w (started_of x)) (news_of t (suc t)) a
      ∙ sum_eq is_event _ n a (λ e h. started_one w t e h) valid in
      omega (arith, a1, a2, one, a3, a4)

-- the gap is at the last start: with the last start below t kept, no other start is asked
any_here : (p : ℕ → Bool) (x : ℕ) (xs : List ℕ) → list_any (nat_eq x) xs ≡ true → p x ≡ true → list_any p xs ≡ true
any_here p x [] h k = h
any_here p x (y ∷ ys) h k = pick (λ g. any_here p x ys g k) (nat_eq x y) refl
  where
    is_it : (x y : ℕ) → nat_eq x y ≡ true → x ≡ y
    is_it x y e = grind (arith, nat_tests)

    right : (a b : Bool) → b ≡ true → (a || b) ≡ true
    right true b e = refl
    right false b e = e

    pick : (list_any (nat_eq x) ys ≡ true → list_any p ys ≡ true) → (c : Bool) → nat_eq x y ≡ c → list_any p (y ∷ ys) ≡ true
    pick rest true e = ap (λ c. c || list_any p ys) (ap p (sym (is_it x y e)) ∙ k)
    pick rest false e = right (p y) (list_any p ys) (rest (ap (λ c. c || list_any (nat_eq x) ys) (sym e) ∙ h))

none_here : (p : ℕ → Bool) (xs ys : List ℕ) → ((x : ℕ) → list_any (nat_eq x) ys ≡ true → p x ≡ false) → ((x : ℕ) → list_any (nat_eq x) xs ≡ true → list_any (nat_eq x) ys ≡ true) → list_any p xs ≡ false
none_here p [] ys none within = refl
none_here p (x ∷ xs) ys none within =
    ap (λ c. c || list_any p xs) (none x (within x (ap (λ c. c || list_any (nat_eq x) xs) (self x)))) ∙ none_here p xs ys none (λ y h. within y (right (nat_eq y x) (list_any (nat_eq y) xs) h))
  where
    self : (n : ℕ) → nat_eq n n ≡ true
    self n = grind (arith, nat_tests)

    right : (a b : Bool) → b ≡ true → (a || b) ≡ true
    right true b e = refl
    right false b e = e

pub gap_is_last : (timeout t last : ℕ) (starts : List ℕ) → 1 ≤ timeout → IsLast starts t last → is_gap timeout starts t ≡ nat_eq (last + timeout) t
gap_is_last timeout t last starts pos h = pick (nat_eq (last + timeout) t) refl
  where
    here : (b : Bool) → b ≡ false → (true && not b) ≡ true
    here b e = ap not e

    pick : (c : Bool) → nat_eq (last + timeout) t ≡ c → is_gap timeout starts t ≡ c
    pick true e = any_here (λ s. nat_eq (s + timeout) t && not (any_between starts s t)) last starts h.there (ap (λ c. c && not (any_between starts last t)) e ∙ ap not h.none_later)
    pick false e = none_here (λ s. nat_eq (s + timeout) t && not (any_between starts s t)) starts starts (λ s there. each s there (cases_lt s last) (cases_lt last s) (nat_eq (s + timeout) t) refl) (λ s there. there)
      where
        no : (b : Bool) → (b && false) ≡ false
        no true = refl
        no false = refl

        same : (s last : ℕ) → last ≤ s → s ≤ last → nat_eq (last + timeout) t ≡ false → nat_eq (s + timeout) t ≡ true → ⊥
        same s last p q e g = grind (arith, nat_tests)

        low_of : (s : ℕ) → 1 ≤ timeout → nat_eq (s + timeout) t ≡ true → s < t
        low_of s p g = grind (arith, nat_tests)

        each : (s : ℕ) → list_any (nat_eq s) starts ≡ true → (s < last) ⊎ (last ≤ s) → (last < s) ⊎ (s ≤ last) → (c : Bool) → nat_eq (s + timeout) t ≡ c →
            (nat_eq (s + timeout) t && not (any_between starts s t)) ≡ false
        each s there (inl before) o c g = ap (λ b. nat_eq (s + timeout) t && not b) (any_at last s t starts h.there before h.low) ∙ no (nat_eq (s + timeout) t)
        each s there (inr p) (inr q) true g = absurd (same s last p q e g)
        each s there (inr p) (inl q) true g = absurd (let z = any_at s last t starts there q (low_of s pos g) in let y = h.none_later in cc)
        each s there (inr p) o false g = ap (λ b. b && not (any_between starts s t)) g
