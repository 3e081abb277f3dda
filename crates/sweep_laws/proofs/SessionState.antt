-- The last starts of the keys of open sessions, over an instant and over the time between two.
use Rattle.std.specs.Prelude.{◌≡◌, ℕ, suc, ◌+◌, ◌<◌, ◌≤◌, ◌&&◌, ◌||◌, nat_eq, nat_lt, nat_le, not, Bool, true, false, cond, Option, Some, None, is_some, List, [], ◌∷◌, filter, refl}
use Rattle.std.specs.List.{list_any}
use Rattle.std.proofs.Common.{sym, ◌∙◌, ap, subst, arith}
use Rattle.std.proofs.lemmas.Bool.{or_parts}
use Rattle.std.proofs.lemmas.Bool.Decides.{nat_tests}
use Rattle.tw_rows.specs.Instant.{inf}
use Rattle.tw_rows.specs.Bag.{SameBag, total}
use Rattle.tw_rows.specs.declared.cells.Datum.{Datum}
use Rattle.tw_rows.specs.declared.edge.Edge.{Edge}
use Rattle.tw_rows.specs.declared.edge.HeldRow.{HeldRow}
use Rattle.tw_rows.proofs.Bags.{total-map, total-filter, total-flat_map, total_same, total_zero}
use Rattle.edge_history.specs.Order.{failing}
use Rattle.edge_history.specs.History.{CellEvent}
use Rattle.edge_history.specs.Balance.{news_of, news}
use Rattle.edge_history.specs.Opens.{started_of, started_rows}
use Rattle.edge_history.proofs.Sums.{sum_eq, sum_le, weaker}
use Rattle.edge_history.proofs.Telling.{is_event}
use Rattle.edge_history.proofs.Opening.{news_part}
use Rattle.key_nodes.specs.Runs.{Tells}
use Rattle.key_nodes.specs.Sessions.{key_starts, sessions}
use Rattle.key_nodes.proofs.Bags.{any_by_weight}
use Rattle.sweep_laws.specs.Sessioning.{is_gap, IsLast, LastIs, Sessioning, kept_last, has_row_of}
use Rattle.sweep_laws.proofs.RowsTold.{started_one}
use Rattle.sweep_laws.proofs.SessionSteps.{gap_is_last}
use Rattle.sweep_laws.proofs.SessionTelling.{sessions_between}

any_false : (p : ℕ → Bool) (xs : List ℕ) → ((x : ℕ) → p x ≡ false) → list_any p xs ≡ false
any_false p [] h = refl
any_false p (x ∷ xs) h = ap (λ b. b || list_any p xs) (h x) ∙ any_false p xs h

-- no start between, where there is none in two parts
none_in_parts : (p q r : ℕ → Bool) (xs : List ℕ) → ((x : ℕ) → p x ≡ false → q x ≡ false → r x ≡ false) → list_any p xs ≡ false → list_any q xs ≡ false → list_any r xs ≡ false
none_in_parts p q r [] one h k = refl
none_in_parts p q r (x ∷ xs) one h k =
    let a = or_parts (p x) (list_any p xs) h in
    let b = or_parts (q x) (list_any q xs) k in
    ap (λ c. c || list_any r xs) (one x a.0 b.0) ∙ none_in_parts p q r xs one a.1 b.1

at_next : (s t x : ℕ) → (nat_lt s x && nat_lt x t) ≡ false → nat_eq t x ≡ false → (nat_lt s x && nat_lt x (suc t)) ≡ false
at_next s t x h k = grind (arith, nat_tests)

in_parts : (s u t x : ℕ) → (nat_lt s x && nat_lt x u) ≡ false → (nat_le u x && nat_lt x t) ≡ false → (nat_lt s x && nat_lt x t) ≡ false
in_parts s u t x h k = grind (arith, nat_tests)

none_inside : (t x : ℕ) → (nat_lt t x && nat_lt x (suc t)) ≡ false
none_inside t x = grind (arith, nat_tests)

eq_true : (m n : ℕ) → m ≡ n → nat_eq m n ≡ true
eq_true m n h = grind (arith, nat_tests)

eq_false : (m n : ℕ) → n < m → nat_eq m n ≡ false
eq_false m n h = grind (arith, nat_tests)

above : (m n : ℕ) → n ≤ m → nat_eq m n ≡ false → suc n ≤ m
above m n h k = grind (arith, nat_tests)

zero_of : (n : ℕ) → nat_lt 0 n ≡ false → n ≡ 0
zero_of n h = grind (arith, nat_tests)

none_of : (n : ℕ) → n ≡ 0 → nat_lt 0 n ≡ false
none_of n h = grind (arith, nat_tests)

same_some : (s t : ℕ) → Some s ≡ Some t → s ≡ t
same_some s t h = cc

module _ {K : Type 0} (key : List Datum → K) (same : K → K → Bool) (decides : Tells same) where
  weight_of : K → HeldRow → ℕ
  weight_of k r = cond (same k (key r.cells)) 1 0

  -- the keys of the started rows are those with a start at the instant
  started_is : (t : ℕ) (a : List CellEvent) (now : List Edge) (k : K) → failing is_event a ≡ 0 → SameBag now (news t (suc t) a) →
      has_row_of key same (started_rows now) k ≡ list_any (nat_eq t) (key_starts key same a k)
  started_is t a now k valid is =
      let W : HeldRow → ℕ = λ r. cond (same k (key r.cells)) 1 0 in
      let x = any_by_weight (λ (r : HeldRow). same k (key r.cells)) (started_rows now) in
      let y = any_by_weight (nat_eq t) (key_starts key same a k) in
      let p = total-flat_map W started_of now ∙ is.weigh (λ q. total W (started_of q)) ∙ total-flat_map (λ q. total W (started_of q)) (news_of t (suc t)) a
      ∙ sum_eq is_event _ (λ e. cond (nat_eq e.start t) (cond (same k (key e.row)) 1 0) 0) a (λ e h. started_one W t e h) valid in
      let q = total-map (λ s. cond (nat_eq t s) 1 0) (λ (e : CellEvent). e.start) (filter (λ e. same k (key e.row)) a) ∙ total-filter (λ (e : CellEvent). cond (nat_eq t e.start) 1 0) (λ e. same k (key e.row)) a in
      let z = total_same (λ (e : CellEvent). cond (nat_eq e.start t) (cond (same k (key e.row)) 1 0) 0) (λ e. cond (same k (key e.row)) (cond (nat_eq t e.start) 1 0) 0) a (λ e. turn e.start (same k (key e.row))) in
      x ∙ ap (nat_lt 0) (p ∙ z ∙ sym q) ∙ sym y
    where
      turn : (s : ℕ) (b : Bool) → cond {A = ℕ} (nat_eq s t) (cond b 1 0) 0 ≡ cond b (cond (nat_eq t s) 1 0) 0
      turn s b = grind (arith, nat_tests)

  module _ (timeout t : ℕ) (a : List CellEvent) (now : List Edge) (rows stay later ended : List HeldRow) (last last2 : K → Option ℕ) (pos : 1 ≤ timeout)
      (valid : failing is_event a ≡ 0) (is : SameBag now (news t (suc t) a)) (lasts : LastIs key same timeout a t last)
      (all : (k : K) → last k ≡ None → total (λ r. cond (same k (key r.cells)) 1 0) rows ≡ 0)
      (split : (w : HeldRow → ℕ) → total w rows ≡ total w stay + total w ended)
      (gone : (w : HeldRow → ℕ) → total w ended ≡ total (λ r. cond (is_gap timeout (key_starts key same a (key r.cells)) t) (w r) 0) rows)
      (come : (w : HeldRow → ℕ) → total w later ≡ total w stay + total w (started_rows now))
      (moved : (k : K) → last2 k ≡ cond (has_row_of key same (started_rows now) k) (Some t) (kept_last timeout t (last k))) where
    pub lasts_then : LastIs key same timeout a (suc t) last2
    lasts_then k s e = pick (has_row_of key same (started_rows now) k) refl
      where
        starts : List ℕ
        starts = key_starts key same a k

        kept : (f : Bool) → f ≡ false → (o : Option ℕ) → last k ≡ o → kept_last timeout t o ≡ Some s → list_any (nat_eq t) starts ≡ false → IsLast starts (suc t) s × (suc t ≤ s + timeout)
        kept f n None l g none = absurd (cc)
        kept f n (Some r) l g none = gap (nat_eq (r + timeout) t) refl g
          where
            gap : (b : Bool) → nat_eq (r + timeout) t ≡ b → cond b None (Some r) ≡ Some s → IsLast starts (suc t) s × (suc t ≤ s + timeout)
            gap true p q = absurd (cc)
            gap false p q =
                let x : r ≡ s = same_some r s q in
                let y = lasts k r l in
                subst (λ n. IsLast starts (suc t) n × (suc t ≤ n + timeout)) x (
                  record {
                    there = y.0.there;
                    low = (let z = y.0.low in omega (arith, z));
                    none_later = none_in_parts (λ n. nat_lt r n && nat_lt n t) (nat_eq t) (λ n. nat_lt r n && nat_lt n (suc t)) starts (λ n. at_next r t n) y.0.none_later none;
                  },
                  above (r + timeout) t y.1 p,
                )

        pick : (f : Bool) → has_row_of key same (started_rows now) k ≡ f → IsLast starts (suc t) s × (suc t ≤ s + timeout)
        pick true f =
            let x : t ≡ s = same_some t s (sym (ap (λ b. cond b (Some t) (kept_last timeout t (last k))) f) ∙ sym (moved k) ∙ e) in
            subst (λ n. IsLast starts (suc t) n × (suc t ≤ n + timeout)) x (
              record { there = sym (started_is t a now k valid is) ∙ f; low = omega arith; none_later = any_false (λ n. nat_lt t n && nat_lt n (suc t)) starts (λ n. none_inside t n) },
              omega (arith, pos),
            )
        pick false f = kept false refl (last k) refl (sym (ap (λ b. cond b (Some t) (kept_last timeout t (last k))) f) ∙ sym (moved k) ∙ e) (sym (started_is t a now k valid is) ∙ f)

    pub all_then : (k : K) → last2 k ≡ None → total (λ r. cond (same k (key r.cells)) 1 0) later ≡ 0
    all_then k e = pick (has_row_of key same (started_rows now) k) refl
      where
        W : HeldRow → ℕ
        W = λ r. cond (same k (key r.cells)) 1 0

        at_gap : (s : ℕ) → last k ≡ Some s → nat_eq (s + timeout) t ≡ true → (r : HeldRow) → cond {A = ℕ} (is_gap timeout (key_starts key same a (key r.cells)) t) (cond (same k (key r.cells)) 1 0) 0 ≡ cond (same k (key r.cells)) 1 0
        at_gap s l g r = by (same k (key r.cells)) refl
          where
            zero_either : (p : Bool) → cond {A = ℕ} p 0 0 ≡ 0
            zero_either p = grind arith

            by : (b : Bool) → same k (key r.cells) ≡ b → cond {A = ℕ} (is_gap timeout (key_starts key same a (key r.cells)) t) (cond b 1 0) 0 ≡ cond b 1 0
            by true h = ap (λ c. cond {A = ℕ} c 1 0) (ap (λ q. is_gap timeout (key_starts key same a q) t) (sym ((decides k (key r.cells)).0 h)) ∙ gap_is_last timeout t s (key_starts key same a k) pos (lasts k s l).0 ∙ g)
            by false h = zero_either (is_gap timeout (key_starts key same a (key r.cells)) t)

        stay_none : (o : Option ℕ) → last k ≡ o → kept_last timeout t o ≡ None → total (λ r. cond (same k (key r.cells)) 1 0) stay ≡ 0
        stay_none None l g = let x = all k l in let y = split (λ r. cond (same k (key r.cells)) 1 0) in omega (arith, x, y)
        stay_none (Some s) l g = by (nat_eq (s + timeout) t) refl g
          where
            by : (b : Bool) → nat_eq (s + timeout) t ≡ b → cond b None (Some s) ≡ None → total (λ r. cond (same k (key r.cells)) 1 0) stay ≡ 0
            by false h z = absurd (cc)
            by true h z =
                let x = split (λ r. cond (same k (key r.cells)) 1 0) in
                let y = gone (λ r. cond (same k (key r.cells)) 1 0) in
                let v = total_same (λ r. cond (is_gap timeout (key_starts key same a (key r.cells)) t) (cond (same k (key r.cells)) 1 0) 0) (λ r. cond (same k (key r.cells)) 1 0) rows (λ r. at_gap s l h r) in
                omega (arith, x, y, v)

        pick : (f : Bool) → has_row_of key same (started_rows now) k ≡ f → total (λ r. cond (same k (key r.cells)) 1 0) later ≡ 0
        pick true f = absurd (let z = sym (ap (λ b. cond b (Some t) (kept_last timeout t (last k))) f) ∙ sym (moved k) ∙ e in cc)
        pick false f =
            let x = come (λ r. cond (same k (key r.cells)) 1 0) in
            let y = stay_none (last k) refl (sym (ap (λ b. cond b (Some t) (kept_last timeout t (last k))) f) ∙ sym (moved k) ∙ e) in
            let z = zero_of (total (λ (r : HeldRow). cond (same k (key r.cells)) 1 0) (started_rows now)) (sym (any_by_weight (λ (r : HeldRow). same k (key r.cells)) (started_rows now)) ∙ f) in
            omega (arith, x, y, z)

  -- between instants
  start_within : (u t : ℕ) (k : K) (e : CellEvent) → cond {A = ℕ} (same k (key e.row)) (cond (nat_le u e.start && nat_lt e.start t) 1 0) 0 ≤ total (λ x. 1) (news_of u t e)
  start_within u t k e = one (same k (key e.row))
    where
      one : (b : Bool) → cond {A = ℕ} b (cond (nat_le u e.start && nat_lt e.start t) 1 0) 0 ≤ total (λ (x : Edge). 1) (news_of u t e)
      one b = grind (arith, nat_tests)

  no_starts : (u t : ℕ) (a : List CellEvent) (k : K) → ((w : Edge → ℕ) → total w (news u t a) ≡ 0) → list_any (λ x. nat_le u x && nat_lt x t) (key_starts key same a k) ≡ false
  no_starts u t a k none =
      let y = any_by_weight (λ x. nat_le u x && nat_lt x t) (key_starts key same a k) in
      let q = total-map (λ s. cond (nat_le u s && nat_lt s t) 1 0) (λ (e : CellEvent). e.start) (filter (λ e. same k (key e.row)) a) ∙ total-filter (λ (e : CellEvent). cond (nat_le u e.start && nat_lt e.start t) 1 0) (λ e. same k (key e.row)) a in
      let s = sum_le (λ e. true) (λ (e : CellEvent). cond (same k (key e.row)) (cond (nat_le u e.start && nat_lt e.start t) 1 0) 0) (λ e. total (λ x. 1) (news_of u t e)) a (λ e _. start_within u t k e) (total_zero a) in
      let f = total-flat_map (λ x. 1) (news_of u t) a in
      let z = none (λ x. 1) in
      y ∙ none_of _ (omega (arith, q, s, f, z))

  module _ (timeout u t : ℕ) (a : List CellEvent) (rows : List HeldRow) (last : K → Option ℕ) (pos : 1 ≤ timeout) (low : u ≤ t) (high : t ≤ inf)
      (valid : failing is_event a ≡ 0) (sound : failing is_event (sessions key same timeout a) ≡ 0) (none : (w : Edge → ℕ) → total w (news u t a) ≡ 0)
      (h : Sessioning key same timeout a u rows last) (wait : (k : K) (s : ℕ) → last k ≡ Some s → t ≤ s + timeout) where
    last_at : (v : ℕ) → u ≤ v → v ≤ t → (k : K) (s : ℕ) → last k ≡ Some s → IsLast (key_starts key same a k) v s
    last_at v p q k s e =
        let y = (h.lasts k s e).0 in
        record {
          there = y.there;
          low = (let z = y.low in omega (arith, z, p));
          none_later = none_in_parts (λ n. nat_lt s n && nat_lt n u) (λ n. nat_le u n && nat_lt n v) (λ n. nat_lt s n && nat_lt n v) (key_starts key same a k) (λ n. in_parts s u v n) y.none_later
              (no_starts u v a k (λ w. let m = news_part w u v t a p q in let z = none w in omega (arith, m, z)));
        }

    -- each kept row's key has a last start
    have_last : (xs : List HeldRow) → ((w : HeldRow → ℕ) → total w xs ≤ total w rows) → failing (λ r. is_some (last (key r.cells))) xs ≡ 0
    have_last [] within = refl
    have_last (x ∷ xs) within = pick (last (key x.cells)) refl (have_last xs (λ w. let z = within w in omega (arith, z)))
      where
        pick : (o : Option ℕ) → last (key x.cells) ≡ o → failing (λ r. is_some (last (key r.cells))) xs ≡ 0 → failing (λ r. is_some (last (key r.cells))) (x ∷ xs) ≡ 0
        pick (Some s) e rest = let z = ap (λ o. cond {A = ℕ} (is_some o) 0 1) e in omega (arith, z, rest)
        pick None e rest = absurd (
            let z = h.all (key x.cells) e in
            let y = within (λ r. cond (same (key x.cells) (key r.cells)) 1 0) in
            let g = ap (λ b. cond {A = ℕ} b 1 0) ((decides (key x.cells) (key x.cells)).1 refl) in
            omega (arith, z, y, g))

    quiet_one : (v : ℕ) → u ≤ v → v < t → (r : HeldRow) → is_some (last (key r.cells)) ≡ true → not (is_gap timeout (key_starts key same a (key r.cells)) v) ≡ true
    quiet_one v p q r e = pick (last (key r.cells)) refl e
      where
        pick : (o : Option ℕ) → last (key r.cells) ≡ o → is_some o ≡ true → not (is_gap timeout (key_starts key same a (key r.cells)) v) ≡ true
        pick None l g = absurd (cc)
        pick (Some s) l g = ap not (gap_is_last timeout v s (key_starts key same a (key r.cells)) pos (last_at v p (omega (arith, q)) (key r.cells) s l) ∙ eq_false (s + timeout) v (let z = wait (key r.cells) s l in omega (arith, z, q)))

    pub sessions_wait : Sessioning key same timeout a t rows last × ((w : Edge → ℕ) → total w (news u t (sessions key same timeout a)) ≡ 0)
    sessions_wait =
        let b = sessions_between key same decides timeout u t a rows pos low high valid sound none h.open_rows
        (λ v p q. weaker (λ r. is_some (last (key r.cells))) (λ r. not (is_gap timeout (key_starts key same a (key r.cells)) v)) rows (λ r e. quiet_one v p q r e) (have_last rows (λ w. omega arith))) in (
          record { open_rows = b.0; lasts = λ k s e. (last_at t low (omega arith) k s e, wait k s e); all = h.all },
          b.1,
        )
