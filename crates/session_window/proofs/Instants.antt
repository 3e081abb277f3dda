-- One instant of a Session with its kept rows, and the time between two.
use Rattle.std.specs.Prelude.{◌≡◌, ℕ, suc, ◌+◌, ◌*◌, ◌<◌, ◌≤◌, ◌&&◌, nat_eq, nat_le, nat_lt, not, Bool, true, false, cond, Option, Some, None, List, [], ◌∷◌, filter, map, refl}
use Rattle.std.proofs.Common.{sym, ◌∙◌, ap, subst, arith}
use Rattle.std.proofs.lemmas.Bool.{and_parts}
use Rattle.std.proofs.lemmas.Bool.Decides.{nat_tests}
use Rattle.tw_rows.specs.Bag.{SameBag, total}
use Rattle.tw_rows.specs.Event.{AreEvents}
use Rattle.tw_rows.specs.Instant.{inf, later}
use Rattle.tw_rows.specs.SameCells.{same_cells, same_itself}
use Rattle.tw_rows.specs.declared.cells.Datum.{Datum}
use Rattle.tw_rows.specs.declared.edge.Edge.{Edge}
use Rattle.tw_rows.specs.declared.edge.HeldRow.{HeldRow}
use Rattle.tw_rows.proofs.Bags.{total_same, total_zero}
use Rattle.edge_history.specs.Order.{failing, many}
use Rattle.edge_history.specs.History.{CellEvent}
use Rattle.edge_history.specs.Balance.{news}
use Rattle.edge_history.specs.Opens.{opens, started_rows, is_early, is_new}
use Rattle.edge_history.proofs.Sums.{sum_eq, failing-same}
use Rattle.edge_history.proofs.Telling.{is_event}
use Rattle.edge_history.proofs.Opening.{opens_early, starts_new}
use Rattle.edge_history.proofs.Retaining.{AreEvents-none_fails}
use Rattle.key_nodes.specs.Sessions.{key_starts}
use Rattle.key_nodes.proofs.Bags.{any_by_weight}
use Rattle.key_nodes.proofs.Sessioning.{sessions_valid}
use Rattle.end_queue.specs.Pending.{Pending}
use Rattle.synopsis.specs.Held.{key_of, is_of_key}
use Rattle.sweep_laws.specs.Moves.{Adds, told_at}
use Rattle.sweep_laws.specs.Sweeps.{Tells}
use Rattle.sweep_laws.specs.Sessioning.{is_gap, kept_last, has_row_of}
use Rattle.sweep_laws.proofs.Ordering.{order_later}
use Rattle.sweep_laws.proofs.RowsTold.{ends_in_order, starts_in_order}
use Rattle.sweep_laws.proofs.SessionState.{lasts_then, all_then, sessions_wait}
use Rattle.sweep_laws.proofs.SessionSteps.{gap_is_last}
use Rattle.sweep_laws.proofs.SessionTelling.{sessions_then, sessions_told}
use Rattle.session_window.specs.Lasts.{IsLastStart}
use Rattle.session_window.specs.Kept.{is_for, is_for_at, keeps_to, waits_from, Await, Ends}
use Rattle.session_window.specs.Windows.{windows}
use Rattle.session_window.specs.Holding.{SessionHeld}
use Rattle.session_window.proofs.Members.{In, found, counted, uncounted, passes, all_pass, none_pass}
use Rattle.session_window.proofs.Keys.{cells_tell, same_turned, of_own_key, key_is, equal, same_number, last_there, last_late, last_if}

at_most : (m n : ℕ) → nat_le m n ≡ true → m ≤ n
at_most m n h = grind (arith, nat_tests)

above : (m n : ℕ) → n < m → nat_eq m n ≡ false
above m n h = grind (arith, nat_tests)

before : (m n : ℕ) → nat_lt m n ≡ true → m < n
before m n h = grind (arith, nat_tests)

new_at : (t : ℕ) (r : HeldRow) → is_new t r ≡ true → r.start ≡ t
unfolding is_new
new_at t r k = equal r.start t k

early_at : (t : ℕ) (r : HeldRow) → is_early t r ≡ true → r.start < t
unfolding is_early
early_at t r k = before r.start t k

-- each entry of a key is answered by a row that keeps its session open at least as long
module _ (columns : List ℕ) (timeout t : ℕ) (rows : List HeldRow) (ends : List Pending) (h : Await timeout columns rows ends) (from : failing (waits_from t) ends ≡ 0) where
  -- a row that keeps the session of the key open up to t
  pub kept_open : (k : List Datum) → 1 ≤ many (is_of_key columns k) rows → (r : HeldRow) × (is_of_key columns k r ≡ true) × (t ≤ later timeout r.start) × In r rows
  kept_open k some = of_entry (found (is_for k) ends (one_entry (many (is_of_key columns k) rows) (many (is_for k) ends) some (h.one k)))
    where
      never : (m : ℕ) → 1 ≤ m → nat_eq m 0 ≡ false
      never m l = grind (arith, nat_tests)

      one_entry : (n m : ℕ) → 1 ≤ n → m ≡ cond (nat_eq n 0) 0 1 → 1 ≤ m
      one_entry n m s e = let z = ap (λ c. cond {A = ℕ} c 0 1) (never n s) in omega (arith, e, z)

      both : (a b : Bool) → a ≡ true → b ≡ true → (a && b) ≡ true
      both true b h k = k
      both false b h k = absurd (cc)

      of_row : (n : ℕ) → t ≤ n → (r : HeldRow) × (keeps_to timeout columns k n r ≡ true) × In r rows → (r : HeldRow) × (is_of_key columns k r ≡ true) × (t ≤ later timeout r.start) × In r rows
      of_row n low x =
          let p = and_parts (is_of_key columns k x.0) (nat_le n (later timeout x.0.start)) x.1 in
          let q = at_most n (later timeout x.0.start) p.1 in
          (x.0, p.0, omega (arith, low, q), x.2)

      of_entry : (p : Pending) × (is_for k p ≡ true) × In p ends → (r : HeldRow) × (is_of_key columns k r ≡ true) × (t ≤ later timeout r.start) × In r rows
      of_entry p =
          of_row p.0.at (at_most t p.0.at (passes (waits_from t) p.0 ends p.2 from))
          (found (keeps_to timeout columns k p.0.at) rows
          (h.in_time k p.0.at (counted (is_for_at k p.0.at) p.0 ends p.2 (both (same_cells p.0.edge.cells k) (nat_eq p.0.at p.0.at) p.1 (same_number p.0.at p.0.at refl)))))

each_less : (p q : HeldRow → Bool) (xs : List HeldRow) → many (λ x. p x && q x) xs ≤ many p xs
each_less p q [] = omega arith
each_less p q (x ∷ xs) = let a = less (p x) (q x) in let b = each_less p q xs in omega (arith, a, b)
  where
    less : (a b : Bool) → cond {A = ℕ} (a && b) 1 0 ≤ cond a 1 0
    less a b = grind arith

module _ (columns : List ℕ) (timeout t : ℕ) (a : List CellEvent) (now : List Edge) (rows0 rows1 rows2 : List HeldRow) (ends0 ends1 ends2 : List Pending) (answer0 answer1 answer2 : List Edge)
    (pos : 1 ≤ timeout) (low : t + 1 ≤ inf) (events : AreEvents a) (is : SameBag now (news t (suc t) a)) (h : SessionHeld columns timeout a t rows0 ends0)
    (e : Ends timeout columns t rows0 rows1 answer0 answer1) (await1 : Await timeout columns rows1 ends1) (from1 : failing (waits_from (later 1 t)) ends1 ≡ 0)
    (come : (w : HeldRow → ℕ) → total w rows2 ≡ total w rows1 + total w (started_rows now)) (told : Adds answer1 answer2 (map (told_at true t) (started_rows now))) where
  valid : failing is_event a ≡ 0
  valid = AreEvents-none_fails a events

  sound : failing is_event (windows columns timeout a) ≡ 0
  sound = AreEvents-none_fails _ (sessions_valid (key_of columns) same_cells timeout pos a events)

  in_first : (r : HeldRow) → In r rows1 → In r rows0
  in_first r i = record { within = λ w. (let x = i.within w in let s = e.split w in omega (arith, x, s)) }

  in_ended : (r : HeldRow) → In r e.ended → In r rows0
  in_ended r i = record { within = λ w. (let x = i.within w in let s = e.split w in omega (arith, x, s)) }

  early : failing (is_early t) rows0 ≡ 0
  early = failing-same (is_early t) rows0 (opens t (windows columns timeout a)) h.now.open_rows (opens_early t (windows columns timeout a))

  -- a kept row's key has a last start
  last_of : (r : HeldRow) → In r rows0 → (s : ℕ) × (h.last (key_of columns r.cells) ≡ Some s)
  last_of r i = pick (h.last (key_of columns r.cells)) refl
    where
      pick : (o : Option ℕ) → h.last (key_of columns r.cells) ≡ o → (s : ℕ) × (h.last (key_of columns r.cells) ≡ Some s)
      pick (Some s) l = (s, l)
      pick None l = absurd (
          let z = h.now.all (key_of columns r.cells) l in
          let c = counted (λ (x : HeldRow). same_cells (key_of columns r.cells) (key_of columns x.cells)) r rows0 i (same_itself (key_of columns r.cells)) in
          omega (arith, z, c))

  gap_at : (r : HeldRow) (s : ℕ) → h.last (key_of columns r.cells) ≡ Some s → (is_gap timeout (key_starts (key_of columns) same_cells a (key_of columns r.cells)) t ≡ nat_eq (s + timeout) t) × (t ≤ s + timeout)
  gap_at r s l = let y = h.now.lasts (key_of columns r.cells) s l in (gap_is_last timeout t s (key_starts (key_of columns) same_cells a (key_of columns r.cells)) pos y.0, y.1)

  -- what ended had its gap there
  ended_gap : (r : HeldRow) → In r e.ended → is_gap timeout (key_starts (key_of columns) same_cells a (key_of columns r.cells)) t ≡ true
  ended_gap r i = at_last (last_of r (in_ended r i))
    where
      own : 1 ≤ many (is_of_key columns (key_of columns r.cells)) e.ended
      own = counted (is_of_key columns (key_of columns r.cells)) r e.ended i (of_own_key columns r)

      at_last : (s : ℕ) × (h.last (key_of columns r.cells) ≡ Some s) → is_gap timeout (key_starts (key_of columns) same_cells a (key_of columns r.cells)) t ≡ true
      at_last l = (gap_at r l.0 l.1).0 ∙ same_number (l.0 + timeout) t meets
        where
          last : (x : HeldRow) × (x.start ≡ l.0) × (is_of_key columns (key_of columns r.cells) x ≡ true) × In x rows0
          last = last_there (is_of_key columns (key_of columns r.cells)) rows0 l.0 (h.lasts (key_of columns r.cells) l.0 l.1)

          both : (a b : Bool) → a ≡ true → b ≡ true → (a && b) ≡ true
          both true b h k = k
          both false b h k = absurd (cc)

          some : 1 ≤ many (λ x. is_of_key columns (key_of columns r.cells) x && nat_eq x.start l.0) e.ended
          some =
              let a = counted (λ (x : HeldRow). is_of_key columns (key_of columns r.cells) x && nat_eq x.start l.0) last.0 rows0 last.3
              (both (is_of_key columns (key_of columns r.cells) last.0) (nat_eq last.0.start l.0) last.2 (same_number last.0.start l.0 last.1)) in
              let b = e.split (λ x. cond (is_of_key columns (key_of columns r.cells) x && nat_eq x.start l.0) 1 0) in
              let c = e.apart (key_of columns r.cells) own in
              let d = each_less (is_of_key columns (key_of columns r.cells)) (λ x. nat_eq x.start l.0) rows1 in
              omega (arith, a, b, c, d)

          meets : l.0 + timeout ≡ t
          meets =
              let x = found (λ (x : HeldRow). is_of_key columns (key_of columns r.cells) x && nat_eq x.start l.0) e.ended some in
              let y = equal x.0.start l.0 (and_parts (is_of_key columns (key_of columns r.cells) x.0) (nat_eq x.0.start l.0) x.1).1 in
              let z = at_most (later timeout x.0.start) t (passes (λ (x : HeldRow). nat_le (later timeout x.start) t) x.0 e.ended x.2 e.due) in
              let g = (gap_at r l.0 l.1).1 in
              omega (arith, y, z, g, low)

  -- and what stays has none
  stays_open : (r : HeldRow) → In r rows1 → is_gap timeout (key_starts (key_of columns) same_cells a (key_of columns r.cells)) t ≡ false
  stays_open r i = at_last (last_of r (in_first r i))
    where
      at_last : (s : ℕ) × (h.last (key_of columns r.cells) ≡ Some s) → is_gap timeout (key_starts (key_of columns) same_cells a (key_of columns r.cells)) t ≡ false
      at_last l =
          let k = kept_open columns timeout (later 1 t) rows1 ends1 await1 from1 (key_of columns r.cells) (counted (is_of_key columns (key_of columns r.cells)) r rows1 i (of_own_key columns r)) in
          let late = last_late (is_of_key columns (key_of columns r.cells)) rows0 l.0 (h.lasts (key_of columns r.cells) l.0 l.1) k.0 (in_first k.0 k.3) k.1 in
          let up = k.2 in
          (gap_at r l.0 l.1).0 ∙ above (l.0 + timeout) t (omega (arith, late, up, low))

  gone : (w : HeldRow → ℕ) → total w e.ended ≡ total (λ r. cond (is_gap timeout (key_starts (key_of columns) same_cells a (key_of columns r.cells)) t) (w r) 0) rows0
  gone w =
      let v : HeldRow → ℕ = λ r. cond (is_gap timeout (key_starts (key_of columns) same_cells a (key_of columns r.cells)) t) (w r) 0 in
      let s = e.split v in
      let x = sum_eq (λ r. is_gap timeout (key_starts (key_of columns) same_cells a (key_of columns r.cells)) t) v w e.ended (λ r k. ap (λ b. cond b (w r) 0) k)
      (all_pass (λ (r : HeldRow). is_gap timeout (key_starts (key_of columns) same_cells a (key_of columns r.cells)) t) e.ended ended_gap) in
      let y = sum_eq (λ r. not (is_gap timeout (key_starts (key_of columns) same_cells a (key_of columns r.cells)) t)) v (λ r. 0) rows1
      (λ r k. none (is_gap timeout (key_starts (key_of columns) same_cells a (key_of columns r.cells)) t) (w r) k)
      (all_pass (λ (r : HeldRow). not (is_gap timeout (key_starts (key_of columns) same_cells a (key_of columns r.cells)) t)) rows1 (λ r i. ap not (stays_open r i))) ∙ total_zero rows1 in
      omega (arith, s, x, y)
    where
      none : (b : Bool) (n : ℕ) → not b ≡ true → cond b n 0 ≡ 0
      none true n k = absurd (cc)
      none false n k = refl

  -- the last starts after the instant
  abbrev last2 : List Datum → Option ℕ
  last2 k = cond (has_row_of (key_of columns) same_cells (started_rows now) k) (Some t) (kept_last timeout t (h.last k))

  started_at : (r : HeldRow) → In r (started_rows now) → r.start ≡ t
  started_at r i = new_at t r (passes (is_new t) r (started_rows now) i (starts_new t a now is))

  started_before : (r : HeldRow) → In r rows0 → r.start < t
  started_before r i = early_at t r (passes (is_early t) r rows0 i early)

  in_later : (r : HeldRow) → In r (started_rows now) → In r rows2
  in_later r i = record { within = λ w. (let x = i.within w in let s = come w in omega (arith, x, s)) }

  turned_row : (k : List Datum) (xs : List HeldRow) → many (λ r. same_cells k (key_of columns r.cells)) xs ≡ many (is_of_key columns k) xs
  turned_row k xs = total_same (λ (r : HeldRow). cond {A = ℕ} (same_cells k (key_of columns r.cells)) 1 0) (λ r. cond (is_of_key columns k r) 1 0) xs (λ r. ap (λ b. cond {A = ℕ} b 1 0) (same_turned k (key_of columns r.cells)))

  has_row : (k : List Datum) → has_row_of (key_of columns) same_cells (started_rows now) k ≡ nat_lt 0 (many (is_of_key columns k) (started_rows now))
  has_row k = any_by_weight (λ (r : HeldRow). same_cells k (key_of columns r.cells)) (started_rows now) ∙ ap (nat_lt 0) (turned_row k (started_rows now))

  same_some : (s u : ℕ) → Some s ≡ Some u → s ≡ u
  same_some s u k = cc

  lasts2 : (k : List Datum) (s : ℕ) → last2 k ≡ Some s → IsLastStart s (filter (is_of_key columns k) rows2)
  lasts2 k s l = pick (has_row_of (key_of columns) same_cells (started_rows now) k) refl l
    where
      -- no row starts after t
      no_later : (x : HeldRow) → In x rows2 → x.start ≤ t
      no_later x i = at (nat_lt t x.start) refl
        where
          one_late : many (λ (r : HeldRow). nat_lt t r.start) rows2 ≡ 0
          one_late =
              let a = none_pass (λ (r : HeldRow). nat_lt t r.start) rows1 (λ r j. let z = started_before r (in_first r j) in not_late r.start z) in
              let b = none_pass (λ (r : HeldRow). nat_lt t r.start) (started_rows now) (λ r j. let z = started_at r j in not_later r.start z) in
              let c = come (λ r. cond (nat_lt t r.start) 1 0) in
              omega (arith, a, b, c)
            where
              not_late : (n : ℕ) → n < t → nat_lt t n ≡ false
              not_late n z = grind (arith, nat_tests)

              not_later : (n : ℕ) → n ≡ t → nat_lt t n ≡ false
              not_later n z = grind (arith, nat_tests)

          at : (b : Bool) → nat_lt t x.start ≡ b → x.start ≤ t
          at false g = le x.start g
            where
              le : (n : ℕ) → nat_lt t n ≡ false → n ≤ t
              le n z = grind (arith, nat_tests)
          at true g = absurd (let c = counted (λ (r : HeldRow). nat_lt t r.start) x rows2 i g in let z = one_late in omega (arith, c, z))

      pick : (f : Bool) → has_row_of (key_of columns) same_cells (started_rows now) k ≡ f → cond f (Some t) (kept_last timeout t (h.last k)) ≡ Some s → IsLastStart s (filter (is_of_key columns k) rows2)
      pick true f g = subst (λ n. IsLastStart n (filter (is_of_key columns k) rows2)) (same_some t s g) new
        where
          some : (n : ℕ) → nat_lt 0 n ≡ true → 1 ≤ n
          some n z = grind (arith, nat_tests)

          new : IsLastStart t (filter (is_of_key columns k) rows2)
          new =
              let x = found (is_of_key columns k) (started_rows now) (some (many (is_of_key columns k) (started_rows now)) (sym (has_row k) ∙ f)) in
              last_if (is_of_key columns k) rows2 t x.0 (in_later x.0 x.2) x.1 (started_at x.0 x.2) (λ y i _. no_later y i)
      pick false f g = old (h.last k) refl g
        where
          none : (n : ℕ) → nat_lt 0 n ≡ false → n ≡ 0
          none n z = grind (arith, nat_tests)

          no_start : many (is_of_key columns k) (started_rows now) ≡ 0
          no_start = none (many (is_of_key columns k) (started_rows now)) (sym (has_row k) ∙ f)

          old : (o : Option ℕ) → h.last k ≡ o → kept_last timeout t o ≡ Some s → IsLastStart s (filter (is_of_key columns k) rows2)
          old None l g = absurd (cc)
          old (Some u) l g = at (nat_eq (u + timeout) t) refl g
            where
              at : (b : Bool) → nat_eq (u + timeout) t ≡ b → cond b None (Some u) ≡ Some s → IsLastStart s (filter (is_of_key columns k) rows2)
              at true m z = absurd (cc)
              at false m z = subst (λ n. IsLastStart n (filter (is_of_key columns k) rows2)) (same_some u s z) stays
                where
                  last : (x : HeldRow) × (x.start ≡ u) × (is_of_key columns k x ≡ true) × In x rows0
                  last = last_there (is_of_key columns k) rows0 u (h.lasts k u l)

                  -- none of its rows ended
                  no_end : (x : HeldRow) → In x e.ended → is_of_key columns k x ≡ false
                  no_end x i = no (is_of_key columns k x) refl
                    where
                      no : (b : Bool) → is_of_key columns k x ≡ b → is_of_key columns k x ≡ false
                      no false q = q
                      no true q = absurd (
                          let g = ap (λ z. is_gap timeout (key_starts (key_of columns) same_cells a z) t) (sym (key_is columns k x q)) ∙ ended_gap x i in
                          let f = gap_is_last timeout t u (key_starts (key_of columns) same_cells a k) pos (h.now.lasts k u l).0 ∙ m in
                          let z : true ≡ false = sym g ∙ f in
                          cc)

                  none_ended : many (is_of_key columns k) e.ended ≡ 0
                  none_ended = none_pass (is_of_key columns k) e.ended no_end

                  both : (a b : Bool) → a ≡ true → b ≡ true → (a && b) ≡ true
                  both true b h k = k
                  both false b h k = absurd (cc)

                  there : 1 ≤ many (λ r. is_of_key columns k r && nat_eq r.start u) rows2
                  there =
                      let x = counted (λ (r : HeldRow). is_of_key columns k r && nat_eq r.start u) last.0 rows0 last.3
                      (both (is_of_key columns k last.0) (nat_eq last.0.start u) last.2 (same_number last.0.start u last.1)) in
                      let s1 = e.split (λ r. cond (is_of_key columns k r && nat_eq r.start u) 1 0) in
                      let s2 = come (λ r. cond (is_of_key columns k r && nat_eq r.start u) 1 0) in
                      let y = each_less (is_of_key columns k) (λ r. nat_eq r.start u) e.ended in
                      let z = none_ended in
                      omega (arith, x, s1, s2, y, z)

                  none_after : many (λ r. is_of_key columns k r && nat_lt u r.start) rows2 ≡ 0
                  none_after =
                      let x = none_pass (λ (r : HeldRow). is_of_key columns k r && nat_lt u r.start) rows0 (λ r i. late r i (is_of_key columns k r) refl) in
                      let s1 = e.split (λ r. cond (is_of_key columns k r && nat_lt u r.start) 1 0) in
                      let s2 = come (λ r. cond (is_of_key columns k r && nat_lt u r.start) 1 0) in
                      let y = each_less (is_of_key columns k) (λ r. nat_lt u r.start) (started_rows now) in
                      let z = no_start in
                      omega (arith, x, s1, s2, y, z)
                    where
                      late : (r : HeldRow) → In r rows0 → (b : Bool) → is_of_key columns k r ≡ b → (b && nat_lt u r.start) ≡ false
                      late r i false q = refl
                      late r i true q = not_above u r.start (last_late (is_of_key columns k) rows0 u (h.lasts k u l) r i q)
                        where
                          not_above : (n m : ℕ) → m ≤ n → nat_lt n m ≡ false
                          not_above n m z = grind (arith, nat_tests)

                  stays : IsLastStart u (filter (is_of_key columns k) rows2)
                  stays =
                      let x = found (λ (r : HeldRow). is_of_key columns k r && nat_eq r.start u) rows2 there in
                      let p = and_parts (is_of_key columns k x.0) (nat_eq x.0.start u) x.1 in
                      last_if (is_of_key columns k) rows2 u x.0 x.2 p.0 (equal x.0.start u p.1) (λ y i q. low_enough y q (uncounted (λ (r : HeldRow). is_of_key columns k r && nat_lt u r.start) y rows2 i none_after))
                    where
                      low_enough : (y : HeldRow) → is_of_key columns k y ≡ true → (is_of_key columns k y && nat_lt u y.start) ≡ false → y.start ≤ u
                      low_enough y q z = le u y.start (ap (λ b. b && nat_lt u y.start) (sym q) ∙ z)
                        where
                          le : (n m : ℕ) → nat_lt n m ≡ false → m ≤ n
                          le n m z = grind (arith, nat_tests)

  -- THE WHOLE INSTANT
  module _ (ends_then : Await timeout columns rows2 ends2) (from2 : failing (waits_from (suc t)) ends2 ≡ 0) where
    high : t < inf
    high = omega (arith, low)

    rows_then : SameBag rows2 (opens (suc t) (windows columns timeout a))
    rows_then = sessions_then (key_of columns) same_cells cells_tell timeout t a now rows0 rows1 rows2 e.ended answer0 answer1 answer2 pos high valid sound is h.now.open_rows e.split gone come e.told told

    pub instant_held : SessionHeld columns timeout a (suc t) rows2 ends2
    instant_held = record {
      last = last2;
      now = record {
        open_rows = rows_then;
        lasts = lasts_then (key_of columns) same_cells cells_tell timeout t a now rows0 rows1 rows2 e.ended h.last last2 pos valid is h.now.lasts h.now.all e.split gone come (λ k. refl);
        all = all_then (key_of columns) same_cells cells_tell timeout t a now rows0 rows1 rows2 e.ended h.last last2 pos valid is h.now.lasts h.now.all e.split gone come (λ k. refl);
      };
      lasts = lasts2;
      awaits = ends_then;
      later = from2;
    }

    early_ended : failing (is_early t) e.ended ≡ 0
    early_ended = let s = e.split (λ r. cond (is_early t r) 0 1) in let z = early in omega (arith, s, z)

    pub instant_tells : Tells (windows columns timeout a) t (suc t) answer0 answer2
    instant_tells = record {
      weigh = sessions_told (key_of columns) same_cells cells_tell timeout t a now rows0 rows1 rows2 e.ended answer0 answer1 answer2 pos high valid sound is h.now.open_rows e.split gone come e.told told;
      order = λ up.
          order_later (suc (2 * t)) (2 * suc t) answer2 (omega arith)
          (starts_in_order t (started_rows now) answer1 answer2 high told
          (order_later (2 * t) (suc (2 * t)) answer1 (omega arith) (ends_in_order t e.ended answer0 answer1 e.told early_ended up)));
    }

-- BETWEEN INSTANTS: up to the least time at which an entry waits
pub held_between : (columns : List ℕ) (timeout u t : ℕ) (a : List CellEvent) (rows : List HeldRow) (ends : List Pending) → 1 ≤ timeout → u ≤ t → t ≤ inf → AreEvents a →
    ((w : Edge → ℕ) → total w (news u t a) ≡ 0) → failing (waits_from t) ends ≡ 0 → SessionHeld columns timeout a u rows ends →
    SessionHeld columns timeout a t rows ends × ((w : Edge → ℕ) → total w (news u t (windows columns timeout a)) ≡ 0)
held_between columns timeout u t a rows ends pos low high events none from h =
    let w = sessions_wait (key_of columns) same_cells cells_tell timeout u t a rows h.last pos low high (AreEvents-none_fails a events)
    (AreEvents-none_fails _ (sessions_valid (key_of columns) same_cells timeout pos a events)) none h.now wait in
    (record { last = h.last; now = w.0; lasts = h.lasts; awaits = h.awaits; later = from }, w.1)
  where
    wait : (k : List Datum) (s : ℕ) → h.last k ≡ Some s → t ≤ s + timeout
    wait k s l =
        let x = last_there (is_of_key columns k) rows s (h.lasts k s l) in
        let y = kept_open columns timeout t rows ends h.awaits from k (counted (is_of_key columns k) x.0 rows x.3 x.2) in
        let z = last_late (is_of_key columns k) rows s (h.lasts k s l) y.0 y.3 y.1 in
        let v = y.2 in
        omega (arith, z, v)
