-- The rows that wait, between instants, where the time of some is over, and past an instant.
use Rattle.std.specs.Prelude.{◌≡◌, ℕ, suc, ◌+◌, ◌*◌, ◌<◌, ◌≤◌, ◌&&◌, ◌||◌, nat_eq, nat_lt, nat_le, not, Bool, true, false, cond, List, [], ◌∷◌, ◌++◌, map, filter, refl}
use Rattle.std.proofs.Common.{sym, ◌∙◌, ap, subst, arith}
use Rattle.std.proofs.lemmas.Bool.Decides.{nat_tests}
use Rattle.tw_rows.specs.Instant.{inf, later}
use Rattle.tw_rows.specs.Bag.{SameBag, total}
use Rattle.tw_rows.specs.declared.edge.Edge.{Edge}
use Rattle.tw_rows.specs.declared.edge.HeldRow.{HeldRow}
use Rattle.tw_rows.proofs.Bags.{total-append, total-filter, total-add, total_same, total_zero, total_swap}
use Rattle.edge_history.specs.Order.{failing}
use Rattle.edge_history.specs.History.{CellEvent}
use Rattle.edge_history.specs.Balance.{news}
use Rattle.edge_history.specs.Opens.{started_rows, is_early, is_new}
use Rattle.edge_history.proofs.Sums.{sum_eq}
use Rattle.key_nodes.proofs.Bags.{any_by_weight}
use Rattle.sweep_laws.specs.Clipping.{starts_at, is_clipped}
use Rattle.sweep_laws.specs.Sweeps.{InOrder}
use Rattle.sweep_laws.specs.Unending.{unending}
use Rattle.sweep_laws.specs.Waits.{as_interval}
use Rattle.sweep_laws.proofs.ClipSteps.{later_one, new_one}
use Rattle.sweep_laws.proofs.Ordering.{order_later}
use Rattle.follow_op.specs.Followed.{follow_meets, follows, match_told, is_met, is_followed}
use Rattle.follow_op.specs.Waits.{still_waits, StartsRise, is_free, FollowHeld}
use Rattle.follow_op.specs.Intervals.{TellsAhead}
use Rattle.follow_op.proofs.Sums.{held, apart, starts_weigh, started_weigh, begun_weigh, free_begun, clipped_still, gives, told_now, interval_now}

module _ (lk rk : List ℕ) (within : ℕ) where
  -- BETWEEN INSTANTS
  began_still : (s u t v n m : ℕ) → u ≤ t → not (nat_le u s && nat_lt s t) ≡ true → n ≡ m →
      cond {A = ℕ} (nat_lt s u && nat_lt v (later within s)) n 0 ≡ cond (nat_lt s t && nat_lt v (later within s)) m 0
  began_still s u t v n m low k e = grind (arith, nat_tests)

  pub held_between : (a b : List CellEvent) (v u t : ℕ) (rows queue : List HeldRow) → u ≤ t → failing (apart u t) a ≡ 0 → failing (apart u t) b ≡ 0 →
      FollowHeld lk rk within a b v u rows queue → FollowHeld lk rk within a b v t rows queue
  held_between a b v u t rows queue low none_a none_b h = record {
    waiting = record {
      weigh = λ w.
          h.waiting.weigh w
          ∙ (free_begun (is_free lk rk b u) w within v u a
          ∙ (sum_eq (apart u t) _ _ a (λ e k. began_still e.start u t v _ _ low k (ap (λ p. cond p (w (held e)) 0) (free_still (held e)))) none_a
          ∙ sym (free_begun (is_free lk rk b t) w within v t a)));
    };
    queued = record {
      weigh = λ w.
          h.queued.weigh w
          ∙ (total-filter w (is_free lk rk b u) queue
          ∙ (total_same _ _ queue (λ r. ap (λ p. cond p (w r) 0) (free_still r)) ∙ sym (total-filter w (is_free lk rk b t) queue)));
    };
    few = λ w.
        let f = h.few w in
        let x = begun_weigh w within v u a in
        let y = begun_weigh w within v t a in
        let z = sum_eq (apart u t) _ _ a (λ e k. began_still e.start u t v (w (held e)) (w (held e)) low k refl) none_a in
        omega (arith, f, x, y, z);
    order = h.order;
  }
    where
      free_still : (r : HeldRow) → is_free lk rk b u r ≡ is_free lk rk b t r
      free_still r = ap not (sym (clipped_still (follow_meets lk rk) b u t r low none_b))

  -- WHERE THE TIME IS OVER
  pub held_over : (a b : List CellEvent) (v t u : ℕ) (rows rows2 queue queue2 : List HeldRow) → v ≤ t → FollowHeld lk rk within a b v u rows queue →
      queue2 ≡ filter (still_waits within t) queue → SameBag rows2 (filter (is_free lk rk b u) queue2) → StartsRise 0 queue2 → FollowHeld lk rk within a b t u rows2 queue2
  held_over a b v t u rows rows2 queue queue2 low h is same rise = record {
    waiting = record {
      weigh = λ w.
          let w2 : HeldRow → ℕ = λ r. cond (still_waits within t r) (w r) 0 in
          let x = same.weigh w ∙ (ap (λ l. total w (filter (is_free lk rk b u) l)) is ∙ (total-filter w (is_free lk rk b u) (filter (still_waits within t) queue)
          ∙ total-filter (λ r. cond (is_free lk rk b u r) (w r) 0) (still_waits within t) queue)) in
          let y = total_same _ (λ r. cond (is_free lk rk b u r) (w2 r) 0) queue (λ r. turned (still_waits within t r) (is_free lk rk b u r) (w r)) in
          let z = h.queued.weigh w2 ∙ total-filter w2 (is_free lk rk b u) queue in
          let g = h.waiting.weigh w2 ∙ free_begun (is_free lk rk b u) w2 within v u a in
          let k = free_begun (is_free lk rk b u) w within t u a in
          let l = total_same _ _ a (λ e. longer e.start (is_free lk rk b u (held e)) (w (held e))) in
          omega (arith, x, y, z, g, k, l);
    };
    queued = same;
    few = λ w.
        let w2 : HeldRow → ℕ = λ r. cond (still_waits within t r) (w r) 0 in
        let x = ap (total w) is ∙ total-filter w (still_waits within t) queue in
        let f = h.few w2 in
        let y = begun_weigh w2 within v u a in
        let z = begun_weigh w within t u a in
        let l = total_same _ _ a (λ e. shorter e.start (w (held e))) in
        omega (arith, x, f, y, z, l);
    order = rise;
  }
    where
      turned : (p q : Bool) (n : ℕ) → cond {A = ℕ} p (cond q n 0) 0 ≡ cond q (cond p n 0) 0
      turned true true n = refl
      turned true false n = refl
      turned false true n = refl
      turned false false n = refl

      longer : (s : ℕ) (p : Bool) (n : ℕ) → cond {A = ℕ} (nat_lt s u && nat_lt v (later within s)) (cond p (cond (nat_lt t (later within s)) n 0) 0) 0 ≡ cond (nat_lt s u && nat_lt t (later within s)) (cond p n 0) 0
      longer s p n = grind (arith, nat_tests)

      shorter : (s n : ℕ) → cond {A = ℕ} (nat_lt s u && nat_lt v (later within s)) (cond (nat_lt t (later within s)) n 0) 0 ≡ cond (nat_lt s u && nat_lt t (later within s)) n 0
      shorter s n = grind (arith, nat_tests)

  -- AN INSTANT
  module _ (t : ℕ) (low : t < inf) (pos : 1 ≤ within) (a b : List CellEvent) (rows queue : List HeldRow) (h : FollowHeld lk rk within a b t t rows queue)
      (left right : List Edge) (left_is : SameBag left (news t (suc t) (map unending a))) (right_is : SameBag right (news t (suc t) (map unending b))) where
    -- a right start meets the row exactly where a right event of its key starts
    met_is : (r : HeldRow) → is_followed lk rk right r ≡ starts_at (follow_meets lk rk) b r.cells t
    met_is r =
        any_by_weight (λ x. is_met lk rk x r) right
        ∙ (ap (nat_lt 0) (starts_weigh (λ row. cond (follow_meets lk rk r.cells row) 1 0) t b right low right_is ∙ total_same _ _ b (λ e. turned (nat_eq e.start t) (follow_meets lk rk r.cells e.row)))
        ∙ sym (any_by_weight (λ e. follow_meets lk rk r.cells e.row && nat_eq e.start t) b))
      where
        turned : (p q : Bool) → cond {A = ℕ} p (cond q 1 0) 0 ≡ cond (q && p) 1 0
        turned true true = refl
        turned true false = refl
        turned false true = refl
        turned false false = refl

    early_row : (s : ℕ) → nat_lt s t ≡ true → is_early t (record { cells = []; start = s }) ≡ true
    unfolding is_early
    early_row s e = e

    is_before : (r : HeldRow) → nat_lt r.start t ≡ true → is_early t r ≡ true
    unfolding is_early
    is_before r e = e

    before_is : (r : HeldRow) → is_early t r ≡ true → nat_lt r.start t ≡ true
    unfolding is_early
    before_is r e = e

    is_now : (r : HeldRow) → nat_eq r.start t ≡ true → is_new t r ≡ true
    unfolding is_new
    is_now r e = e

    early_then : (r : HeldRow) → is_early t r ≡ true → (n : ℕ) → cond (is_free lk rk b (suc t) r) n 0 ≡ cond (is_free lk rk b t r) (cond (starts_at (follow_meets lk rk) b r.cells t) 0 n) 0
    early_then r e n = ap (λ c. cond (not c) n 0) (later_one (follow_meets lk rk) b t r e) ∙ both (is_clipped (follow_meets lk rk) b t r) (starts_at (follow_meets lk rk) b r.cells t)
      where
        both : (p q : Bool) → cond {A = ℕ} (not (p || q)) n 0 ≡ cond (not p) (cond q 0 n) 0
        both true q = refl
        both false true = refl
        both false false = refl

    new_then : (r : HeldRow) → is_new t r ≡ true → (n : ℕ) → cond (is_free lk rk b (suc t) r) n 0 ≡ n
    new_then r e n = ap (λ c. cond (not c) n 0) (new_one (follow_meets lk rk) b t r e)

    -- the row of one event, after the instant
    one_then : (w : HeldRow → ℕ) (e : CellEvent) → cond (nat_lt e.start (suc t) && nat_lt t (later within e.start)) (cond (is_free lk rk b (suc t) (held e)) (w (held e)) 0) 0
        ≡ cond (nat_lt e.start t && nat_lt t (later within e.start)) (cond (is_free lk rk b t (held e)) (cond (starts_at (follow_meets lk rk) b e.row t) 0 (w (held e))) 0) 0 + cond (nat_eq e.start t) (w (held e)) 0
    one_then w e = pick (nat_lt e.start t) refl (nat_eq e.start t) refl
      where
        free : ℕ
        free = cond (is_free lk rk b (suc t) (held e)) (w (held e)) 0

        old : ℕ
        old = cond (is_free lk rk b t (held e)) (cond (starts_at (follow_meets lk rk) b e.row t) 0 (w (held e))) 0

        early : (s n m k : ℕ) → nat_lt s t ≡ true → n ≡ m → cond {A = ℕ} (nat_lt s (suc t) && nat_lt t (later within s)) n 0 ≡ cond (nat_lt s t && nat_lt t (later within s)) m 0 + cond (nat_eq s t) k 0
        early s n m k e g = grind (arith, nat_tests)

        now : (s n m k : ℕ) → nat_eq s t ≡ true → n ≡ k → cond {A = ℕ} (nat_lt s (suc t) && nat_lt t (later within s)) n 0 ≡ cond (nat_lt s t && nat_lt t (later within s)) m 0 + cond (nat_eq s t) k 0
        now s n m k e g = grind (arith, nat_tests)

        late : (s n m k : ℕ) → nat_lt s t ≡ false → nat_eq s t ≡ false → cond {A = ℕ} (nat_lt s (suc t) && nat_lt t (later within s)) n 0 ≡ cond (nat_lt s t && nat_lt t (later within s)) m 0 + cond (nat_eq s t) k 0
        late s n m k e g = grind (arith, nat_tests)

        pick : (p : Bool) → nat_lt e.start t ≡ p → (q : Bool) → nat_eq e.start t ≡ q →
            cond (nat_lt e.start (suc t) && nat_lt t (later within e.start)) (cond (is_free lk rk b (suc t) (held e)) (w (held e)) 0) 0
            ≡ cond (nat_lt e.start t && nat_lt t (later within e.start)) (cond (is_free lk rk b t (held e)) (cond (starts_at (follow_meets lk rk) b e.row t) 0 (w (held e))) 0) 0 + cond (nat_eq e.start t) (w (held e)) 0
        pick true x q y = early e.start _ _ (w (held e)) x (early_then (held e) (is_before (held e) x) (w (held e)))
        pick false x true y = now e.start _ _ (w (held e)) y (new_then (held e) (is_now (held e) y) (w (held e)))
        pick false x false y = late e.start _ _ (w (held e)) x y

    queue_early : failing (is_early t) queue ≡ 0
    queue_early =
        let f = h.few (λ r. cond (is_early t r) 0 1) in
        let x = begun_weigh (λ r. cond (is_early t r) 0 1) within t t a in
        let z = total_same _ (λ e. 0) a one ∙ total_zero a in
        omega (arith, f, x, z)
      where
        none : (p q : Bool) (n : ℕ) → (p ≡ true → n ≡ 0) → cond {A = ℕ} (p && q) n 0 ≡ 0
        none true true n g = g refl
        none true false n g = refl
        none false q n g = refl

        one : (e : CellEvent) → cond {A = ℕ} (nat_lt e.start t && nat_lt t (later within e.start)) (cond (is_early t (held e)) 0 1) 0 ≡ 0
        one e = none (nat_lt e.start t) (nat_lt t (later within e.start)) _ (λ k. ap (λ c. cond {A = ℕ} c 0 1) (is_before (held e) k))

    started_new : failing (is_new t) (started_rows left) ≡ 0
    started_new = started_weigh (λ r. cond (is_new t r) 0 1) t a left low left_is ∙ (total_same _ (λ e. 0) a one ∙ total_zero a)
      where
        none : (p : Bool) (n : ℕ) → (p ≡ true → n ≡ 0) → cond {A = ℕ} p n 0 ≡ 0
        none true n g = g refl
        none false n g = refl

        one : (e : CellEvent) → cond {A = ℕ} (nat_eq e.start t) (cond (is_new t (held e)) 0 1) 0 ≡ 0
        one e = none (nat_eq e.start t) _ (λ k. ap (λ c. cond {A = ℕ} c 0 1) (is_now (held e) k))

    module _ (rows1 rows2 queue2 : List HeldRow) (dropped : (w : HeldRow → ℕ) → total w rows1 ≡ total (λ r. cond (is_followed lk rk right r) 0 (w r)) rows)
        (came : (w : HeldRow → ℕ) → total w rows2 ≡ total w rows1 + total w (started_rows left)) (queue_is : queue2 ≡ queue ++ started_rows left) where
      unmet : (w : HeldRow → ℕ) → total w rows1 ≡ total (λ r. cond (starts_at (follow_meets lk rk) b r.cells t) 0 (w r)) rows
      unmet w = dropped w ∙ total_same _ _ rows (λ r. ap (λ c. cond c 0 (w r)) (met_is r))

      at_new : (y : HeldRow) → cond {A = ℕ} (is_new t y) 0 1 ≡ 0 → y.start ≡ t
      unfolding is_new
      at_new y z = grind (arith, nat_tests)

      at_early : (x : HeldRow) → cond {A = ℕ} (is_early t x) 0 1 ≡ 0 → x.start ≤ t
      unfolding is_early
      at_early x z = grind (arith, nat_tests)

      -- the starts of the queue
      rises : (s : ℕ) (xs ys : List HeldRow) → StartsRise s xs → failing (is_early t) xs ≡ 0 → failing (is_new t) ys ≡ 0 → s ≤ t → StartsRise s (xs ++ ys)
      rises s [] [] r e n l = tt
      rises s [] (y ∷ ys) r e n l = let k = at_new y (omega (arith, n)) in (omega (arith, k, l), rises y.start [] ys tt refl (omega (arith, n)) (omega (arith, k)))
      rises s (x ∷ xs) ys r e n l = let k = at_early x (omega (arith, e)) in (r.0, rises x.start xs ys r.1 (omega (arith, e)) n k)

      begun_then : (s n : ℕ) → cond {A = ℕ} (nat_lt s (suc t) && nat_lt t (later within s)) n 0 ≡ cond (nat_lt s t && nat_lt t (later within s)) n 0 + cond (nat_eq s t) n 0
      begun_then s n = grind (arith, nat_tests)

      pub held_then : FollowHeld lk rk within a b t (suc t) rows2 queue2
      held_then = record {
        waiting = record {
          weigh = λ w.
              let x = came w in
              let y = unmet w in
              let z = h.waiting.weigh (λ r. cond (starts_at (follow_meets lk rk) b r.cells t) 0 (w r)) ∙ free_begun (is_free lk rk b t) (λ r. cond (starts_at (follow_meets lk rk) b r.cells t) 0 (w r)) within t t a in
              let s = started_weigh w t a left low left_is in
              let g = free_begun (is_free lk rk b (suc t)) w within t (suc t) a in
              let k = total_same _ _ a (one_then w) ∙ total-add (λ e. cond (nat_lt e.start t && nat_lt t (later within e.start)) (cond (is_free lk rk b t (held e)) (cond (starts_at (follow_meets lk rk) b e.row t) 0 (w (held e))) 0) 0)
              (λ e. cond (nat_eq e.start t) (w (held e)) 0) a in
              omega (arith, x, y, z, s, g, k);
        };
        queued = record {
          weigh = λ w.
              let x = came w in
              let y = unmet w in
              let z = h.queued.weigh (λ r. cond (starts_at (follow_meets lk rk) b r.cells t) 0 (w r)) ∙ total-filter (λ r. cond (starts_at (follow_meets lk rk) b r.cells t) 0 (w r)) (is_free lk rk b t) queue in
              let g = ap (λ l. total w (filter (is_free lk rk b (suc t)) l)) queue_is ∙ (total-filter w (is_free lk rk b (suc t)) (queue ++ started_rows left)
              ∙ total-append (λ r. cond (is_free lk rk b (suc t) r) (w r) 0) queue (started_rows left)) in
              let k = sum_eq (is_early t) _ (λ r. cond (is_free lk rk b t r) (cond (starts_at (follow_meets lk rk) b r.cells t) 0 (w r)) 0) queue (λ r e. early_then r e (w r)) queue_early in
              let s = sum_eq (is_new t) _ w (started_rows left) (λ r e. new_then r e (w r)) started_new in
              omega (arith, x, y, z, g, k, s);
        };
        few = λ w.
            let x = ap (total w) queue_is ∙ total-append w queue (started_rows left) in
            let f = h.few w in
            let y = begun_weigh w within t t a in
            let z = begun_weigh w within t (suc t) a in
            let s = started_weigh w t a left low left_is in
            let k = total_same _ _ a (λ e. begun_then e.start (w (held e))) ∙ total-add (λ e. cond (nat_lt e.start t && nat_lt t (later within e.start)) (w (held e)) 0) (λ e. cond (nat_eq e.start t) (w (held e)) 0) a in
            omega (arith, x, f, y, z, s, k);
        order = subst (λ l. StartsRise 0 l) (sym queue_is) (rises 0 queue (started_rows left) h.order queue_early started_new (omega arith));
      }

    rows_wait : failing (still_waits within t) rows ≡ 0
    rows_wait =
        h.waiting.weigh (λ r. cond (still_waits within t r) 0 1)
        ∙ (free_begun (is_free lk rk b t) (λ r. cond (still_waits within t r) 0 1) within t t a ∙ (total_same _ (λ e. 0) a (λ e. one e.start (is_free lk rk b t (held e))) ∙ total_zero a))
      where
        one : (s : ℕ) (p : Bool) → cond {A = ℕ} (nat_lt s t && nat_lt t (later within s)) (cond p (cond (nat_lt t (later within s)) 0 1) 0) 0 ≡ 0
        one s p = grind (arith, nat_tests)

    pub told_then : (before after : List Edge) →
        ((w : Edge → ℕ) → total w after ≡ total w before + total (λ x. total (λ r. cond (is_met lk rk x r) (w (match_told rk within t x.cells r)) 0) rows) right) →
        (failing (still_waits within t) rows ≡ 0 → InOrder (suc (2 * t)) before → InOrder (suc (2 * t)) after) → TellsAhead (follows lk rk within a b) t (suc t) before after
    told_then before after told order = record {
      weigh = λ w.
          let v : CellEvent → ℕ = λ e. w (as_interval e) in
          let x = told w in
          let y = total_swap (λ z r. cond (is_met lk rk z r) (w (match_told rk within t z.cells r)) 0) right rows in
          let z = total_same _ (gives lk rk within v t b) rows (λ r. starts_weigh (λ row. cond (follow_meets lk rk r.cells row) (w (match_told rk within t row r)) 0) t b right low right_is) in
          let g = h.waiting.weigh (gives lk rk within v t b) ∙ free_begun (is_free lk rk b t) (gives lk rk within v t b) within t t a in
          let k = told_now lk rk within v t a b low in
          let i = interval_now w t (follows lk rk within a b) in
          omega (arith, x, y, z, g, k, i);
      order = λ up. order_later (suc (2 * t)) (2 * suc t) after (omega arith) (order rows_wait (order_later (2 * t) (suc (2 * t)) before (omega arith) up));
    }
