-- A Follow from instant to instant, and what new edges leave of what is kept.
use Rattle.std.specs.Prelude.{◌≡◌, ℕ, suc, ◌*◌, ◌<◌, ◌≤◌, ◌&&◌, nat_lt, not, Bool, cond, List, [], map, filter, take, drop}
use Rattle.std.proofs.lemmas.Bool.Decides.{nat_tests}
use Rattle.std.proofs.Common.{sym, ◌∙◌, ap, arith}
use Rattle.tw_rows.specs.Instant.{inf, later}
use Rattle.tw_rows.specs.Bag.{SameBag, total}
use Rattle.tw_rows.specs.Event.{cut}
use Rattle.tw_rows.specs.declared.edge.Edge.{Edge}
use Rattle.tw_rows.specs.declared.edge.HeldRow.{HeldRow}
use Rattle.tw_rows.proofs.Bags.{total_same, total-filter}
use Rattle.edge_history.specs.Order.{failing}
use Rattle.edge_history.specs.History.{CellEvent}
use Rattle.edge_history.specs.Balance.{news}
use Rattle.sweep_laws.specs.Sweeps.{is_at, IsPast, IsDue, IsNext}
use Rattle.sweep_laws.specs.Unending.{unending}
use Rattle.sweep_laws.proofs.Ordering.{order_later}
use Rattle.sweep_laws.proofs.Sides.{side_now, side_none, side_rest, next_between}
use Rattle.follow_op.specs.Followed.{follow_meets, follows}
use Rattle.follow_op.specs.Waits.{still_waits, StartsRise, is_free, FollowHeld}
use Rattle.follow_op.specs.Intervals.{intervals, TellsAhead}
use Rattle.follow_op.specs.Reached.{FollowReached}
use Rattle.follow_op.proofs.Sums.{held, no_starts, none_told, interval_parts, interval_none, clipped_known, starts_known, free_begun, begun_weigh}
use Rattle.follow_op.proofs.Passing.{held_between, held_over}

-- WHAT IS TOLD, IN PARTS
pub tells_parts : (events : List CellEvent) (from t to : ℕ) (x y z : List Edge) → from ≤ t → t ≤ to → TellsAhead events from t x y → TellsAhead events t to y z → TellsAhead events from to x z
tells_parts events from t to x y z low high h k = record {
  weigh = λ w. let a = h.weigh w in let b = k.weigh w in let c = interval_parts w from t to events low high in omega (arith, a, b, c);
  order = λ up. k.order (h.order up);
}

pub tells_still : (events : List CellEvent) (from to : ℕ) (x : List Edge) → from ≤ to → ((w : Edge → ℕ) → intervals w from to events ≡ 0) → TellsAhead events from to x x
tells_still events from to x low none = record {
  weigh = λ w. let z = none w in omega (arith, z);
  order = λ up. order_later (2 * from) (2 * to) x (omega (arith, low)) up;
}

-- FROM INSTANT TO INSTANT
module _ (lk rk : List ℕ) (within : ℕ) (a b : List CellEvent) where
  pub reach_start : (from to : ℕ) (dl dr : List Edge) (rows queue : List HeldRow) (answer : List Edge) → IsDue (map unending a) from to dl → IsDue (map unending b) from to dr →
      FollowHeld lk rk within a b from from rows queue → FollowReached lk rk within a b from from to dl dr rows queue answer answer
  reach_start from to dl dr rows queue answer hl hr h = record {
    low = omega arith;
    left_due = hl;
    right_due = hr;
    over = from;
    over_low = omega arith;
    now = h;
    told = tells_still (follows lk rk within a b) from from answer (omega arith) (λ w. interval_none w from (follows lk rk within a b));
  }

  stretch : (v u t : ℕ) (rows queue : List HeldRow) → u ≤ t → ((w : Edge → ℕ) → total w (news u t (map unending a)) ≡ 0) → ((w : Edge → ℕ) → total w (news u t (map unending b)) ≡ 0) →
      FollowHeld lk rk within a b v u rows queue → FollowHeld lk rk within a b v t rows queue × ((w : Edge → ℕ) → intervals w u t (follows lk rk within a b) ≡ 0)
  stretch v u t rows queue low none_a none_b h = (
    held_between lk rk within a b v u t rows queue low (no_starts a u t none_a) (no_starts b u t none_b) h,
    λ w. none_told lk rk within w u t a b (no_starts b u t none_b),
  )

  pub reach_step : (from u t to n m : ℕ) (lr rr : List Edge) (rows queue rows2 queue2 : List HeldRow) (answer0 answer1 answer2 : List Edge) →
      FollowReached lk rk within a b from u to lr rr rows queue answer0 answer1 → IsNext t lr rr →
      failing (is_at t) (take n lr) ≡ 0 → IsPast t (drop n lr) → failing (is_at t) (take m rr) ≡ 0 → IsPast t (drop m rr) →
      ((v : ℕ) → v ≤ t → t < inf → SameBag (take n lr) (news t (suc t) (map unending a)) → SameBag (take m rr) (news t (suc t) (map unending b)) → FollowHeld lk rk within a b v t rows queue →
      FollowHeld lk rk within a b t (suc t) rows2 queue2 × TellsAhead (follows lk rk within a b) t (suc t) answer1 answer2) →
      FollowReached lk rk within a b from (suc t) to (drop n lr) (drop m rr) rows2 queue2 answer0 answer2
  reach_step from u t to n m lr rr rows queue rows2 queue2 answer0 answer1 answer2 r next at_l past_l at_r past_r step =
      let y = next_between (map unending a) (map unending b) u t to lr rr r.left_due r.right_due next in
      let l = r.low in
      let o = r.over_low in
      let i = r.left_due.high in
      let w = stretch r.over u t rows queue y.0 (side_none (map unending a) u t to n lr r.left_due y.0 y.1 next.left_from at_l past_l)
      (side_none (map unending b) u t to m rr r.right_due y.0 y.1 next.right_from at_r past_r) r.now in
      let s = step r.over (omega (arith, o, y)) (omega (arith, y, i)) (side_now (map unending a) u t to n lr r.left_due y.0 y.1 next.left_from at_l past_l)
      (side_now (map unending b) u t to m rr r.right_due y.0 y.1 next.right_from at_r past_r) w.0 in
      record {
        low = omega (arith, l, y);
        left_due = side_rest (map unending a) u t to n lr r.left_due y.0 y.1 next.left_from at_l past_l;
        right_due = side_rest (map unending b) u t to m rr r.right_due y.0 y.1 next.right_from at_r past_r;
        over = t;
        over_low = omega arith;
        now = s.0;
        told = tells_parts (follows lk rk within a b) from t (suc t) answer0 answer1 answer2 (omega (arith, l, y)) (omega arith)
            (tells_parts (follows lk rk within a b) from u t answer0 answer1 answer1 l y.0 r.told (tells_still (follows lk rk within a b) u t answer1 y.0 w.1)) s.1;
      }

  -- at the end the rows whose time is over go, too
  pub reach_end : (from u to : ℕ) (lr rr : List Edge) (rows queue rows2 queue2 : List HeldRow) (answer0 answer1 : List Edge) → lr ≡ [] → rr ≡ [] →
      FollowReached lk rk within a b from u to lr rr rows queue answer0 answer1 →
      ((p : HeldRow → Bool) → SameBag rows (filter p queue) → SameBag rows2 (filter p queue2)) → (StartsRise 0 queue → StartsRise 0 queue2 × (queue2 ≡ filter (still_waits within to) queue)) →
      FollowHeld lk rk within a b to to rows2 queue2 × TellsAhead (follows lk rk within a b) from to answer0 answer1
  reach_end from u to lr rr rows queue rows2 queue2 answer0 answer1 el er r dropped left =
      let w = stretch r.over u to rows queue r.left_due.low (λ w. sym (r.left_due.news_of.weigh w) ∙ ap (total w) el) (λ w. sym (r.right_due.news_of.weigh w) ∙ ap (total w) er) r.now in
      let l = left w.0.order in
      let o = r.over_low in
      let i = r.left_due.low in (
        held_over lk rk within a b r.over to to rows rows2 queue queue2 (omega (arith, o, i)) w.0 l.1 (dropped (is_free lk rk b to) w.0.queued) l.0,
        tells_parts (follows lk rk within a b) from u to answer0 answer1 answer1 r.low r.left_due.low r.told (tells_still (follows lk rk within a b) u to answer1 r.left_due.low w.1),
      )

-- WHAT IS KNOWN
module _ (lk rk : List ℕ) (within : ℕ) where
  -- rows that wait depend on what is known before alone
  pub held_known : (c v : ℕ) (a a2 b b2 : List CellEvent) (rows queue : List HeldRow) → SameBag (cut c a) (cut c a2) → SameBag (cut c b) (cut c b2) →
      FollowHeld lk rk within a b v c rows queue → FollowHeld lk rk within a2 b2 v c rows queue
  held_known c v a a2 b b2 rows queue sa sb h = record {
    waiting = record {
      weigh = λ w.
          h.waiting.weigh w
          ∙ (free_begun (is_free lk rk b c) w within v c a
          ∙ (total_same _ _ a (λ e. ap (λ p. cond (nat_lt e.start c && nat_lt v (later within e.start)) (cond p (w (held e)) 0) 0) (free_same (held e)))
          ∙ (starts_known c a a2 sa (λ row s. cond (nat_lt s c && nat_lt v (later within s)) (cond (is_free lk rk b2 c (record { cells = row; start = s })) (w (record { cells = row; start = s })) 0) 0) (λ row s late. none s _ late)
          ∙ sym (free_begun (is_free lk rk b2 c) w within v c a2))));
    };
    queued = record {
      weigh = λ w.
          h.queued.weigh w
          ∙ (total-filter w (is_free lk rk b c) queue
          ∙ (total_same _ _ queue (λ r. ap (λ p. cond p (w r) 0) (free_same r)) ∙ sym (total-filter w (is_free lk rk b2 c) queue)));
    };
    few = λ w.
        let f = h.few w in
        let x = begun_weigh w within v c a in
        let y = begun_weigh w within v c a2 in
        let z = starts_known c a a2 sa (λ row s. cond (nat_lt s c && nat_lt v (later within s)) (w (record { cells = row; start = s })) 0) (λ row s late. none s _ late) in
        omega (arith, f, x, y, z);
    order = h.order;
  }
    where
      free_same : (r : HeldRow) → is_free lk rk b c r ≡ is_free lk rk b2 c r
      free_same r = ap not (clipped_known (follow_meets lk rk) c c b b2 r (omega arith) sb)

      none : (s n : ℕ) → c ≤ s → cond {A = ℕ} (nat_lt s c && nat_lt v (later within s)) n 0 ≡ 0
      none s n late = grind (arith, nat_tests)
