-- An anti-join from instant to instant, and a whole step of it.
use Rattle.std.specs.Prelude.{◌≡◌, ℕ, suc, ◌+◌, ◌<◌, ◌≤◌, min, max, ◌&&◌, nat_lt, nat_le, false, cond, Some, None, List, [], ◌++◌, take, drop, refl}
use Rattle.std.proofs.Common.{inr, sym, ◌∙◌, ap, subst, arith}
use Rattle.std.proofs.lemmas.Bool.Decides.{nat_tests}
use Rattle.tw_rows.specs.Instant.{inf}
use Rattle.tw_rows.specs.Bag.{SameBag, total}
use Rattle.tw_rows.specs.Event.{AreEvents, Known}
use Rattle.tw_rows.specs.SameCells.{same_cells}
use Rattle.tw_rows.specs.declared.edge.Edge.{Edge}
use Rattle.tw_rows.specs.declared.edge.HeldRow.{HeldRow}
use Rattle.tw_rows.proofs.Bags.{SameBag-refl}
use Rattle.edge_history.specs.Order.{failing, is_real, is_from, is_below, IsHistory}
use Rattle.edge_history.specs.History.{CellEvent, of}
use Rattle.edge_history.specs.Balance.{news}
use Rattle.edge_history.specs.Opens.{singles}
use Rattle.edge_history.proofs.Sums.{failing-parts}
use Rattle.edge_history.proofs.Telling.{news_none}
use Rattle.edge_history.proofs.Retaining.{events_of_are, same_below, valid_from, AreEvents-from, AreEvents-none_fails}
use Rattle.edge_history.proofs.Waiting.{pending_then}
use Rattle.key_nodes.proofs.Alone.{alone_known}
use Rattle.synopsis.specs.Held.{key_of}
use Rattle.sweep_laws.specs.Sweeps.{is_at, IsPast, SyncsRise, IsDue, Tells, IsNext}
use Rattle.sweep_laws.proofs.Joins.{due_by_syncs}
use Rattle.sweep_laws.proofs.KeptKnown.{antis_kept}
use Rattle.sweep_laws.proofs.Sides.{side_now, side_none, side_rest, next_between, tells_parts, tells_still, told_step}
use Rattle.anti_join.specs.AntiJoined.{anti_meets, antis}
use Rattle.anti_join.specs.Holding.{AntiHeld, AntiReached, AntiKeeps}
use Rattle.anti_join.proofs.Instants.{held_between}

module _ (lk rk : List ℕ) where
  pub reach_start : (a b : List CellEvent) (from to : ℕ) (dl dr : List Edge) (left right times : List HeldRow) (answer : List Edge) → IsDue a from to dl → IsDue b from to dr →
      AntiHeld lk rk a b from left right times → AntiReached lk rk a b from from to dl dr left right times answer answer
  reach_start a b from to dl dr left right times answer hl hr h = record {
    low = omega arith;
    left_due = hl;
    right_due = hr;
    now = h;
    told = record { weigh = λ w. let z = ap (total w) (news_none from (antis lk rk a b)) in omega (arith, z); order = λ up. up };
  }

  pub reach_step : (a b : List CellEvent) (from u t to n m : ℕ) (lr rr : List Edge) (left right times left2 right2 times2 : List HeldRow) (answer0 answer1 answer2 : List Edge) →
      AntiReached lk rk a b from u to lr rr left right times answer0 answer1 → IsNext t lr rr →
      failing (is_at t) (take n lr) ≡ 0 → IsPast t (drop n lr) → failing (is_at t) (take m rr) ≡ 0 → IsPast t (drop m rr) →
      (t < inf → AreEvents a → AreEvents b → SameBag (take n lr) (news t (suc t) a) → SameBag (take m rr) (news t (suc t) b) → AntiHeld lk rk a b t left right times →
      AntiHeld lk rk a b (suc t) left2 right2 times2 × Tells (antis lk rk a b) t (suc t) answer1 answer2) →
      AntiReached lk rk a b from (suc t) to (drop n lr) (drop m rr) left2 right2 times2 answer0 answer2
  reach_step a b from u t to n m lr rr left right times left2 right2 times2 answer0 answer1 answer2 r next at_l past_l at_r past_r step =
      let y = next_between a b u t to lr rr r.left_due r.right_due next in
      let l = r.low in
      let i = r.left_due.high in
      let w = held_between lk rk a b u t left right times y.0 (omega (arith, y, i)) r.left_due.lives r.right_due.lives
      (side_none a u t to n lr r.left_due y.0 y.1 next.left_from at_l past_l) (side_none b u t to m rr r.right_due y.0 y.1 next.right_from at_r past_r) r.now in
      let s = step (omega (arith, y, i)) r.left_due.lives r.right_due.lives
      (side_now a u t to n lr r.left_due y.0 y.1 next.left_from at_l past_l) (side_now b u t to m rr r.right_due y.0 y.1 next.right_from at_r past_r) w.0 in
      record {
        low = omega (arith, l, y);
        left_due = side_rest a u t to n lr r.left_due y.0 y.1 next.left_from at_l past_l;
        right_due = side_rest b u t to m rr r.right_due y.0 y.1 next.right_from at_r past_r;
        now = s.0;
        told = tells_parts (antis lk rk a b) from t (suc t) answer0 answer1 answer2 (omega (arith, l, y)) (omega arith)
            (tells_parts (antis lk rk a b) from u t answer0 answer1 answer1 l y.0 r.told (tells_still (antis lk rk a b) u t answer1 y.0 w.1)) s.1;
      }

  pub reach_end : (a b : List CellEvent) (from u to : ℕ) (lr rr : List Edge) (left right times : List HeldRow) (answer0 answer1 : List Edge) → lr ≡ [] → rr ≡ [] →
      AntiReached lk rk a b from u to lr rr left right times answer0 answer1 → AntiHeld lk rk a b to left right times × Tells (antis lk rk a b) from to answer0 answer1
  reach_end a b from u to lr rr left right times answer0 answer1 el er r =
      let w = held_between lk rk a b u to left right times r.left_due.low r.left_due.high r.left_due.lives r.right_due.lives
      (λ w. sym (r.left_due.news_of.weigh w) ∙ ap (total w) el) (λ w. sym (r.right_due.news_of.weigh w) ∙ ap (total w) er) r.now in
      (w.0, tells_parts (antis lk rk a b) from u to answer0 answer1 answer1 r.low r.left_due.low r.told (tells_still (antis lk rk a b) u to answer1 r.left_due.low w.1))

  -- what is held is right for all events of which the same is known
  held_known : (c : ℕ) (a a2 b b2 : List CellEvent) (left right times : List HeldRow) → Known c a a2 → Known c b b2 → AntiHeld lk rk a b c left right times → AntiHeld lk rk a2 b2 c left right times
  held_known c a a2 b b2 left right times ka kb h = record {
    status = h.status;
    now = antis_kept (key_of lk) (anti_meets lk rk) c a a2 b b2 left right h.status ka kb h.now;
    agrees = h.agrees;
    early = h.early;
    few = h.few;
  }

  -- a whole step, over the lists of the code: each side's edges come from the joint closing on, at least
  module _ (to to2 : ℕ) (hl hr nl nr : List Edge) (pl pl1 pl2 dl pr pr1 pr2 dr : List Edge) (low : to ≤ to2) (high : to2 ≤ inf)
      (whole_l : IsHistory (hl ++ nl)) (whole_r : IsHistory (hr ++ nr)) (from_l : failing (is_from to) nl ≡ 0) (from_r : failing (is_from to) nr ≡ 0)
      (put_l : (w : Edge → ℕ) → total w pl1 ≡ total w pl + total w (singles nl)) (put_r : (w : Edge → ℕ) → total w pr1 ≡ total w pr + total w (singles nr))
      (parts_l : (w : Edge → ℕ) → total w dl + total w pl2 ≡ total w pl1) (parts_r : (w : Edge → ℕ) → total w dr + total w pr2 ≡ total w pr1)
      (below_l : failing (is_below to2) dl ≡ 0) (below_r : failing (is_below to2) dr ≡ 0) (rest_l : failing (is_from to2) pl2 ≡ 0) (rest_r : failing (is_from to2) pr2 ≡ 0)
      (up_l : SyncsRise 0 dl) (up_r : SyncsRise 0 dr) where
    both_l : (w : Edge → ℕ) → total w dl + total w pl2 ≡ total w pl + total w (singles nl)
    both_l w = parts_l w ∙ put_l w

    both_r : (w : Edge → ℕ) → total w dr + total w pr2 ≡ total w pr + total w (singles nr)
    both_r w = parts_r w ∙ put_r w

    lives : (h : List Edge) → IsHistory h → AreEvents (of h)
    lives h k = AreEvents-from (of h) (valid_from h (of h) k.real (events_of_are h k))

    known : (h n : List Edge) → IsHistory h → IsHistory (h ++ n) → failing (is_from to) n ≡ 0 → Known to (of h) (of (h ++ n))
    known h n k w from = record {
      low = omega (arith, low, high);
      left_valid = lives h k;
      right_valid = lives (h ++ n) w;
      same = same_below to h n (of h) (of (h ++ n)) (omega (arith, low, high)) (failing-parts is_real h n w.real).1 from (events_of_are h k) (events_of_are (h ++ n) w);
    }

    pub anti_step : (left left2 right right2 times times2 : List HeldRow) (out answer0 answer : List Edge) → AntiKeeps lk rk left right times pl pr to hl hr out → answer0 ≡ [] →
        (IsDue (of (hl ++ nl)) to to2 dl → IsDue (of (hr ++ nr)) to to2 dr → AntiHeld lk rk (of (hl ++ nl)) (of (hr ++ nr)) to left right times →
        AntiHeld lk rk (of (hl ++ nl)) (of (hr ++ nr)) to2 left2 right2 times2 × Tells (antis lk rk (of (hl ++ nl)) (of (hr ++ nr))) to to2 answer0 answer) →
        AntiKeeps lk rk left2 right2 times2 pl2 pr2 to2 (hl ++ nl) (hr ++ nr) (out ++ answer)
    anti_step left left2 right right2 times times2 out answer0 answer k empty swept =
        let ka = known hl nl k.left_history whole_l from_l in
        let kb = known hr nr k.right_history whole_r from_r in
        let s = swept (due_by_syncs hl nl pl dl pl2 to to2 low high whole_l from_l k.left_waits both_l below_l rest_l up_l)
        (due_by_syncs hr nr pr dr pr2 to to2 low high whole_r from_r k.right_waits both_r below_r rest_r up_r)
        (held_known to (of hl) (of (hl ++ nl)) (of hr) (of (hr ++ nr)) left right times ka kb k.now) in
        let e : min to to ≡ to = omega arith in
        let n = subst (λ x. Known x (antis lk rk (of hl) (of hr)) (antis lk rk (of (hl ++ nl)) (of (hr ++ nr)))) e
        (alone_known same_cells (anti_meets lk rk) to to (of hl) (of (hl ++ nl)) (of hr) (of (hr ++ nr)) ka kb) in
        record {
          left_history = whole_l;
          right_history = whole_r;
          left_waits = pending_then hl nl pl dl pl2 to to2 low high whole_l from_l k.left_waits both_l below_l rest_l;
          right_waits = pending_then hr nr pr dr pr2 to to2 low high whole_r from_r k.right_waits both_r below_r rest_r;
          now = s.0;
          told = told_step to to2 out answer0 answer (antis lk rk (of hl) (of hr)) (antis lk rk (of (hl ++ nl)) (of (hr ++ nr))) low high
              (AreEvents-none_fails (antis lk rk (of (hl ++ nl)) (of (hr ++ nr))) n.right_valid) n.same k.told empty s.1;
        }

    -- and its answer tells what happens to the events between the two closings
    pub anti_news : (left left2 right right2 times times2 : List HeldRow) (out answer0 answer : List Edge) → AntiKeeps lk rk left right times pl pr to hl hr out → answer0 ≡ [] →
        (IsDue (of (hl ++ nl)) to to2 dl → IsDue (of (hr ++ nr)) to to2 dr → AntiHeld lk rk (of (hl ++ nl)) (of (hr ++ nr)) to left right times →
        AntiHeld lk rk (of (hl ++ nl)) (of (hr ++ nr)) to2 left2 right2 times2 × Tells (antis lk rk (of (hl ++ nl)) (of (hr ++ nr))) to to2 answer0 answer) →
        SameBag answer (news to to2 (antis lk rk (of (hl ++ nl)) (of (hr ++ nr))))
    anti_news left left2 right right2 times times2 out answer0 answer k empty swept =
        let s = swept (due_by_syncs hl nl pl dl pl2 to to2 low high whole_l from_l k.left_waits both_l below_l rest_l up_l)
        (due_by_syncs hr nr pr dr pr2 to to2 low high whole_r from_r k.right_waits both_r below_r rest_r up_r)
        (held_known to (of hl) (of (hl ++ nl)) (of hr) (of (hr ++ nr)) left right times (known hl nl k.left_history whole_l from_l) (known hr nr k.right_history whole_r from_r) k.now) in
        record { weigh = λ w. (let t = s.1.weigh w in let z = ap (total w) empty in omega (arith, t, z)) }

  -- of no edges nothing is kept
  pub kept_none : AntiKeeps lk rk [] [] [] [] [] 0 [] [] []
  kept_none = record {
    left_history = none;
    right_history = none;
    left_waits = SameBag-refl [];
    right_waits = SameBag-refl [];
    now = record {
      status = λ k. Some 0;
      now = record { left_rows = SameBag-refl []; right_rows = SameBag-refl []; since = λ k. inr refl; steady = λ row. refl; runs = λ e. sym (ap (λ b. cond (b && nat_le 0 e.end) (Some (record { row = e.row; start = max e.start 0 })) None) (none_before e.start)) };
      agrees = refl;
      early = λ k. (omega arith);
      few = λ k h. refl;
    };
    told = record { order = tt; settled = refl; stands = SameBag-refl [] };
  }
    where
      none : IsHistory []
      none = record { order = tt; real = refl; paired = λ cells start. (omega arith) }

      none_before : (n : ℕ) → nat_lt n 0 ≡ false
      none_before n = grind (arith, nat_tests)
