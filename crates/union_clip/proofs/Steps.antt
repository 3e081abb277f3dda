-- A clip from instant to instant, and a whole step of it.
use Rattle.std.specs.Prelude.{◌≡◌, ℕ, suc, ◌+◌, ◌<◌, ◌≤◌, min, List, [], ◌++◌, map, filter, take, drop, refl}
use Rattle.std.proofs.Common.{sym, ◌∙◌, ap, subst, arith}
use Rattle.tw_rows.specs.Instant.{inf}
use Rattle.tw_rows.specs.Bag.{SameBag, total}
use Rattle.tw_rows.specs.Event.{AreEvents, Known}
use Rattle.tw_rows.specs.declared.edge.Edge.{Edge}
use Rattle.tw_rows.specs.declared.edge.HeldRow.{HeldRow}
use Rattle.tw_rows.proofs.Bags.{SameBag-refl}
use Rattle.edge_history.specs.Order.{failing, is_real, is_from, is_below, IsHistory}
use Rattle.edge_history.specs.History.{CellEvent, of}
use Rattle.edge_history.specs.Balance.{news}
use Rattle.edge_history.specs.Opens.{opens, singles, is_start}
use Rattle.edge_history.proofs.Sums.{failing-parts}
use Rattle.edge_history.proofs.Telling.{news_none}
use Rattle.edge_history.proofs.Retaining.{events_of_are, same_below, valid_from, AreEvents-from, AreEvents-none_fails}
use Rattle.edge_history.proofs.Waiting.{pending_then, starts_rest}
use Rattle.key_nodes.proofs.Clipping.{clipped_valid, clipped_known}
use Rattle.sweep_laws.specs.Sweeps.{is_at, IsPast, SyncsRise, IsDue, Tells, IsNext}
use Rattle.sweep_laws.specs.Unending.{unending}
use Rattle.sweep_laws.proofs.ClipTelling.{clips_between}
use Rattle.sweep_laws.proofs.Joins.{due_by_syncs}
use Rattle.sweep_laws.proofs.KeptKnown.{clips_kept}
use Rattle.sweep_laws.proofs.Sides.{side_now, side_none, side_rest, next_between, tells_parts, tells_still, told_step}
use Rattle.sweep_laws.proofs.Unending.{clipped_unending}
use Rattle.union_clip.specs.Clipped.{clip_meets, clips}
use Rattle.union_clip.specs.Holding.{ClipHeld, ClipReached, ClipKeeps}
use Rattle.sweep_sides.proofs.DueStarts.{starts_due_are}

module _ (lk rk : List ℕ) where
  held_between : (a b : List CellEvent) (u t : ℕ) (left : List HeldRow) → u ≤ t → AreEvents a → AreEvents b → ((w : Edge → ℕ) → total w (news u t a) ≡ 0) → ((w : Edge → ℕ) → total w (news u t b) ≡ 0) →
      ClipHeld lk rk a b u left → ClipHeld lk rk a b t left × ((w : Edge → ℕ) → total w (news u t (clips lk rk a b)) ≡ 0)
  held_between a b u t left low la lb none_a none_b h =
      clips_between (clip_meets lk rk) u t a b left low (AreEvents-none_fails a la) (AreEvents-none_fails b lb)
      (AreEvents-none_fails (clips lk rk a b) (clipped_valid (clip_meets lk rk) a b la)) none_a none_b h

  pub reach_start : (a b : List CellEvent) (from to : ℕ) (dl dr : List Edge) (left : List HeldRow) (answer : List Edge) → IsDue a from to dl → IsDue b from to dr →
      ClipHeld lk rk a b from left → ClipReached lk rk a b from from to dl dr left answer answer
  reach_start a b from to dl dr left answer hl hr h = record {
    low = omega arith;
    left_due = hl;
    right_due = hr;
    now = h;
    told = record { weigh = λ w. (let z = ap (total w) (news_none from (clips lk rk a b)) in omega (arith, z)); order = λ up. up };
  }

  pub reach_step : (a b : List CellEvent) (from u t to n m : ℕ) (lr rr : List Edge) (left left2 : List HeldRow) (answer0 answer1 answer2 : List Edge) →
      ClipReached lk rk a b from u to lr rr left answer0 answer1 → IsNext t lr rr →
      failing (is_at t) (take n lr) ≡ 0 → IsPast t (drop n lr) → failing (is_at t) (take m rr) ≡ 0 → IsPast t (drop m rr) →
      (t < inf → AreEvents a → AreEvents b → SameBag (take n lr) (news t (suc t) a) → SameBag (take m rr) (news t (suc t) b) → ClipHeld lk rk a b t left →
      ClipHeld lk rk a b (suc t) left2 × Tells (clips lk rk a b) t (suc t) answer1 answer2) →
      ClipReached lk rk a b from (suc t) to (drop n lr) (drop m rr) left2 answer0 answer2
  reach_step a b from u t to n m lr rr left left2 answer0 answer1 answer2 r next at_l past_l at_r past_r step =
      let y = next_between a b u t to lr rr r.left_due r.right_due next in
      let l = r.low in
      let i = r.left_due.high in
      let w = held_between a b u t left y.0 r.left_due.lives r.right_due.lives
      (side_none a u t to n lr r.left_due y.0 y.1 next.left_from at_l past_l) (side_none b u t to m rr r.right_due y.0 y.1 next.right_from at_r past_r) r.now in
      let s = step (omega (arith, y, i)) r.left_due.lives r.right_due.lives
      (side_now a u t to n lr r.left_due y.0 y.1 next.left_from at_l past_l) (side_now b u t to m rr r.right_due y.0 y.1 next.right_from at_r past_r) w.0 in
      record {
        low = omega (arith, l, y);
        left_due = side_rest a u t to n lr r.left_due y.0 y.1 next.left_from at_l past_l;
        right_due = side_rest b u t to m rr r.right_due y.0 y.1 next.right_from at_r past_r;
        now = s.0;
        told = tells_parts (clips lk rk a b) from t (suc t) answer0 answer1 answer2 (omega (arith, l, y)) (omega arith)
            (tells_parts (clips lk rk a b) from u t answer0 answer1 answer1 l y.0 r.told (tells_still (clips lk rk a b) u t answer1 y.0 w.1)) s.1;
      }

  pub reach_end : (a b : List CellEvent) (from u to : ℕ) (lr rr : List Edge) (left : List HeldRow) (answer0 answer1 : List Edge) → lr ≡ [] → rr ≡ [] →
      ClipReached lk rk a b from u to lr rr left answer0 answer1 → ClipHeld lk rk a b to left × Tells (clips lk rk a b) from to answer0 answer1
  reach_end a b from u to lr rr left answer0 answer1 el er r =
      let w = held_between a b u to left r.left_due.low r.left_due.lives r.right_due.lives
      (λ w. sym (r.left_due.news_of.weigh w) ∙ ap (total w) el) (λ w. sym (r.right_due.news_of.weigh w) ∙ ap (total w) er) r.now in
      (w.0, tells_parts (clips lk rk a b) from u to answer0 answer1 answer1 r.low r.left_due.low r.told (tells_still (clips lk rk a b) u to answer1 r.left_due.low w.1))

  -- right events clip by their starts alone
  by_starts : (a b : List CellEvent) → clips lk rk a (map unending b) ≡ clips lk rk a b
  by_starts a b = clipped_unending (clip_meets lk rk) a b

  -- a whole step, over the lists of the code: each side's edges come from the joint closing on, at least
  module _ (to to2 : ℕ) (hl hr nl nr : List Edge) (pl pl1 pl2 dl pr pr1 pr2 dr : List Edge) (low : to ≤ to2) (high : to2 ≤ inf)
      (whole_l : IsHistory (hl ++ nl)) (whole_r : IsHistory (hr ++ nr)) (from_l : failing (is_from to) nl ≡ 0) (from_r : failing (is_from to) nr ≡ 0)
      (put_l : (w : Edge → ℕ) → total w pl1 ≡ total w pl + total w (singles nl)) (put_r : (w : Edge → ℕ) → total w pr1 ≡ total w pr + total w (filter is_start (singles nr)))
      (parts_l : (w : Edge → ℕ) → total w dl + total w pl2 ≡ total w pl1) (parts_r : (w : Edge → ℕ) → total w dr + total w pr2 ≡ total w pr1)
      (below_l : failing (is_below to2) dl ≡ 0) (below_r : failing (is_below to2) dr ≡ 0) (rest_l : failing (is_from to2) pl2 ≡ 0) (rest_r : failing (is_from to2) pr2 ≡ 0)
      (up_l : SyncsRise 0 dl) (up_r : SyncsRise 0 dr) where
    both_l : (w : Edge → ℕ) → total w dl + total w pl2 ≡ total w pl + total w (singles nl)
    both_l w = parts_l w ∙ put_l w

    both_r : (w : Edge → ℕ) → total w dr + total w pr2 ≡ total w pr + total w (filter is_start (singles nr))
    both_r w = parts_r w ∙ put_r w

    lives : (h : List Edge) → IsHistory h → AreEvents (of h)
    lives h k = AreEvents-from (of h) (valid_from h (of h) k.real (events_of_are h k))

    known : (h n : List Edge) → IsHistory h → IsHistory (h ++ n) → failing (is_from to) n ≡ 0 → Known to (of h) (of (h ++ n))
    known h n k w from = record {
      low = omega (arith, low, high);
      left_valid = lives h k;
      right_valid = lives (h ++ n) w;
      same = same_below to h n (of h) (of (h ++ n)) (omega (arith, low, high)) (failing-parts is_real h n w.real).1 from (events_of_are h k) (events_of_are (h ++ n) w);
    }

    abbrev a2 : List CellEvent
    a2 = of (hl ++ nl)

    abbrev b2 : List CellEvent
    b2 = of (hr ++ nr)

    -- what the sweep made of what is kept, by all events
    all_swept : (left left2 : List HeldRow) (out answer0 answer : List Edge) → ClipKeeps lk rk left pl pr to hl hr out →
        (IsDue a2 to to2 dl → IsDue (map unending b2) to to2 dr → ClipHeld lk rk a2 (map unending b2) to left →
        ClipHeld lk rk a2 (map unending b2) to2 left2 × Tells (clips lk rk a2 (map unending b2)) to to2 answer0 answer) →
        ClipHeld lk rk a2 b2 to2 left2 × Tells (clips lk rk a2 b2) to to2 answer0 answer
    all_swept left left2 out answer0 answer k swept =
        let now = clips_kept (clip_meets lk rk) to (of hl) a2 (of hr) b2 left (known hl nl k.left_history whole_l from_l) (known hr nr k.right_history whole_r from_r) k.now in
        let e = by_starts a2 b2 in
        let s = swept (due_by_syncs hl nl pl dl pl2 to to2 low high whole_l from_l k.left_waits both_l below_l rest_l up_l)
        (starts_due_are hr nr pr dr pr2 to to2 low high whole_r from_r k.right_waits both_r below_r rest_r up_r)
        (subst (λ (events : List CellEvent). SameBag left (opens to events)) (sym e) now) in
        (subst (λ (events : List CellEvent). SameBag left2 (opens to2 events)) e s.0, subst (λ (events : List CellEvent). Tells events to to2 answer0 answer) e s.1)

    pub clip_step : (left left2 : List HeldRow) (out answer0 answer : List Edge) → ClipKeeps lk rk left pl pr to hl hr out → answer0 ≡ [] →
        (IsDue (of (hl ++ nl)) to to2 dl → IsDue (map unending (of (hr ++ nr))) to to2 dr → ClipHeld lk rk (of (hl ++ nl)) (map unending (of (hr ++ nr))) to left →
        ClipHeld lk rk (of (hl ++ nl)) (map unending (of (hr ++ nr))) to2 left2 × Tells (clips lk rk (of (hl ++ nl)) (map unending (of (hr ++ nr)))) to to2 answer0 answer) →
        ClipKeeps lk rk left2 pl2 pr2 to2 (hl ++ nl) (hr ++ nr) (out ++ answer)
    clip_step left left2 out answer0 answer k empty swept =
        let s = all_swept left left2 out answer0 answer k swept in
        let e : min to to ≡ to = omega arith in
        let n = subst (λ x. Known x (clips lk rk (of hl) (of hr)) (clips lk rk (of (hl ++ nl)) (of (hr ++ nr)))) e
        (clipped_known (clip_meets lk rk) to to (of hl) (of (hl ++ nl)) (of hr) (of (hr ++ nr)) (known hl nl k.left_history whole_l from_l) (known hr nr k.right_history whole_r from_r)) in
        record {
          left_history = whole_l;
          right_history = whole_r;
          left_waits = pending_then hl nl pl dl pl2 to to2 low high whole_l from_l k.left_waits both_l below_l rest_l;
          right_waits = starts_rest hr nr pr dr pr2 to to2 low high whole_r from_r k.right_waits both_r below_r rest_r;
          now = s.0;
          told = told_step to to2 out answer0 answer (clips lk rk (of hl) (of hr)) (clips lk rk (of (hl ++ nl)) (of (hr ++ nr))) low high
              (AreEvents-none_fails (clips lk rk (of (hl ++ nl)) (of (hr ++ nr))) n.right_valid) n.same k.told empty s.1;
        }

    -- and its answer tells what happens to the events between the two closings
    pub clip_news : (left left2 : List HeldRow) (out answer0 answer : List Edge) → ClipKeeps lk rk left pl pr to hl hr out → answer0 ≡ [] →
        (IsDue (of (hl ++ nl)) to to2 dl → IsDue (map unending (of (hr ++ nr))) to to2 dr → ClipHeld lk rk (of (hl ++ nl)) (map unending (of (hr ++ nr))) to left →
        ClipHeld lk rk (of (hl ++ nl)) (map unending (of (hr ++ nr))) to2 left2 × Tells (clips lk rk (of (hl ++ nl)) (map unending (of (hr ++ nr)))) to to2 answer0 answer) →
        SameBag answer (news to to2 (clips lk rk (of (hl ++ nl)) (of (hr ++ nr))))
    clip_news left left2 out answer0 answer k empty swept =
        let s = all_swept left left2 out answer0 answer k swept in
        record { weigh = λ w. (let t = s.1.weigh w in let z = ap (total w) empty in omega (arith, t, z)) }

  -- of no edges nothing is kept
  pub kept_none : ClipKeeps lk rk [] [] [] 0 [] [] []
  kept_none = record {
    left_history = none;
    right_history = none;
    left_waits = SameBag-refl [];
    right_waits = SameBag-refl [];
    now = SameBag-refl [];
    told = record { order = tt; settled = refl; stands = SameBag-refl [] };
  }
    where
      none : IsHistory []
      none = record { order = tt; real = refl; paired = λ cells start. (omega arith) }
