-- A join from instant to instant, and a whole step of it.
use Rattle.std.specs.Prelude.{◌≡◌, ℕ, suc, ◌+◌, ◌<◌, ◌≤◌, max, min, Bool, true, false, cond, List, [], ◌++◌, take, drop, flat_map, filter, refl}
use Rattle.std.proofs.Common.{sym, ◌∙◌, ap, subst, arith}
use Rattle.std.proofs.lemmas.Bool.Decides.{nat_tests}
use Rattle.tw_rows.specs.Instant.{inf}
use Rattle.tw_rows.specs.Bag.{SameBag, total}
use Rattle.tw_rows.specs.Event.{AreEvents, cut_one, cut}
use Rattle.tw_rows.specs.declared.cells.Datum.{Datum}
use Rattle.tw_rows.specs.declared.edge.Edge.{Edge}
use Rattle.tw_rows.specs.declared.edge.HeldRow.{HeldRow}
use Rattle.tw_rows.proofs.Bags.{total-flat_map, total_same, total_swap, SameBag-trans}
use Rattle.edge_history.specs.Order.{failing, is_real, is_from, is_below, Rises, IsHistory}
use Rattle.edge_history.specs.History.{CellEvent, of}
use Rattle.edge_history.specs.Balance.{news}
use Rattle.edge_history.specs.Opens.{singles}
use Rattle.edge_history.proofs.Sums.{failing-parts, sum_eq}
use Rattle.edge_history.proofs.Telling.{is_event, news_none, told_same, told_more}
use Rattle.edge_history.proofs.Retaining.{events_of_are, same_below, valid_from, AreEvents-from}
use Rattle.edge_history.proofs.Opening.{opens_known}
use Rattle.edge_history.proofs.Waiting.{pending_then, due_is}
use Rattle.key_nodes.specs.Joins.{with_life, joined_one, joined}
use Rattle.sweep_laws.specs.Sweeps.{is_at, IsPast, SyncsRise, IsDue, Tells, IsNext}
use Rattle.sweep_laws.specs.Pairs.{Held}
use Rattle.sweep_laws.specs.Joining.{JoinReached, JoinKeeps}
use Rattle.sweep_laws.proofs.Instants.{syncs_rise}
use Rattle.sweep_laws.proofs.Sides.{side_now, side_none, side_rest, next_between, tells_parts, tells_still}
use Rattle.sweep_laws.proofs.JoinTelling.{joins_valid, held_between}

-- the due edges of a side, in the order of their syncs
pub due_by_syncs : (came new waiting due rest : List Edge) (c d : ℕ) → c ≤ d → d ≤ inf → IsHistory (came ++ new) → failing (is_from c) new ≡ 0 →
    SameBag waiting (filter (is_from c) (singles came)) → ((w : Edge → ℕ) → total w due + total w rest ≡ total w waiting + total w (singles new)) →
    failing (is_below d) due ≡ 0 → failing (is_from d) rest ≡ 0 → SyncsRise 0 due → IsDue (of (came ++ new)) c d due
due_by_syncs came new waiting due rest c d low high whole from waits parts below later up = record {
  low = low;
  high = high;
  lives = AreEvents-from (of (came ++ new)) (valid_from (came ++ new) (of (came ++ new)) whole.real (events_of_are (came ++ new) whole));
  news_of = due_is came new waiting due rest c d low high whole from waits parts below later;
  order = up;
}

-- the same of due edges in order
pub due_then : (came new waiting due rest : List Edge) (c d : ℕ) → c ≤ d → d ≤ inf → IsHistory (came ++ new) → failing (is_from c) new ≡ 0 →
    SameBag waiting (filter (is_from c) (singles came)) → ((w : Edge → ℕ) → total w due + total w rest ≡ total w waiting + total w (singles new)) →
    failing (is_below d) due ≡ 0 → failing (is_from d) rest ≡ 0 → Rises 0 due → IsDue (of (came ++ new)) c d due
due_then came new waiting due rest c d low high whole from waits parts below later up =
    due_by_syncs came new waiting due rest c d low high whole from waits parts below later (syncs_rise due up)

module _ (meets : List Datum → List Datum → Bool) (pair : List Datum → List Datum → List Datum) where
  pub join_reach_start : (a b : List CellEvent) (from to : ℕ) (dl dr : List Edge) (left right : List HeldRow) (answer : List Edge) → IsDue a from to dl → IsDue b from to dr → Held a b from left right →
      JoinReached meets pair a b from from to dl dr left right answer answer
  join_reach_start a b from to dl dr left right answer hl hr h = record {
    low = omega arith;
    left_due = hl;
    right_due = hr;
    now = h;
    told = record { weigh = λ w. let z = ap (total w) (news_none from (joined meets pair a b)) in omega (arith, z); order = λ up. up };
  }

  pub join_reach_step : (a b : List CellEvent) (from u t to n m : ℕ) (lr rr : List Edge) (left right left2 right2 : List HeldRow) (answer0 answer1 answer2 : List Edge) →
      JoinReached meets pair a b from u to lr rr left right answer0 answer1 → IsNext t lr rr →
      failing (is_at t) (take n lr) ≡ 0 → IsPast t (drop n lr) → failing (is_at t) (take m rr) ≡ 0 → IsPast t (drop m rr) →
      (t < inf → AreEvents a → AreEvents b → SameBag (take n lr) (news t (suc t) a) → SameBag (take m rr) (news t (suc t) b) → Held a b t left right →
      Held a b (suc t) left2 right2 × Tells (joined meets pair a b) t (suc t) answer1 answer2) →
      JoinReached meets pair a b from (suc t) to (drop n lr) (drop m rr) left2 right2 answer0 answer2
  join_reach_step a b from u t to n m lr rr left right left2 right2 answer0 answer1 answer2 r next at_l past_l at_r past_r step =
      let y = next_between a b u t to lr rr r.left_due r.right_due next in
      let l = r.low in
      let i = r.left_due.high in
      let w = held_between meets pair a b u t left right r.left_due.lives r.right_due.lives y.0
      (side_none a u t to n lr r.left_due y.0 y.1 next.left_from at_l past_l) (side_none b u t to m rr r.right_due y.0 y.1 next.right_from at_r past_r) r.now in
      let s = step (omega (arith, y, i)) r.left_due.lives r.right_due.lives
      (side_now a u t to n lr r.left_due y.0 y.1 next.left_from at_l past_l) (side_now b u t to m rr r.right_due y.0 y.1 next.right_from at_r past_r) w.0 in
      record {
        low = omega (arith, l, y);
        left_due = side_rest a u t to n lr r.left_due y.0 y.1 next.left_from at_l past_l;
        right_due = side_rest b u t to m rr r.right_due y.0 y.1 next.right_from at_r past_r;
        now = s.0;
        told = tells_parts (joined meets pair a b) from t (suc t) answer0 answer1 answer2 (omega (arith, l, y)) (omega arith)
            (tells_parts (joined meets pair a b) from u t answer0 answer1 answer1 l y.0 r.told (tells_still (joined meets pair a b) u t answer1 y.0 w.1)) s.1;
      }

  pub join_reach_end : (a b : List CellEvent) (from u to : ℕ) (lr rr : List Edge) (left right : List HeldRow) (answer0 answer1 : List Edge) → lr ≡ [] → rr ≡ [] →
      JoinReached meets pair a b from u to lr rr left right answer0 answer1 → Held a b to left right × Tells (joined meets pair a b) from to answer0 answer1
  join_reach_end a b from u to lr rr left right answer0 answer1 el er r =
      let w = held_between meets pair a b u to left right r.left_due.lives r.right_due.lives r.left_due.low
      (λ w. sym (r.left_due.news_of.weigh w) ∙ ap (total w) el) (λ w. sym (r.right_due.news_of.weigh w) ∙ ap (total w) er) r.now in
      (w.0, tells_parts (joined meets pair a b) from u to answer0 answer1 answer1 r.low r.left_due.low r.told (tells_still (joined meets pair a b) u to answer1 r.left_due.low w.1))

  -- what is known below a time is enough
  both_known : (w : CellEvent → ℕ) (c : ℕ) (a b : CellEvent) (m : Bool) (p : List Datum) → a.start < a.end → b.start < b.end → a.end ≤ inf → b.end ≤ inf → c ≤ inf →
      total w (cut c (cond m (with_life p (max a.start b.start) (min a.end b.end)) []))
      ≡ total (λ u. total (λ v. total w (cut c (cond m (with_life p (max u.start v.start) (min u.end v.end)) []))) (cut_one c b)) (cut_one c a)
  both_known w c a b true p la lb ea eb f = grind (arith, nat_tests)
  both_known w c a b false p la lb ea eb f = grind (arith, nat_tests)

  one_known : (w : CellEvent → ℕ) (c : ℕ) (a b : CellEvent) → c ≤ inf → is_event a ≡ true → is_event b ≡ true →
      total w (cut c (joined_one meets pair a b)) ≡ total (λ u. total (λ v. total w (cut c (joined_one meets pair u v))) (cut_one c b)) (cut_one c a)
  one_known w c a b f va vb =
      let ta = times a va in
      let tb = times b vb in
      both_known w c a b (meets a.row b.row) (pair a.row b.row) ta.0 tb.0 ta.1 tb.1 f ∙ same_pairs
    where
      times : (e : CellEvent) → is_event e ≡ true → (e.start < e.end) × (e.end ≤ inf)
      times e v = (first e v, second e v)
        where
          first : (e : CellEvent) → is_event e ≡ true → e.start < e.end
          first e v = grind (arith, nat_tests)

          second : (e : CellEvent) → is_event e ≡ true → e.end ≤ inf
          second e v = grind (arith, nat_tests)

      same_pairs :
          total (λ u. total (λ v. total w (cut c (cond (meets a.row b.row) (with_life (pair a.row b.row) (max u.start v.start) (min u.end v.end)) []))) (cut_one c b)) (cut_one c a)
          ≡ total (λ u. total (λ v. total w (cut c (joined_one meets pair u v))) (cut_one c b)) (cut_one c a)
      same_pairs = grind (arith, nat_tests)

  joins_cut : (w : CellEvent → ℕ) (c : ℕ) (a b : List CellEvent) → c ≤ inf → failing is_event a ≡ 0 → failing is_event b ≡ 0 →
      total w (cut c (joined meets pair a b)) ≡ total (λ u. total (λ v. total w (cut c (joined_one meets pair u v))) (cut c b)) (cut c a)
  joins_cut w c a b f va vb =
      let F : CellEvent → CellEvent → ℕ = λ u v. total w (cut c (joined_one meets pair u v)) in
      let W : CellEvent → ℕ = λ e. total w (cut_one c e) in
      total-flat_map w (cut_one c) (joined meets pair a b)
      ∙ total-flat_map W (λ e. flat_map (joined_one meets pair e) b) a
      ∙ sum_eq is_event _ (λ e. total (λ u. total (F u) (cut c b)) (cut_one c e)) a (λ e i.
      total-flat_map W (joined_one meets pair e) b
      ∙ total_same _ _ b (λ g. sym (total-flat_map w (cut_one c) (joined_one meets pair e g)))
      ∙ sum_eq is_event _ (λ g. total (λ u. total (F u) (cut_one c g)) (cut_one c e)) b (λ g j. one_known w c e g f i j) vb
      ∙ total_swap (λ g u. total (F u) (cut_one c g)) b (cut_one c e)
      ∙ total_same _ _ (cut_one c e) (λ u. sym (total-flat_map (F u) (cut_one c) b))) va
      ∙ sym (total-flat_map (λ u. total (F u) (cut c b)) (cut_one c) a)

  pub joins_known : (c : ℕ) (a a2 b b2 : List CellEvent) → c ≤ inf → failing is_event a ≡ 0 → failing is_event a2 ≡ 0 → failing is_event b ≡ 0 → failing is_event b2 ≡ 0 →
      SameBag (cut c a) (cut c a2) → SameBag (cut c b) (cut c b2) → SameBag (cut c (joined meets pair a b)) (cut c (joined meets pair a2 b2))
  joins_known c a a2 b b2 f va va2 vb vb2 h k = record {
    weigh = λ w.
        let F : CellEvent → CellEvent → ℕ = λ u v. total w (cut c (joined_one meets pair u v)) in
        joins_cut w c a b f va vb ∙ h.weigh (λ u. total (F u) (cut c b)) ∙ total_same _ _ (cut c a2) (λ u. k.weigh (F u)) ∙ sym (joins_cut w c a2 b2 f va2 vb2);
  }

  -- a whole step, over the lists of the code: each side's edges come from the joint closing on, at least
  module _ (to to2 : ℕ) (hl hr nl nr : List Edge) (pl pl1 pl2 dl pr pr1 pr2 dr : List Edge) (low : to ≤ to2) (high : to2 ≤ inf)
      (whole_l : IsHistory (hl ++ nl)) (whole_r : IsHistory (hr ++ nr)) (from_l : failing (is_from to) nl ≡ 0) (from_r : failing (is_from to) nr ≡ 0)
      (put_l : (w : Edge → ℕ) → total w pl1 ≡ total w pl + total w (singles nl)) (put_r : (w : Edge → ℕ) → total w pr1 ≡ total w pr + total w (singles nr))
      (parts_l : (w : Edge → ℕ) → total w dl + total w pl2 ≡ total w pl1) (parts_r : (w : Edge → ℕ) → total w dr + total w pr2 ≡ total w pr1)
      (below_l : failing (is_below to2) dl ≡ 0) (below_r : failing (is_below to2) dr ≡ 0) (rest_l : failing (is_from to2) pl2 ≡ 0) (rest_r : failing (is_from to2) pr2 ≡ 0)
      (up_l : SyncsRise 0 dl) (up_r : SyncsRise 0 dr) where
    both_l : (w : Edge → ℕ) → total w dl + total w pl2 ≡ total w pl + total w (singles nl)
    both_l w = parts_l w ∙ put_l w

    both_r : (w : Edge → ℕ) → total w dr + total w pr2 ≡ total w pr + total w (singles nr)
    both_r w = parts_r w ∙ put_r w

    cuts : (h n : List Edge) → IsHistory h → IsHistory (h ++ n) → failing (is_from to) n ≡ 0 → SameBag (cut to (of h)) (cut to (of (h ++ n)))
    cuts h n k w from = same_below to h n (of h) (of (h ++ n)) (omega (arith, low, high)) (failing-parts is_real h n w.real).1 from (events_of_are h k) (events_of_are (h ++ n) w)

    valid : (h : List Edge) → IsHistory h → failing is_event (of h) ≡ 0
    valid h k = valid_from h (of h) k.real (events_of_are h k)

    pub join_step : (left left2 right right2 : List HeldRow) (out answer0 answer : List Edge) → JoinKeeps meets pair left right pl pr to hl hr out → answer0 ≡ [] →
        (IsDue (of (hl ++ nl)) to to2 dl → IsDue (of (hr ++ nr)) to to2 dr → Held (of (hl ++ nl)) (of (hr ++ nr)) to left right →
        Held (of (hl ++ nl)) (of (hr ++ nr)) to2 left2 right2 × Tells (joined meets pair (of (hl ++ nl)) (of (hr ++ nr))) to to2 answer0 answer) →
        JoinKeeps meets pair left2 right2 pl2 pr2 to2 (hl ++ nl) (hr ++ nr) (out ++ answer)
    join_step left left2 right right2 out answer0 answer k empty swept =
        let ka = cuts hl nl k.left_history whole_l from_l in
        let kb = cuts hr nr k.right_history whole_r from_r in
        let va = valid (hl ++ nl) whole_l in
        let vb = valid (hr ++ nr) whole_r in
        let s = swept (due_by_syncs hl nl pl dl pl2 to to2 low high whole_l from_l k.left_waits both_l below_l rest_l up_l)
        (due_by_syncs hr nr pr dr pr2 to to2 low high whole_r from_r k.right_waits both_r below_r rest_r up_r)
        (record {
          left_rows = SameBag-trans _ _ _ k.now.left_rows (opens_known to _ _ (omega (arith, low, high)) ka);
          right_rows = SameBag-trans _ _ _ k.now.right_rows (opens_known to _ _ (omega (arith, low, high)) kb);
        }) in
        let told = subst (λ l. Tells (joined meets pair (of (hl ++ nl)) (of (hr ++ nr))) to to2 l answer) empty s.1 in
        record {
          left_history = whole_l;
          right_history = whole_r;
          left_waits = pending_then hl nl pl dl pl2 to to2 low high whole_l from_l k.left_waits both_l below_l rest_l;
          right_waits = pending_then hr nr pr dr pr2 to to2 low high whole_r from_r k.right_waits both_r below_r rest_r;
          now = s.0;
          told = told_more to to2 out answer (joined meets pair (of (hl ++ nl)) (of (hr ++ nr))) low high (joins_valid meets pair _ _ va vb)
              (told_same to out (joined meets pair (of hl) (of hr)) (joined meets pair (of (hl ++ nl)) (of (hr ++ nr)))
              (joins_known to _ _ _ _ (omega (arith, low, high)) (valid hl k.left_history) va (valid hr k.right_history) vb ka kb) k.told)
              (told.order (record { rises = tt; below = refl })).rises (record { weigh = λ w. let z = told.weigh w in omega (arith, z) });
        }
