-- Edges that are answered one by one, of those that came, tell of the events that a node makes one by one.
use Rattle.std.specs.Prelude.{◌≡◌, ℕ, ◌+◌, ◌≤◌, Bool, true, cond, ◌&&◌, List, [], ◌++◌, map, filter, flat_map, refl}
use Rattle.std.proofs.Common.{sym, ◌∙◌, arith}
use Rattle.std.proofs.lemmas.Bool.Decides.{nat_tests}
use Rattle.tw_rows.specs.Instant.{inf}
use Rattle.tw_rows.specs.Bag.{SameBag, total}
use Rattle.tw_rows.specs.declared.edge.Edge.{Edge}
use Rattle.tw_rows.proofs.Bags.{total-append, total-map, total-flat_map, total-filter, total_same, total_zero}
use Rattle.edge_history.specs.Order.{failing, is_real, is_below, is_from, Rises, IsHistory}
use Rattle.edge_history.specs.History.{CellEvent, of}
use Rattle.edge_history.specs.Balance.{news_of, news}
use Rattle.edge_history.specs.Opens.{singles_of, singles}
use Rattle.edge_history.specs.Ahead.{ToldAhead}
use Rattle.edge_history.proofs.Sums.{sum_eq, failing-kept}
use Rattle.edge_history.proofs.Telling.{is_event, news_in_parts}
use Rattle.edge_history.proofs.Retaining.{events_of_are, valid_from}
use Rattle.edge_history.proofs.Opening.{singles_are_news}
use Rattle.edge_history.proofs.Waiting.{news_between, singles_from}
use Rattle.edge_history.proofs.Ahead.{time_parts}

-- what is shown of events below c, where what is still to be shown of them weighs nothing below c
pub shown_tells : (c : ℕ) → c ≤ inf → (events : List CellEvent) (out : List Edge) (rest : (Edge → ℕ) → ℕ) → Rises 0 out → failing is_real out ≡ 0 → failing (is_below c) out ≡ 0 →
    ((w : Edge → ℕ) → total w (singles out) + rest w ≡ total w (news 0 inf events)) →
    ((w : Edge → ℕ) → rest (λ x. cond (is_below c x) (w x) 0) ≡ 0) → ToldAhead c out events
shown_tells c low events out rest order real below shows late = record {
  order = order;
  real = real;
  below = below;
  told = record { weigh = told };
  ahead = λ w.
      let s = shows w in
      let t = told w in
      let p = time_parts w c (singles out) in
      let n = (news_in_parts 0 c inf events (omega arith) low).weigh w in
      let m = total-append w (news 0 c events) (news c inf events) in
      omega (arith, s, t, p, n, m);
}
  where
    below_one : (w : Edge → ℕ) (x : Edge) → cond (is_below c x) (w x) 0 ≡ cond (is_from 0 x && is_below c x) (w x) 0
    below_one w x = grind (arith, nat_tests)

    told : (w : Edge → ℕ) → total w (filter (is_below c) (singles out)) ≡ total w (news 0 c events)
    told w =
        let f = total-filter w (is_below c) (singles out) in
        let s = shows (λ x. cond (is_below c x) (w x) 0) in
        let l = late w in
        let g = total_same (λ x. cond (is_below c x) (w x) 0) (λ x. cond (is_from 0 x && is_below c x) (w x) 0) (news 0 inf events) (λ x. below_one w x) in
        let n = news_between w 0 c events low in
        omega (arith, f, s, l, g, n)

-- the single edges of edges that come at c or later
pub singles_late : (w : Edge → ℕ) (c : ℕ) (h : List Edge) → failing (is_from c) h ≡ 0 → total (λ x. cond (is_below c x) (w x) 0) (singles h) ≡ 0
singles_late w c h late =
    let p = time_parts w c (singles h) in
    let b = total-filter w (is_below c) (singles h) in
    let f = total-filter w (is_from c) (singles h) in
    let s = singles_from w c h late in
    omega (arith, p, b, f, s)

module _ (test : Edge → Bool) (new : Edge → Edge) (one : CellEvent → List CellEvent) where
  -- the weight of the single edges that are answered of an edge
  abbrev pub weight : (Edge → ℕ) → Edge → ℕ
  weight w e = cond (test e) (total w (singles_of (new e))) 0

  -- an edge is answered as its single edges are, and these as the news of an event; edges from z on are answered from c on
  pub record Answers (z c : ℕ) : Type 0 where
    pub parts : (w : Edge → ℕ) (e : Edge) → is_real e ≡ true → weight w e ≡ total (weight w) (singles_of e)
    pub news : (w : Edge → ℕ) (v : CellEvent) → is_event v ≡ true → total w (flat_map (news_of 0 inf) (one v)) ≡ total (weight w) (news_of 0 inf v)
    pub late : (w : Edge → ℕ) (e : Edge) → is_from z e ≡ true → weight (λ x. cond (is_below c x) (w x) 0) e ≡ 0

  answers_weigh : (w : Edge → ℕ) (h : List Edge) → total w (singles (map new (filter test h))) ≡ total (weight w) h
  answers_weigh w h =
      total-flat_map w singles_of (map new (filter test h))
      ∙ total-map (λ e. total w (singles_of e)) new (filter test h)
      ∙ total-filter (λ e. total w (singles_of (new e))) test h

  -- all that is answered of a history weighs as the news of the node's events
  whole : (z c : ℕ) → Answers z c → (w : Edge → ℕ) (h : List Edge) → IsHistory h → total (weight w) h ≡ total w (news 0 inf (flat_map one (of h)))
  whole z c a w h history =
      let are = events_of_are h history in
      let valid = valid_from h (of h) history.real are in
      sum_eq is_real (weight w) (λ e. total (weight w) (singles_of e)) h (λ e r. a.parts w e r) history.real
      ∙ sym (total-flat_map (weight w) singles_of h)
      ∙ (singles_are_news h (of h) history.real are).weigh (weight w)
      ∙ total-flat_map (weight w) (news_of 0 inf) (of h)
      ∙ sym (sum_eq is_event (λ v. total w (flat_map (news_of 0 inf) (one v))) (λ v. total (weight w) (news_of 0 inf v)) (of h) (λ v k. a.news w v k) valid)
      ∙ total_same (λ v. total w (flat_map (news_of 0 inf) (one v))) (λ v. total (λ x. total w (news_of 0 inf x)) (one v)) (of h) (λ v. total-flat_map w (news_of 0 inf) (one v))
      ∙ sym (total-flat_map (λ x. total w (news_of 0 inf x)) one (of h))
      ∙ sym (total-flat_map w (news_of 0 inf) (flat_map one (of h)))

  -- what comes from z on weighs nothing below c
  nothing_late : (z c : ℕ) → Answers z c → (w : Edge → ℕ) (h : List Edge) → total (weight (λ x. cond (is_below c x) (w x) 0)) (filter (is_from z) h) ≡ 0
  nothing_late z c a w h =
      sum_eq (is_from z) (weight (λ x. cond (is_below c x) (w x) 0)) (λ e. 0) (filter (is_from z) h) (λ e k. a.late w e k) (failing-kept (is_from z) h)
      ∙ total_zero (filter (is_from z) h)

  -- edges that were answered, more that are made and wait, and what is still to be answered show all
  pub waiting_shown : (z c : ℕ) → Answers z c → (h out waiting : List Edge) → IsHistory h → SameBag (out ++ waiting) (map new (filter test (filter (is_below z) h))) →
      (w : Edge → ℕ) → total w (singles out) + (total w (singles waiting) + total (weight w) (filter (is_from z) h)) ≡ total w (news 0 inf (flat_map one (of h)))
  waiting_shown z c a h out waiting history same w =
      let a1 = total-flat_map w singles_of out in
      let a2 = same.weigh (λ e. total w (singles_of e)) in
      let b1 = total-append (λ (e : Edge). total w (singles_of e)) out waiting in
      let b2 = total-flat_map w singles_of waiting in
      let a3 = total-flat_map w singles_of (map new (filter test (filter (is_below z) h))) in
      let a4 = answers_weigh w (filter (is_below z) h) in
      let a5 = time_parts (weight w) z h in
      let a6 = whole z c a w h history in
      omega (arith, a1, a2, a3, a4, a5, a6, b1, b2)

  -- where those that wait come at c or later, those that were answered tell
  pub waiting_tell : (z c : ℕ) → Answers z c → c ≤ inf → (h out waiting : List Edge) → IsHistory h → Rises 0 out → failing is_real out ≡ 0 → failing (is_below c) out ≡ 0 →
      failing (is_from c) waiting ≡ 0 → SameBag (out ++ waiting) (map new (filter test (filter (is_below z) h))) → ToldAhead c out (flat_map one (of h))
  waiting_tell z c a low h out waiting history order real below late same =
      shown_tells c low (flat_map one (of h)) out (λ w. total w (singles waiting) + total (weight w) (filter (is_from z) h)) order real below
      (waiting_shown z c a h out waiting history same)
      (λ w. let s = singles_late w c waiting late in let l = nothing_late z c a w h in omega (arith, s, l))

  pub answers_tell : (z c : ℕ) → Answers z c → c ≤ inf → (h out : List Edge) → IsHistory h → Rises 0 out → failing is_real out ≡ 0 → failing (is_below c) out ≡ 0 →
      SameBag out (map new (filter test (filter (is_below z) h))) → ToldAhead c out (flat_map one (of h))
  answers_tell z c a low h out history order real below same =
      waiting_tell z c a low h out [] history order real below refl (record { weigh = λ w. let n = total-append w out [] in omega (arith, n, same.weigh w) })
