-- What an Extend answers, and what is kept of it from step to step.
use Rattle.std.specs.Prelude.{◌≡◌, ℕ, ◌+◌, ◌≤◌, ◌&&◌, nat_lt, Bool, true, false, cond, List, [], ◌∷◌, ◌++◌, map, filter, flat_map, refl}
use Rattle.std.proofs.Common.{◌∙◌, ap, arith}
use Rattle.std.proofs.lemmas.Bool.Decides.{nat_tests}
use Rattle.std.proofs.lemmas.List.Elements.{All-nil}
use Rattle.tw_rows.specs.Cells.{ArePlaced}
use Rattle.tw_rows.specs.Instant.{inf, later}
use Rattle.tw_rows.specs.Bag.{SameBag, total}
use Rattle.tw_rows.specs.Texts.{BeginsWith}
use Rattle.tw_rows.specs.declared.edge.Edge.{Edge}
use Rattle.tw_rows.proofs.Bags.{SameBag-refl, total-append, total-map, total-filter, total_same, total_zero, total-add}
use Rattle.edge_history.specs.Order.{is_end, failing, is_real, is_below, is_from, rank, Rises, IsHistory, KeepsOrder}
use Rattle.edge_history.specs.History.{CellEvent, of}
use Rattle.edge_history.specs.Balance.{news_of, news}
use Rattle.edge_history.specs.Opens.{singles_of, singles, is_start}
use Rattle.edge_history.proofs.Agreeing.{same_order}
use Rattle.edge_history.proofs.Retaining.{events_of_are, valid_from, AreEvents-from, AreEvents-none_fails}
use Rattle.edge_history.proofs.Sums.{sum_eq, weaker, failing-append, failing-same, failing-filter, failing-kept}
use Rattle.edge_history.proofs.Telling.{is_event, order_from}
use Rattle.plan_model.specs.declared.node.Node.TheVariants.{Extend}
use Rattle.plan_model.specs.Lives.{extended_one, extended}
use Rattle.plan_model.proofs.NewLives.{AreEvents-each, AreEvents-with_life}
use Rattle.plan_model.specs.Meaning.{node_events}
use Rattle.plan_laws.specs.Keeping.{KeepsAhead, plain_cells}
use Rattle.plan_laws.specs.Places.{AreDistinct, EdgesArePlaced, read_of}
use Rattle.plan_laws.specs.Standing.{StandsRead}
use Rattle.plan_laws.proofs.Standing.{no_history, placed_longer}
use Rattle.plan_laws.proofs.StepsAhead.{ahead_read}
use Rattle.plan_laws.specs.Extending.{extended_edge, is_extended, extended_edges, extended_starts, extended_ends, KeepsExtended}
use Rattle.plan_laws.proofs.Telling.{weight, Answers, waiting_shown, waiting_tell}
use Rattle.plan_laws.proofs.Sides.{sides_first, sides_longer, sides_step}
use Rattle.plan_laws.proofs.LifeSteps.{parted_below, parted_from}

-- EDGE BY EDGE
extend_parts : (by : ℕ) (w : Edge → ℕ) (e : Edge) → is_real e ≡ true →
    weight (is_extended by) (extended_edge by) (extended_one by) w e ≡ total (weight (is_extended by) (extended_edge by) (extended_one by) w) (singles_of e)
extend_parts by w e real = let whole : later by inf ≡ inf = omega arith in grind (arith, nat_tests)

extend_news : (by : ℕ) (w : Edge → ℕ) (v : CellEvent) → is_event v ≡ true →
    total w (flat_map (news_of 0 inf) (extended_one by v)) ≡ total (weight (is_extended by) (extended_edge by) (extended_one by) w) (news_of 0 inf v)
extend_news by w v k = let whole : later by inf ≡ inf = omega arith in grind (arith, nat_tests)

extend_late : (by x : ℕ) → x ≤ inf → (w : Edge → ℕ) (e : Edge) → is_from x e ≡ true →
    weight (is_extended by) (extended_edge by) (extended_one by) (λ y. cond (is_below x y) (w y) 0) e ≡ 0
extend_late by x low w e k = grind (arith, nat_tests)

extend_answers : (by x : ℕ) → x ≤ inf → Answers (is_extended by) (extended_edge by) (extended_one by) x x
extend_answers by x low = record { parts = extend_parts by; news = extend_news by; late = extend_late by x low }

-- starts and ends weigh as all edges that are made
made_weigh : (by : ℕ) (w : Edge → ℕ) (h : List Edge) → total w (extended_edges by h) ≡ total (λ e. cond (is_extended by e) (w (extended_edge by e)) 0) h
made_weigh by w h = total-map w (extended_edge by) (filter (is_extended by) h) ∙ total-filter (λ e. w (extended_edge by e)) (is_extended by) h

either_end : (by : ℕ) (n : ℕ) (e : Edge) → cond (is_extended by e) n 0 ≡ cond (is_start e) n 0 + cond (is_end e && nat_lt (later by e.sync) inf) n 0
either_end by n e = grind (arith, nat_tests)

pub made_of_both : (by : ℕ) (w : Edge → ℕ) (h : List Edge) → total w (extended_edges by h) ≡ total w (extended_starts by h) + total w (extended_ends by h)
made_of_both by w h =
    let E : Edge → Bool = λ e. is_end e && nat_lt (later by e.sync) inf in
    let a1 = made_weigh by w h in
    let a2 = total-map w (extended_edge by) (filter is_start h) in
    let a3 = total-filter (λ e. w (extended_edge by e)) is_start h in
    let a4 = total-map w (extended_edge by) (filter E h) in
    let a5 = total-filter (λ e. w (extended_edge by e)) E h in
    let a6 = total_same (λ e. cond (is_extended by e) (w (extended_edge by e)) 0) (λ e. cond (is_start e) (w (extended_edge by e)) 0 + cond (E e) (w (extended_edge by e)) 0) h (λ e. either_end by (w (extended_edge by e)) e) in
    let a7 = total-add (λ e. cond (is_start e) (w (extended_edge by e)) 0) (λ e. cond (E e) (w (extended_edge by e)) 0) h in
    omega (arith, a1, a2, a3, a4, a5, a6, a7)

-- the starts stay where they were in the order
start_rank : (by : ℕ) (e : Edge) → is_real e ≡ true → is_start e ≡ true → rank (extended_edge by e) ≡ rank e
start_rank by e real start = grind (arith, nat_tests)

start_real : (by : ℕ) (e : Edge) → is_real e ≡ true → is_start e ≡ true → is_real (extended_edge by e) ≡ true
start_real by e real start = grind (arith, nat_tests)

starts_rise : (by : ℕ) (h : List Edge) (r : ℕ) → Rises r h → failing is_real h ≡ 0 → Rises r (extended_starts by h) × (failing is_real (extended_starts by h) ≡ 0)
starts_rise by [] r up none = (tt, refl)
starts_rise by (e ∷ h) r up none = pick (is_real e) (is_start e) refl refl none
    (λ rest. starts_rise by h (rank e) up.1 rest) (λ rest. starts_rise by h r (lower (rank e) r h up.0 up.1) rest)
  where
    lower : (s r : ℕ) (h : List Edge) → r ≤ s → Rises s h → Rises r h
    lower s r [] le up = tt
    lower s r (x ∷ xs) le up = ((let a = up.0 in omega (arith, a, le)), up.1)

    pick : (b s : Bool) → is_real e ≡ b → is_start e ≡ s → cond {A = ℕ} b 0 1 + failing is_real h ≡ 0 →
        (failing is_real h ≡ 0 → Rises (rank e) (extended_starts by h) × (failing is_real (extended_starts by h) ≡ 0)) →
        (failing is_real h ≡ 0 → Rises r (extended_starts by h) × (failing is_real (extended_starts by h) ≡ 0)) →
        Rises r (map (extended_edge by) (cond s (e ∷ filter is_start h) (filter is_start h))) × (failing is_real (map (extended_edge by) (cond s (e ∷ filter is_start h) (filter is_start h))) ≡ 0)
    pick false s i j k with_it without = absurd (omega (arith, k))
    pick true false i j k with_it without = without (omega (arith, k))
    pick true true i j k with_it without =
        let first = up.0 in
        let same : rank (extended_edge by e) ≡ rank e = start_rank by e i j in
        let here : is_real (extended_edge by e) ≡ true = start_real by e i j in
        let none : failing is_real h ≡ 0 = omega (arith, k) in
        let rest = with_it none in
        let last = rest.1 in
        ((omega (arith, first, same), rw same (rest.0)), rw here (omega (arith, last)))

pub starts_in_order : (by : ℕ) (h : List Edge) → KeepsOrder h → KeepsOrder (extended_starts by h)
starts_in_order by h order =
    let old = (same_order h).0 order in
    (same_order (extended_starts by h)).1 (starts_rise by h 0 old.0 old.1)

-- WHAT IS KEPT
pub extended_ahead : (by : ℕ) (texts : List (List ℕ)) (x y : ℕ) (carried waiting left right out : List Edge) →
    KeepsExtended by texts x y carried waiting left right out → KeepsAhead plain_cells (Extend 0 by) texts x y left right out
extended_ahead by texts x y carried waiting left right out k = record {
  left_history = k.sides.left_history;
  right_history = k.sides.right_history;
  left_placed = k.sides.left_placed;
  right_placed = k.sides.right_placed;
  told = waiting_tell (is_extended by) (extended_edge by) (extended_one by) x x (extend_answers by x k.sides.left_low) k.sides.left_low left out waiting k.sides.left_history k.sides.order k.sides.real k.sides.below k.late k.made;
}

pub extended_first : (by : ℕ) (texts : List (List ℕ)) → KeepsExtended by texts 0 0 [] [] [] [] []
extended_first by texts = record {
  sides = sides_first texts _;
  late = refl;
  made = SameBag-refl [];
  waits = SameBag-refl [];
}

pub extended_opening : (by : ℕ) (texts : List (List ℕ)) (x y : ℕ) (carried waiting : List Edge) → carried ≡ [] → waiting ≡ [] → x ≡ 0 → y ≡ 0 → KeepsExtended by texts x y carried waiting [] [] []
extended_opening by texts x y carried waiting empty none left right = rw (empty, none, left, right) (extended_first by texts)

pub extended_longer : (by : ℕ) (new old : List (List ℕ)) (x y : ℕ) (carried waiting left right out : List Edge) → BeginsWith new old →
    KeepsExtended by old x y carried waiting left right out → KeepsExtended by new x y carried waiting left right out
extended_longer by new old x y carried waiting left right out b k = record {
  sides = sides_longer new old x y x left right out b k.sides;
  late = k.late;
  made = k.made;
  waits = k.waits;
}

pub extended_rows : (by : ℕ) (texts : List (List ℕ)) (x y : ℕ) (carried waiting left right out : List Edge) → AreDistinct texts →
    KeepsExtended by texts x y carried waiting left right out → StandsRead texts x out (node_events (Extend 0 by) (read_of texts left) (read_of texts right))
extended_rows by texts x y carried waiting left right out apart k =
    ahead_read (λ test row. false) (λ items row. row) (Extend 0 by) texts x y left right out refl apart k.sides.left_low k.sides.right_low (extended_ahead by texts x y carried waiting left right out k)

-- the events of the node are events, and what waits is shown of them
pub extended_valid : (by : ℕ) (h : List Edge) → IsHistory h → failing is_event (extended by (of h)) ≡ 0
extended_valid by h history =
    AreEvents-none_fails (extended by (of h))
    (AreEvents-each (extended_one by) (λ e _ _. AreEvents-with_life e.row e.start (later by e.end) (omega arith)) (of h) (AreEvents-from (of h) (valid_from h (of h) history.real (events_of_are h history))))

pub waiting_among : (by : ℕ) (texts : List (List ℕ)) (x y : ℕ) (carried waiting left right out : List Edge) (w : Edge → ℕ) →
    KeepsExtended by texts x y carried waiting left right out → total w (singles waiting) ≤ total w (news 0 inf (extended by (of left)))
waiting_among by texts x y carried waiting left right out w k =
    let s = waiting_shown (is_extended by) (extended_edge by) (extended_one by) x x (extend_answers by x k.sides.left_low) left out waiting k.sides.left_history k.made w in
    omega (arith, s)

-- A STEP
made_from : (by x : ℕ) (e : Edge) → x ≤ inf → is_from x e ≡ true → is_from x (extended_edge by e) ≡ true
made_from by x e low k = grind (arith, nat_tests)

all_made_from : (by x : ℕ) (h : List Edge) → x ≤ inf → failing (is_from x) h ≡ 0 → failing (is_from x) (extended_edges by h) ≡ 0
all_made_from by x h low none =
    made_weigh by (λ e. cond {A = ℕ} (is_from x e) 0 1) h
    ∙ sum_eq (is_from x) (λ e. cond {A = ℕ} (is_extended by e) (cond (is_from x (extended_edge by e)) 0 1) 0) (λ e. 0) h (λ e k. one e (is_extended by e) (made_from by x e low k)) none
    ∙ total_zero h
  where
    one : (e : Edge) (b : Bool) → is_from x (extended_edge by e) ≡ true → cond {A = ℕ} b (cond (is_from x (extended_edge by e)) 0 1) 0 ≡ 0
    one e true i = ap (λ c. cond {A = ℕ} c 0 1) i
    one e false i = refl

-- what waited and what is made of edges that come so late is answered at the closing or later, without a history
pub extended_from : (by x u : ℕ) (carried l all answer waiting waiting2 : List Edge) → x ≤ inf → SameBag all (carried ++ l) →
    failing (is_from x) carried ≡ 0 → failing (is_from x) l ≡ 0 → failing (is_from x) waiting ≡ 0 →
    ((w : Edge → ℕ) → total w answer + total w waiting2 ≡ total w waiting + total w (extended_edges by (filter (is_below u) all))) →
    failing (is_from x) answer ≡ 0
extended_from by x u carried l all answer waiting waiting2 low same late come waits moved =
    let all_from : failing (is_from x) all ≡ 0 = failing-same (is_from x) all (carried ++ l) same (failing-append (is_from x) carried l late come) in
    let made : failing (is_from x) (extended_edges by (filter (is_below u) all)) ≡ 0 =
    all_made_from by x (filter (is_below u) all) low (failing-filter (is_below u) (is_from x) all all_from) in
    let moved_from = moved (λ e. cond {A = ℕ} (is_from x e) 0 1) in
    omega (arith, made, moved_from, waits)

-- the answer, and what waits now, are what waited and what is made of the edges that are due
pub extended_step : (by : ℕ) (texts : List (List ℕ)) (x y u v : ℕ) (carried waiting left right out l r all answer waiting2 : List Edge) → x ≤ u → u ≤ inf → y ≤ v → v ≤ inf →
    KeepsExtended by texts x y carried waiting left right out → IsHistory (left ++ l) → IsHistory (right ++ r) → EdgesArePlaced texts (left ++ l) → EdgesArePlaced texts (right ++ r) →
    failing (is_from x) l ≡ 0 → SameBag all (carried ++ l) → KeepsOrder answer → failing (is_below u) answer ≡ 0 → failing (is_from u) waiting2 ≡ 0 →
    ((w : Edge → ℕ) → total w answer + total w waiting2 ≡ total w waiting + total w (extended_edges by (filter (is_below u) all))) →
    KeepsExtended by texts u v (filter (is_from u) all) waiting2 (left ++ l) (right ++ r) (out ++ answer)
extended_step by texts x y u v carried waiting left right out l r all answer waiting2 xu lu yv lv k hl hr pl pr come same ordered below late moved =
    let front : List Edge = filter (is_below u) all in
    let old = (same_order answer).0 ordered in
    let carried_late : failing (is_from x) carried ≡ 0 = failing-same (is_from x) carried (filter (is_from x) left) k.waits (failing-kept (is_from x) left) in
    let from : failing (is_from x) answer ≡ 0 = extended_from by x u carried l all answer waiting waiting2 k.sides.left_low same carried_late come k.late moved in
    record {
      sides = sides_step texts x y u v x u left right out l r answer lu lv xu k.sides hl hr pl pr old.0 old.1 from below;
      late = late;
      made = record {
        weigh = λ w.
            let A : Edge → ℕ = λ e. cond (is_extended by e) (w (extended_edge by e)) 0 in
            let a1 = total-append w (out ++ answer) waiting2 in
            let a2 = total-append w out answer in
            let a3 = k.made.weigh w in
            let a4 = total-append w out waiting in
            let a5 = moved w in
            let a6 = made_weigh by w (filter (is_below x) left) in
            let a7 = made_weigh by w front in
            let a8 = made_weigh by w (filter (is_below u) (left ++ l)) in
            let a9 = parted_below x u xu carried left l all k.waits same A in
            omega (arith, a1, a2, a3, a4, a5, a6, a7, a8, a9);
      };
      waits = record { weigh = parted_from x u xu carried left l all k.waits same };
    }
