-- What a Union answers, and what is kept of it from step to step.
use Rattle.std.specs.Prelude.{◌≡◌, ℕ, ◌+◌, ◌≤◌, min, false, List, [], ◌++◌, length, filter, refl}
use Rattle.std.proofs.Common.{arith}
use Rattle.std.proofs.lemmas.List.Elements.{All-nil}
use Rattle.tw_rows.specs.Cells.{ArePlaced}
use Rattle.tw_rows.specs.Instant.{inf}
use Rattle.tw_rows.specs.Bag.{SameBag, total}
use Rattle.tw_rows.specs.Texts.{BeginsWith}
use Rattle.tw_rows.specs.declared.edge.Edge.{Edge}
use Rattle.tw_rows.proofs.Bags.{SameBag-refl, total-append, total-flat_map}
use Rattle.edge_history.specs.Order.{failing, is_real, is_below, is_from, IsHistory, KeepsOrder}
use Rattle.edge_history.specs.History.{of}
use Rattle.edge_history.specs.Balance.{news_of, news}
use Rattle.edge_history.specs.Opens.{singles_of, singles}
use Rattle.edge_history.proofs.Agreeing.{same_order}
use Rattle.edge_history.proofs.Ahead.{time_parts}
use Rattle.edge_history.proofs.Opening.{singles_are_news}
use Rattle.edge_history.proofs.Retaining.{events_of_are}
use Rattle.edge_history.proofs.Sums.{weaker, failing-append, failing-same, failing-filter, failing-kept}
use Rattle.edge_history.proofs.Telling.{order_from}
use Rattle.plan_model.specs.declared.node.Node.TheVariants.{Union}
use Rattle.plan_model.specs.Meaning.{node_events}
use Rattle.plan_laws.specs.Held.{may_hold}
use Rattle.plan_model.specs.Nodes.{node_in}
use Rattle.plan_laws.specs.Keeping.{KeepsAhead, plain_cells}
use Rattle.plan_laws.specs.Places.{AreDistinct, EdgesArePlaced, read_of}
use Rattle.plan_laws.specs.Standing.{StandsRead}
use Rattle.plan_laws.proofs.Standing.{no_history, placed_longer}
use Rattle.plan_laws.proofs.StepsAhead.{ahead_read}
use Rattle.plan_laws.proofs.Bound.{late_bound}
use Rattle.plan_laws.proofs.Sides.{sides_first, sides_longer, sides_step}
use Rattle.plan_laws.proofs.LifeSteps.{from_earlier, parted_below, parted_from}
use Rattle.plan_laws.proofs.Telling.{shown_tells, singles_late}
use Rattle.plan_laws.specs.Uniting.{KeepsUnion}

-- the single edges of a history before a time and from it on are its news
history_shown : (c : ℕ) (h : List Edge) → IsHistory h → (w : Edge → ℕ) →
    total (λ e. total w (singles_of e)) (filter (is_below c) h) + total w (singles (filter (is_from c) h)) ≡ total w (news 0 inf (of h))
history_shown c h history w =
    let a1 = time_parts (λ e. total w (singles_of e)) c h in
    let a2 = total-flat_map w singles_of (filter (is_from c) h) in
    let a3 = total-flat_map w singles_of h in
    let a4 = (singles_are_news h (of h) history.real (events_of_are h history)).weigh w in
    omega (arith, a1, a2, a3, a4)

pub union_ahead : (texts : List (List ℕ)) (x y : ℕ) (left_carried right_carried left right out : List Edge) →
    KeepsUnion texts x y left_carried right_carried left right out → KeepsAhead plain_cells (Union 0 1) texts x y left right out
union_ahead texts x y left_carried right_carried left right out k =
    let c : ℕ = min x y in
    record {
      left_history = k.sides.left_history;
      right_history = k.sides.right_history;
      left_placed = k.sides.left_placed;
      right_placed = k.sides.right_placed;
      told = shown_tells c (let l = k.sides.left_low in omega (arith, l)) (of left ++ of right) out (λ w. total w (singles (filter (is_from c) left)) + total w (singles (filter (is_from c) right))) k.sides.order k.sides.real k.sides.below
          (λ w.
          let a1 = total-flat_map w singles_of out in
          let a2 = k.told.weigh (λ e. total w (singles_of e)) in
          let a3 = total-append (λ (e : Edge). total w (singles_of e)) (filter (is_below c) left) (filter (is_below c) right) in
          let a4 = history_shown c left k.sides.left_history w in
          let a5 = history_shown c right k.sides.right_history w in
          let a6 = total-flat_map w (news_of 0 inf) (of left ++ of right) in
          let a7 = total-append (λ v. total w (news_of 0 inf v)) (of left) (of right) in
          let a8 = total-flat_map w (news_of 0 inf) (of left) in
          let a9 = total-flat_map w (news_of 0 inf) (of right) in
          omega (arith, a1, a2, a3, a4, a5, a6, a7, a8, a9))
          (λ w.
          let a = singles_late w c (filter (is_from c) left) (failing-kept (is_from c) left) in
          let b = singles_late w c (filter (is_from c) right) (failing-kept (is_from c) right) in
          omega (arith, a, b));
    }

union_first : (texts : List (List ℕ)) → KeepsUnion texts 0 0 [] [] [] [] []
union_first texts = record {
  sides = sides_first texts _;
  told = SameBag-refl [];
  left_waits = SameBag-refl [];
  right_waits = SameBag-refl [];
}

pub union_opening : (texts : List (List ℕ)) (x y : ℕ) (left_carried right_carried : List Edge) → left_carried ≡ [] → right_carried ≡ [] → x ≡ 0 → y ≡ 0 → KeepsUnion texts x y left_carried right_carried [] [] []
union_opening texts x y left_carried right_carried a b c d = rw (a, b, c, d) (union_first texts)

pub union_longer : (new old : List (List ℕ)) (x y : ℕ) (left_carried right_carried left right out : List Edge) → BeginsWith new old →
    KeepsUnion old x y left_carried right_carried left right out → KeepsUnion new x y left_carried right_carried left right out
union_longer new old x y left_carried right_carried left right out b k = record {
  sides = sides_longer new old x y (min x y) left right out b k.sides;
  told = k.told;
  left_waits = k.left_waits;
  right_waits = k.right_waits;
}

pub union_rows : (texts : List (List ℕ)) (x y : ℕ) (left_carried right_carried left right out : List Edge) → AreDistinct texts →
    KeepsUnion texts x y left_carried right_carried left right out → StandsRead texts (min x y) out (node_events (Union 0 1) (read_of texts left) (read_of texts right))
union_rows texts x y left_carried right_carried left right out apart k =
    ahead_read (λ test row. false) (λ items row. row) (Union 0 1) texts x y left right out refl apart k.sides.left_low k.sides.right_low (union_ahead texts x y left_carried right_carried left right out k)

-- at most two edges are carried for each event that does not end before the lesser time
pub union_bound : (texts : List (List ℕ)) (x y n : ℕ) (left_carried right_carried left right out : List Edge) → n ≤ length left_carried + length right_carried →
    KeepsUnion texts x y left_carried right_carried left right out → n ≤ may_hold (Union 0 1) x (min x y) (of left) (of right) (node_in plain_cells (Union 0 1) (of left) (of right))
union_bound texts x y n left_carried right_carried left right out few k =
    let a = late_bound (min x y) left left_carried k.sides.left_history k.left_waits in
    let b = late_bound (min x y) right right_carried k.sides.right_history k.right_waits in
    omega (arith, a, b, few)

-- all edges of one side, those that were carried and new ones, come at the closing or later
side_from : (c x : ℕ) (carried l all : List Edge) → c ≤ x → SameBag all (carried ++ l) → failing (is_from c) carried ≡ 0 → failing (is_from x) l ≡ 0 → failing (is_from c) all ≡ 0
side_from c x carried l all low same late come =
    failing-same (is_from c) all (carried ++ l) same (failing-append (is_from c) carried l late (weaker (is_from x) (is_from c) l (λ e k. from_earlier c x e low k) come))

-- a step without a history: what is carried and what comes comes so late that what is answered comes between the closings
pub union_between : (x y u v : ℕ) (left_carried right_carried l r left_all right_all answer : List Edge) →
    SameBag left_all (left_carried ++ l) → SameBag right_all (right_carried ++ r) →
    SameBag answer (filter (is_below (min u v)) left_all ++ filter (is_below (min u v)) right_all) →
    failing (is_from (min x y)) left_carried ≡ 0 → failing (is_from (min x y)) right_carried ≡ 0 → failing (is_from x) l ≡ 0 → failing (is_from y) r ≡ 0 →
    (failing (is_from (min x y)) answer ≡ 0) × (failing (is_below (min u v)) answer ≡ 0)
union_between x y u v left_carried right_carried l r left_all right_all answer left_same right_same parts left_late right_late come_left come_right =
    let c : ℕ = min x y in
    let d : ℕ = min u v in
    let fl : List Edge = filter (is_below d) left_all in
    let fr : List Edge = filter (is_below d) right_all in
    let left_from = side_from c x left_carried l left_all (omega arith) left_same left_late come_left in
    let right_from = side_from c y right_carried r right_all (omega arith) right_same right_late come_right in (
      failing-same (is_from c) answer (fl ++ fr) parts (failing-append (is_from c) fl fr
          (failing-filter (is_below d) (is_from c) left_all left_from) (failing-filter (is_below d) (is_from c) right_all right_from)),
      failing-same (is_below d) answer (fl ++ fr) parts (failing-append (is_below d) fl fr (failing-kept (is_below d) left_all) (failing-kept (is_below d) right_all)),
    )

pub union_step : (texts : List (List ℕ)) (x y u v : ℕ) (left_carried right_carried left right out l r left_all right_all answer : List Edge) → x ≤ u → u ≤ inf → y ≤ v → v ≤ inf →
    KeepsUnion texts x y left_carried right_carried left right out → IsHistory (left ++ l) → IsHistory (right ++ r) → EdgesArePlaced texts (left ++ l) → EdgesArePlaced texts (right ++ r) →
    failing (is_from x) l ≡ 0 → failing (is_from y) r ≡ 0 → SameBag left_all (left_carried ++ l) → SameBag right_all (right_carried ++ r) → KeepsOrder answer →
    SameBag answer (filter (is_below (min u v)) left_all ++ filter (is_below (min u v)) right_all) →
    KeepsUnion texts u v (filter (is_from (min u v)) left_all) (filter (is_from (min u v)) right_all) (left ++ l) (right ++ r) (out ++ answer)
union_step texts x y u v left_carried right_carried left right out l r left_all right_all answer xu lu yv lv k hl hr pl pr come_left come_right left_same right_same ordered parts =
    let c : ℕ = min x y in
    let d : ℕ = min u v in
    let rising : c ≤ d = omega (arith, xu, yv) in
    let old = (same_order answer).0 ordered in
    let fl : List Edge = filter (is_below d) left_all in
    let fr : List Edge = filter (is_below d) right_all in
    let left_late = failing-same (is_from c) left_carried (filter (is_from c) left) k.left_waits (failing-kept (is_from c) left) in
    let right_late = failing-same (is_from c) right_carried (filter (is_from c) right) k.right_waits (failing-kept (is_from c) right) in
    let between = union_between x y u v left_carried right_carried l r left_all right_all answer left_same right_same parts left_late right_late come_left come_right in
    record {
      sides = sides_step texts x y u v c d left right out l r answer lu lv rising k.sides hl hr pl pr old.0 old.1 between.0 between.1;
      told = record {
        weigh = λ w.
            let a1 = total-append w out answer in
            let a2 = k.told.weigh w in
            let a3 = total-append w (filter (is_below c) left) (filter (is_below c) right) in
            let a4 = parts.weigh w in
            let a5 = total-append w fl fr in
            let a6 = parted_below c d rising left_carried left l left_all k.left_waits left_same w in
            let a7 = parted_below c d rising right_carried right r right_all k.right_waits right_same w in
            let a8 = total-append w (filter (is_below d) (left ++ l)) (filter (is_below d) (right ++ r)) in
            omega (arith, a1, a2, a3, a4, a5, a6, a7, a8);
      };
      left_waits = record { weigh = parted_from c d rising left_carried left l left_all k.left_waits left_same };
      right_waits = record { weigh = parted_from c d rising right_carried right r right_all k.right_waits right_same };
    }
