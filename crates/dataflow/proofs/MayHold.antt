-- What a node may keep of the edges that came in, and of the events for which these stand.
use Rattle.std.specs.Prelude.{◌≡◌, ℕ, ◌+◌, ◌*◌, ◌≤◌, min, nat_lt, Bool, true, false, cond, List, [], ◌∷◌, map, refl}
use Rattle.std.proofs.Common.{sym, ◌∙◌, ap, mul-zero, arith}
use Rattle.std.proofs.lemmas.Nat.{mul-le}
use Rattle.tw_rows.specs.Instant.{inf, floor_to, later}
use Rattle.tw_rows.specs.Bag.{total}
use Rattle.tw_rows.specs.Event.{Event, alive}
use Rattle.tw_rows.specs.Rows.{Row}
use Rattle.tw_rows.specs.Cells.{read_cells}
use Rattle.tw_rows.specs.declared.cells.Datum.{Datum}
use Rattle.tw_rows.specs.declared.edge.Edge.{Edge}
use Rattle.edge_history.specs.History.{CellEvent, of}
use Rattle.key_nodes.specs.Coalesced.{coalesced}
use Rattle.plan_model.specs.declared.node.Node.{Node}
use Rattle.plan_model.specs.declared.node.Node.TheVariants.{Source, Where, Select, Union, Delay, Hop, Duration, Extend, Session, Clip, Group, Join, Anti, Coalesce, Mean, Top, Follow}
use Rattle.plan_model.specs.Keys.{value_ops}
use Rattle.plan_model.specs.Lives.{hopped, lasting, extended, in_sessions}
use Rattle.plan_model.specs.RowOps.{key_in, keys_equal_in}
use Rattle.plan_model.specs.Meaning.{node_events, node_closes, closes, right_of}
use Rattle.plan_model.specs.Nodes.{event_to, node_in}
use Rattle.plan_model.proofs.NodeLaws.{node_known}
use Rattle.plan_laws.specs.Held.{reaching, agg_count, counts_answers, counted_from, waiting, may_hold}
use Rattle.edge_stream.specs.Standing.{own_kept}
use Rattle.plan_laws.proofs.Lives.{new_lives}
use Rattle.plan_laws.specs.Keeping.{plain_cells}
use Rattle.plan_laws.specs.Places.{AreDistinct, read_of}
use Rattle.plan_laws.specs.Readings.{has_expressions}
use Rattle.plan_laws.specs.Standing.{StandsRead}
use Rattle.plan_laws.proofs.Places.{place_law}
use Rattle.plan_laws.proofs.Standing.{placed_of}
use Rattle.dataflow.proofs.CoalescedStarts.{coalesced_start, coalesced_none}
use Rattle.dataflow.proofs.Counting.{StartBelow, known_le, start_steady, reach_known, reach_map, start_map, hop_known, lasting_known, extended_known, sessions_start, clip_known, of_start}

-- HOW FAR BACK EVENTS COUNT
pub closing_low : (nodes : List Node) (p : ℕ) (n : Node) (x : ℕ) → x ≤ inf → counted_from n x (node_closes n x (right_of inf (λ k. closes nodes k p) n)) ≤ x
closing_low nodes p (Source stream) x low = omega arith
closing_low nodes p (Where child test) x low = omega arith
closing_low nodes p (Select child items) x low = omega arith
closing_low nodes p (Union left right) x low = omega arith
closing_low nodes p (Delay child by) x low = omega arith
closing_low nodes p (Hop child size period) x low = (new_lives (Hop 0 size period) refl).cut_low x low
closing_low nodes p (Duration child by) x low = omega arith
closing_low nodes p (Extend child by) x low = omega arith
closing_low nodes p (Session child timeout key) x low = omega arith
closing_low nodes p (Clip left right left_key right_key) x low = omega arith
closing_low nodes p (Group child key aggs) x low = omega arith
closing_low nodes p (Join left right left_key right_key) x low = omega arith
closing_low nodes p (Anti left right left_key right_key) x low = omega arith
closing_low nodes p (Coalesce child) x low = omega arith
closing_low nodes p (Mean child at) x low = omega arith
closing_low nodes p (Top child key by count) x low = omega arith
closing_low nodes p (Follow left right left_key right_key within) x low = omega arith

-- on the right too, where nothing is read there up to infinity
pub right_low : (nodes : List Node) (p : ℕ) (n : Node) (x : ℕ) → x ≤ inf →
    counted_from n x (node_closes n x (right_of inf (λ k. closes nodes k p) n)) ≤ right_of inf (λ k. closes nodes k p) n
right_low nodes p (Source stream) x low = low
right_low nodes p (Where child test) x low = low
right_low nodes p (Select child items) x low = low
right_low nodes p (Union left right) x low = omega arith
right_low nodes p (Delay child by) x low = low
right_low nodes p (Hop child size period) x low = (let f = (new_lives (Hop 0 size period) refl).cut_low x low in omega (arith, f, low))
right_low nodes p (Duration child by) x low = low
right_low nodes p (Extend child by) x low = low
right_low nodes p (Session child timeout key) x low = low
right_low nodes p (Clip left right left_key right_key) x low = omega arith
right_low nodes p (Group child key aggs) x low = low
right_low nodes p (Join left right left_key right_key) x low = omega arith
right_low nodes p (Anti left right left_key right_key) x low = omega arith
right_low nodes p (Coalesce child) x low = low
right_low nodes p (Mean child at) x low = low
right_low nodes p (Top child key by count) x low = low
right_low nodes p (Follow left right left_key right_key within) x low = omega arith

-- WHAT COUNTS OF THE NODE ITSELF
waits_none : (R : Type 0) (n : Node) (c : ℕ) → waiting {R = R} n c [] ≡ 0
waits_none R (Source stream) c = refl
waits_none R (Where child test) c = refl
waits_none R (Select child items) c = refl
waits_none R (Union left right) c = refl
waits_none R (Delay child by) c = refl
waits_none R (Hop child size period) c = refl
waits_none R (Duration child by) c = refl
waits_none R (Extend child by) c = refl
waits_none R (Session child timeout key) c = refl
waits_none R (Clip left right left_key right_key) c = refl
waits_none R (Group child key aggs) c = refl
waits_none R (Join left right left_key right_key) c = refl
waits_none R (Anti left right left_key right_key) c = refl
waits_none R (Coalesce child) c = refl
waits_none R (Mean child at) c = refl
waits_none R (Top child key by count) c = refl
waits_none R (Follow left right left_key right_key within) c = refl

own_none : (n : Node) → (c : ℕ) → cond (counts_answers n) (reaching c (own_kept n [] [])) 0 ≡ 0
own_none (Source stream) c = refl
own_none (Where child test) c = refl
own_none (Select child items) c = refl
own_none (Union left right) c = refl
own_none (Delay child by) c = refl
own_none (Hop child size period) c = refl
own_none (Duration child by) c = refl
own_none (Extend child by) c = refl
own_none (Session child timeout key) c = pick (nat_lt 0 timeout)
  where
    pick : (b : Bool) → reaching c (cond {A = List CellEvent} b [] []) ≡ 0
    pick true = refl
    pick false = refl
own_none (Clip left right left_key right_key) c = refl
own_none (Group child key aggs) c = refl
own_none (Join left right left_key right_key) c = refl
own_none (Anti left right left_key right_key) c = refl
own_none (Coalesce child) c = ap (reaching c) (coalesced_none plain_cells.same (alive []) (λ t. refl))
own_none (Mean child at) c = refl
own_none (Top child key by count) c = refl
own_none (Follow left right left_key right_key within) c = refl

-- of no edges a node may keep nothing
pub none_held : (n : Node) → (x c : ℕ) → may_hold {L = List Datum} {R = List Datum} n x c [] [] (own_kept n [] []) ≡ 0
none_held n x c =
    let own = own_none n c in
    let waits = waits_none (List Datum) n c in
    let none : (0 + 0) + cond (counts_answers n) (reaching c (own_kept n [] [])) 0 + waiting {R = List Datum} n c [] ≡ 0 = omega (arith, own, waits) in
    ap (λ k. (4 + agg_count n) * k) none ∙ mul-zero (4 + agg_count n)

-- a weight by start alone, of events whose rows are replaced
start_weigh : {R S : Type 0} (v : ℕ → ℕ) (f : Event R → Event S) → ((e : Event R) → (f e).start ≡ e.start) → (es : List (Event R)) →
    total (λ e. v e.start) (map f es) ≡ total (λ e. v e.start) es
start_weigh v f same [] = refl
start_weigh v f same (e ∷ es) = (let a = ap v (same e) in let b = start_weigh v f same es in omega (arith, a, b))

-- THE EDGES OF BOTH SIDES, AND THE EVENTS FOR WHICH THEY STAND
module _ (texts : List (List ℕ)) (distinct : AreDistinct texts) (x y : ℕ) (hl hr : List Edge) (left right : List (Event Row)) (l : StandsRead texts x hl left) (r : StandsRead texts y hr right) where
  starts : StartBelow x (read_of texts hl)
  starts = start_map x (event_to (read_cells texts)) (λ e. refl) (of hl) (of_start x hl l.below)

  starts_right : StartBelow y (read_of texts hr)
  starts_right = start_map y (event_to (read_cells texts)) (λ e. refl) (of hr) (of_start y hr r.below)

  left_le : (m : ℕ) → m ≤ x → reaching m (of hl) ≤ reaching m left
  left_le m low =
      let a : reaching m (read_of texts hl) ≡ reaching m (of hl) = reach_map m (event_to (read_cells texts)) (λ e. refl) (of hl) in
      let b = reach_known m x (read_of texts hl) left low starts l.known in
      omega (arith, a, b)

  right_le : (m : ℕ) → m ≤ y → reaching m (of hr) ≤ reaching m right
  right_le m low =
      let a : reaching m (read_of texts hr) ≡ reaching m (of hr) = reach_map m (event_to (read_cells texts)) (λ e. refl) (of hr) in
      let b = reach_known m y (read_of texts hr) right low starts_right r.known in
      omega (arith, a, b)

  read_own : (n : Node) → has_expressions n ≡ false → (m : ℕ) → reaching m (node_in plain_cells n (of hl) (of hr)) ≡ reaching m (node_events n (read_of texts hl) (read_of texts hr))
  read_own n plain m =
      sym (reach_map m (event_to (read_cells texts)) (λ e. refl) (node_in plain_cells n (of hl) (of hr)))
      ∙ ap (reaching m) (sym (place_law (λ test row. false) (λ items row. row) texts distinct n (of hl) (of hr) plain (placed_of texts hl l.placed) (placed_of texts hr r.placed)))

  own_le : (n : Node) → cond (counts_answers n) (reaching (node_closes n x y) (own_kept n (of hl) (of hr))) 0 ≤ cond (counts_answers n) (reaching (node_closes n x y) (node_events n left right)) 0
  own_le (Source stream) = omega arith
  own_le (Where child test) = omega arith
  own_le (Select child items) = omega arith
  own_le (Union one two) = omega arith
  own_le (Delay child by) = omega arith
  own_le (Hop child size period) =
      let a : reaching (floor_to period x) (hopped size period (of hl)) ≡ reaching (floor_to period x) (hopped size period (read_of texts hl)) = read_own (Hop child size period) refl (floor_to period x) in
      let b = hop_known size period (floor_to period x) x (read_of texts hl) left starts l.known in
      omega (arith, a, b)
  own_le (Duration child by) =
      let a : reaching x (lasting by (of hl)) ≡ reaching x (lasting by (read_of texts hl)) = read_own (Duration child by) refl x in
      let b = lasting_known by x x (read_of texts hl) left starts l.known in
      omega (arith, a, b)
  own_le (Extend child by) =
      let a : reaching x (extended by (of hl)) ≡ reaching x (extended by (read_of texts hl)) = read_own (Extend child by) refl x in
      let b = extended_known by x (read_of texts hl) left starts l.known in
      omega (arith, a, b)
  own_le (Session child timeout key) =
      let a = read_own (Session child timeout key) refl x in
      let b = reach_known x x (in_sessions (key_in value_ops key) value_ops.same timeout (read_of texts hl)) (in_sessions (key_in value_ops key) value_ops.same timeout left) (omega arith)
      (sessions_start (key_in value_ops key) value_ops.same timeout x (read_of texts hl) starts)
      (node_known (Session child timeout key) x y (read_of texts hl) (read_of texts hr) left right l.known r.known) in
      omega (arith, a, b)
  own_le (Clip one two left_key right_key) =
      let a = read_own (Clip one two left_key right_key) refl (min x y) in
      let b = clip_known (keys_equal_in value_ops left_key right_key) x (min x y) (read_of texts hl) left (read_of texts hr) right starts l.known
      (node_known (Clip one two left_key right_key) x y (read_of texts hl) (read_of texts hr) left right l.known r.known) in
      omega (arith, a, b)
  own_le (Group child key aggs) = omega arith
  own_le (Join one two left_key right_key) = omega arith
  own_le (Anti one two left_key right_key) = omega arith
  own_le (Coalesce child) =
      let a = read_own (Coalesce child) refl x in
      let b = reach_known x x (coalesced value_ops.same (alive (read_of texts hl))) (coalesced value_ops.same (alive left)) (omega arith)
      (coalesced_start value_ops.same x (read_of texts hl) starts)
      (node_known (Coalesce child) x y (read_of texts hl) (read_of texts hr) left right l.known r.known) in
      omega (arith, a, b)
  own_le (Mean child at) = omega arith
  own_le (Top child key by count) = omega arith
  own_le (Follow one two left_key right_key within) = omega arith

  -- a Follow may keep left events that were not followed yet
  waits_le : (n : Node) (c : ℕ) → waiting n c (of hl) ≤ waiting n c left
  waits_le (Source stream) c = omega arith
  waits_le (Where child test) c = omega arith
  waits_le (Select child items) c = omega arith
  waits_le (Union one two) c = omega arith
  waits_le (Delay child by) c = omega arith
  waits_le (Hop child size period) c = omega arith
  waits_le (Duration child by) c = omega arith
  waits_le (Extend child by) c = omega arith
  waits_le (Session child timeout key) c = omega arith
  waits_le (Clip one two left_key right_key) c = omega arith
  waits_le (Group child key aggs) c = omega arith
  waits_le (Join one two left_key right_key) c = omega arith
  waits_le (Anti one two left_key right_key) c = omega arith
  waits_le (Coalesce child) c = omega arith
  waits_le (Mean child at) c = omega arith
  waits_le (Top child key by count) c = omega arith
  waits_le (Follow one two left_key right_key within) c =
      let v : ℕ → ℕ = λ s. cond (nat_lt c (later within s)) 1 0 in
      let a = start_weigh v (event_to (read_cells texts)) (λ e. refl) (of hl) in
      let b = known_le (λ e. v e.start) x (start_steady (λ e. v e.start) x (λ row s u v. refl)) (read_of texts hl) left starts l.known in
      omega (arith, a, b)

  -- of the edges a node may keep no more than of the events
  pub may_le : (n : Node) → counted_from n x (node_closes n x y) ≤ x → counted_from n x (node_closes n x y) ≤ y →
      may_hold n x (node_closes n x y) (of hl) (of hr) (own_kept n (of hl) (of hr)) ≤ may_hold n x (node_closes n x y) left right (node_events n left right)
  may_le n low high =
      let c = node_closes n x y in
      let m = counted_from n x c in
      let p = left_le m low in
      let q = right_le m high in
      let o = own_le n in
      let w = waits_le n c in
      mul-le (4 + agg_count n) ((reaching m (of hl) + reaching m (of hr)) + cond (counts_answers n) (reaching c (own_kept n (of hl) (of hr))) 0 + waiting n c (of hl))
      (4 + agg_count n) ((reaching m left + reaching m right) + cond (counts_answers n) (reaching c (node_events n left right)) 0 + waiting n c left)
      (omega arith) (omega (arith, p, q, o, w))
