-- What the nodes of a plan may keep of the edges that were given and answered, and of the events of its sources.
use Rattle.std.specs.Prelude.{◌≡◌, ℕ, zero, suc, ◌<◌, ◌≤◌, nat_lt, cond, Bool, true, false, Option, Some, None, List, [], length, get_or, slice_get, refl}
use Rattle.std.proofs.Common.{sym, ◌∙◌, ap, subst, arith}
use Rattle.std.proofs.lemmas.Option.{slice_get-get_or}
use Rattle.tw_rows.specs.Instant.{inf}
use Rattle.tw_rows.specs.Event.{Event, alive}
use Rattle.tw_rows.specs.Rows.{Row}
use Rattle.tw_rows.specs.declared.edge.Edge.{Edge}
use Rattle.edge_history.specs.History.{of}
use Rattle.plan_model.specs.declared.node.Node.{Node}
use Rattle.plan_model.specs.declared.node.Node.TheVariants.{Source, Where, Select, Union, Delay, Hop, Duration, Extend, Session, Clip, Group, Join, Anti, Coalesce, Mean, Top, Follow}
use Rattle.key_nodes.specs.Tops.{top_rows}
use Rattle.plan_model.specs.Keys.{value_ops}
use Rattle.plan_model.specs.RowOps.{keys_equal_in, int_in}
use Rattle.plan_model.specs.Shape.{Shape, Stream, One, Two, shape, at_child, right_child, read_left, IsOrdered}
use Rattle.plan_model.specs.Meaning.{Sources, node_events, node_closes, closes, events, left_of, right_of}
use Rattle.edge_stream.specs.Standing.{own_kept}
use Rattle.plan_model.proofs.Plans.{over_nodes-is}
use Rattle.plan_laws.specs.Held.{may_hold, may_hold_of, node_may_hold}
use Rattle.plan_laws.specs.Places.{AreDistinct, read_of}
use Rattle.plan_laws.specs.Standing.{StandsRead, SourcesStandRead, AllStandRead}
use Rattle.plan_laws.proofs.Standing.{none_stand}
use Rattle.plan_laws.proofs.Through.{left_stands, right_stands, node_stands, all_more}
use Rattle.dataflow.specs.Stages.{left_closing, right_closing}
use Rattle.dataflow.proofs.CoalescedStarts.{coalesced_none}
use Rattle.dataflow.proofs.MayHold.{closing_low, right_low, none_held, may_le}

-- NOTHING IS READ OF NO EDGES
left_none : (given lists : ℕ → List Edge) → ((k : ℕ) → given k ≡ []) → ((k : ℕ) → lists k ≡ []) → (s : Shape) → read_left [] given lists s ≡ []
left_none given lists g l (Stream stream) = g stream
left_none given lists g l (One child) = l child
left_none given lists g l (Two left right) = l left

right_none : (lists : ℕ → List Edge) → ((k : ℕ) → lists k ≡ []) → (child : Option ℕ) → at_child [] lists child ≡ []
right_none lists l None = refl
right_none lists l (Some k) = l k

pub none_held_of : (given lists : ℕ → List Edge) → ((k : ℕ) → given k ≡ []) → ((k : ℕ) → lists k ≡ []) → (n : Node) → (x c : ℕ) →
    may_hold n x c (of (left_of [] given lists n)) (of (right_of [] lists n)) (own_kept n (of (left_of [] given lists n)) (of (right_of [] lists n))) ≡ 0
none_held_of given lists g l n x c =
    (λ i. may_hold n x c (of (left_none given lists g l (shape n) i)) (of (right_none lists l (right_child n) i)) (own_kept n (of (left_none given lists g l (shape n) i)) (of (right_none lists l (right_child n) i))))
    ∙ none_held n x c

-- so a node means nothing of no edges, up to any time
no_events : (n : Node) → node_events n [] [] ≡ []
no_events (Source stream) = refl
no_events (Where child test) = refl
no_events (Select child items) = refl
no_events (Union left right) = refl
no_events (Delay child by) = refl
no_events (Hop child size period) = refl
no_events (Duration child by) = refl
no_events (Extend child by) = refl
no_events (Session child timeout key) = pick (nat_lt 0 timeout)
  where
    pick : (b : Bool) → cond {A = List (Event Row)} b [] [] ≡ []
    pick true = refl
    pick false = refl
no_events (Clip left right left_key right_key) = refl
no_events (Group child key aggs) = refl
no_events (Join left right left_key right_key) = refl
no_events (Anti left right left_key right_key) = refl
no_events (Coalesce child) = coalesced_none value_ops.same (alive []) (λ t. refl)
no_events (Mean child at) = refl
no_events (Top child key by count) = coalesced_none value_ops.same (λ t. top_rows (keys_equal_in value_ops key key) (int_in value_ops by) count (alive [] t)) (λ t. refl)
no_events (Follow left right left_key right_key within) = refl

nothing_stands : (texts : List (List ℕ)) (n : Node) → (c : ℕ) → c ≤ inf → StandsRead texts c [] (node_events n (read_of texts []) (read_of texts []))
nothing_stands texts n c low = subst (StandsRead texts c []) (sym (no_events n)) (none_stand texts c low)

pub first_stands : (texts : List (List ℕ)) (given lists : ℕ → List Edge) → ((k : ℕ) → given k ≡ []) → ((k : ℕ) → lists k ≡ []) → (n : Node) → (c : ℕ) → c ≤ inf → (i : ℕ) →
    StandsRead texts c (lists i) (node_events n (read_of texts (left_of [] given lists n)) (read_of texts (right_of [] lists n)))
first_stands texts given lists g l n c low i =
    subst (λ out. StandsRead texts c out (node_events n (read_of texts (left_of [] given lists n)) (read_of texts (right_of [] lists n)))) (sym (l i))
    (subst (λ x. StandsRead texts c [] (node_events n (read_of texts x) (read_of texts (right_of [] lists n)))) (sym (left_none given lists g l (shape n)))
    (subst (λ y. StandsRead texts c [] (node_events n (read_of texts []) (read_of texts y))) (sym (right_none lists l (right_child n))) (nothing_stands texts n c low)))

-- WHAT STANDS
module _ (texts : List (List ℕ)) (distinct : AreDistinct texts) (nodes : List Node) (ordered : IsOrdered nodes) (p : ℕ) (source : Sources) (given lists : ℕ → List Edge) (from : SourcesStandRead texts p source given)
    (answers : (i : ℕ) (n : Node) → slice_get nodes i ≡ Some n → StandsRead texts (node_closes n (left_closing nodes p n) (right_closing nodes p n)) (lists i) (node_events n (read_of texts (left_of [] given lists n)) (read_of texts (right_of [] lists n)))) where
  pub through : (i : ℕ) → i ≤ length nodes → AllStandRead texts nodes p source lists i
  through zero low = λ k lower. absurd (omega (arith, lower))
  through (suc i) low =
      let n = get_or nodes i (Source 0) in
      let there = slice_get-get_or nodes i (Source 0) (omega arith) in
      let before = through i (omega arith) in
      all_more texts nodes p source lists i before (node_stands texts nodes ordered p source given lists from i n there before (answers i n there))

  -- what a node may keep of its edges is no more than what it may of the events
  pub held_of_events : (i : ℕ) (n : Node) → slice_get nodes i ≡ Some n → i < length nodes →
      may_hold n (left_closing nodes p n) (node_closes n (left_closing nodes p n) (right_closing nodes p n)) (of (left_of [] given lists n)) (of (right_of [] lists n)) (own_kept n (of (left_of [] given lists n)) (of (right_of [] lists n)))
      ≤ node_may_hold source nodes p i
  held_of_events i n there low =
      let before = through i (omega arith) in
      let l = left_stands texts nodes ordered p source given lists from i n there before in
      let r = right_stands texts nodes ordered p source given lists from i n there before in
      let le = may_le texts distinct (left_closing nodes p n) (right_closing nodes p n) (left_of [] given lists n) (right_of [] lists n) (left_of [] source (events source nodes) n) (right_of [] (events source nodes) n) l r n
      (closing_low nodes p n (left_closing nodes p n) l.known.low) (right_low nodes p n (left_closing nodes p n) l.known.low) in
      let closed : closes nodes i p ≡ node_closes n (left_closing nodes p n) (right_closing nodes p n) = over_nodes-is inf (λ s. p) node_closes nodes ordered i n there in
      let own : events source nodes i ≡ node_events n (left_of [] source (events source nodes) n) (right_of [] (events source nodes) n) = over_nodes-is [] source node_events nodes ordered i n there in
      subst (λ m. may_hold n (left_closing nodes p n) (node_closes n (left_closing nodes p n) (right_closing nodes p n)) (of (left_of [] given lists n)) (of (right_of [] lists n)) (own_kept n (of (left_of [] given lists n)) (of (right_of [] lists n))) ≤ m)
      (sym (ap (may_hold_of source nodes p i) there ∙ (λ j. may_hold n (left_closing nodes p n) (closed j) (left_of [] source (events source nodes) n) (right_of [] (events source nodes) n) (own j)))) le
