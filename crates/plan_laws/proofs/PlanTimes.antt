-- How late the finite times of the nodes of a plan are.
use Rattle.std.specs.Prelude.{◌≡◌, ℕ, ◌+◌, ◌-◌, ◌^◌, ◌<◌, ◌≤◌, max, nat_lt, Bool, true, false, cond, List, [], length}
use Rattle.std.proofs.Common.{arith, ap, inl, inr}
use Rattle.std.proofs.lemmas.Bool.{cases_lt}
use Rattle.std.proofs.lemmas.Option.{slice_get-get_or}
use Rattle.std.proofs.lemmas.Bool.Decides.{nat_tests}
use Rattle.tw_rows.specs.Instant.{inf, later, floor_to}
use Rattle.tw_rows.specs.Event.{Event, alive, AreEvents, cut, Known}
use Rattle.tw_rows.proofs.Bags.{SameBag-refl}
use Rattle.key_nodes.specs.Runs.{Tells}
use Rattle.key_nodes.specs.Sessions.{sessions}
use Rattle.key_nodes.specs.Tops.{top_rows}
use Rattle.plan_model.specs.declared.node.Node.{Node}
use Rattle.plan_model.specs.declared.node.Node.TheVariants.{Source, Where, Select, Union, Delay, Hop, Duration, Extend, Session, Clip, Group, Join, Anti, Coalesce, Mean, Top, Follow}
use Rattle.plan_model.specs.IsPlan.{most_reach, PlanParts, IsPlan}
use Rattle.plan_model.specs.Keys.{value_ops, paired_row}
use Rattle.plan_model.specs.Lives.{moved_one, hopped_one, lasting_one, extended_one, in_sessions}
use Rattle.plan_model.specs.Meaning.{Sources, events, node_events, IsOrdered}
use Rattle.plan_model.specs.Nodes.{event_to, node_in}
use Rattle.plan_model.specs.Reach.{own_duration, node_reach, reach}
use Rattle.plan_model.specs.RowOps.{RowOps, key_in, keys_equal_in, int_in, row_of_group_in}
use Rattle.plan_model.specs.Means.{mean_row}
use Rattle.plan_model.proofs.Causal.{node_in_known}
use Rattle.plan_model.proofs.InOrder.{rows_equal_tells}
use Rattle.plan_model.proofs.Kept.{IsPlan-ordered}
use Rattle.plan_model.proofs.Plans.{by_nodes}
use Rattle.plan_laws.specs.Times.{TimesUpTo}
use Rattle.plan_laws.proofs.StepTimes.{up_to_more, up_to_append, up_to_each, up_to_map, up_to_filter, up_to_with_life, grouped_up_to, alone_up_to, sessions_up_to, clipped_up_to, joined_up_to, alive_after, coalesced_up_to, followed_up_to}
use Rattle.plan_model.proofs.NewLives.{multiple_low}

floor_low : (p s : ℕ) → s < inf → floor_to p s ≤ s
floor_low p s h = let low = multiple_low p s in grind (arith, nat_tests)

floor_past : (p s : ℕ) → inf ≤ s → floor_to p s ≡ inf
floor_past p s h = grind (arith, nat_tests)

module _ {X : Type 0} (ops : RowOps X) (tells : Tells ops.same) where
  sessions_too : (timeout m : ℕ) (key : List ℕ) (es : List (Event (List X))) → TimesUpTo m es →
      TimesUpTo (m + timeout) (in_sessions (key_in ops key) ops.same timeout es)
  sessions_too timeout m key es h = pick (nat_lt 0 timeout)
    where
      pick : (b : Bool) → TimesUpTo (m + timeout) (cond b (sessions (key_in ops key) ops.same timeout es) [])
      pick true = sessions_up_to (key_in ops key) ops.same timeout m es h
      pick false = tt

  hopped_too : (size period m : ℕ) (e : Event (List X)) → e.start ≤ m → TimesUpTo (m + size) (hopped_one size period e)
  hopped_too size period m e a = elim (cases_lt e.start inf) [
    | inl low ↦
        let f = floor_low period e.start low in
        up_to_with_life (m + size) e.row (floor_to period e.start) (later size (floor_to period e.start)) (omega arith)
        (λ l. omega (arith, a, f)) (λ l. omega (arith, a, f, l))
    | inr past ↦
        let f = floor_past period e.start past in
        up_to_with_life (m + size) e.row (floor_to period e.start) (later size (floor_to period e.start)) (omega arith)
        (λ l. absurd (omega (arith, f, l))) (λ l. absurd (omega (arith, f, l)))
  ]

  -- a node's times are later than those that it reads by its own duration at the most
  pub node_up_to : (n : Node) (m : ℕ) (a b : List (Event (List X))) → AreEvents a → AreEvents b → TimesUpTo m a →
      TimesUpTo m b → TimesUpTo (m + own_duration n) (node_in ops n a b)
  node_up_to (Source stream) m a b u v h k = up_to_more m (m + 0) a (omega arith) h
  node_up_to (Where of test) m a b u v h k =
      up_to_more m (m + 0) _ (omega arith) (up_to_filter m (λ e. ops.holds test e.row) a h)
  node_up_to (Select of items) m a b u v h k =
      up_to_map m (m + 0) (event_to (ops.select items))
      (λ e s t. (omega (arith, s), λ l. (let z = t l in omega (arith, z)))) a h
  node_up_to (Union left right) m a b u v h k = up_to_more m (m + 0) _ (omega arith) (up_to_append m a b h k)
  node_up_to (Delay of by) m a b u v h k =
      up_to_each m (m + by) (moved_one by)
      (λ e s t. up_to_with_life (m + by) e.row (later by e.start) (later by e.end) (omega arith)
      (λ l. omega (arith, s)) (λ l. (let z = t (omega (arith, l)) in omega (arith, z)))) a h
  node_up_to (Hop of size period) m a b u v h k =
      up_to_each m (m + size) (hopped_one size period) (λ e s t. hopped_too size period m e s) a h
  node_up_to (Duration of by) m a b u v h k =
      up_to_each m (m + by) (lasting_one by)
      (λ e s t. up_to_with_life (m + by) e.row e.start (later by e.start) (omega arith)
      (λ l. omega (arith, s)) (λ l. omega (arith, s))) a h
  node_up_to (Extend of by) m a b u v h k =
      up_to_each m (m + by) (extended_one by)
      (λ e s t. up_to_with_life (m + by) e.row e.start (later by e.end) (omega arith)
      (λ l. omega (arith, s)) (λ l. (let z = t (omega (arith, l)) in omega (arith, z)))) a h
  node_up_to (Session of timeout key) m a b u v h k = sessions_too timeout m key a h
  node_up_to (Clip left right left_key right_key) m a b u v h k =
      up_to_more m (m + 0) _ (omega arith) (clipped_up_to (keys_equal_in ops left_key right_key) m a b h k)
  node_up_to (Group of key aggs) m a b u v h k =
      up_to_more m (m + 0) _ (omega arith)
      (grouped_up_to (key_in ops key) ops.same ops.same tells (row_of_group_in ops key aggs) m a u h)
  node_up_to (Join left right left_key right_key) m a b u v h k =
      up_to_more m (m + 0) _ (omega arith)
      (joined_up_to (keys_equal_in ops left_key right_key) (paired_row right_key) m a b h k u)
  node_up_to (Anti left right left_key right_key) m a b u v h k =
      up_to_more m (m + 0) _ (omega arith)
      (alone_up_to ops.same tells (keys_equal_in ops left_key right_key) m a b u v h k)
  node_up_to (Coalesce of) m a b u v h k =
      up_to_more m (m + 0) _ (omega arith)
      (coalesced_up_to ops.same (alive a) m (λ t low high. alive_after m t a h u low high))
  node_up_to (Mean of at) m a b u v h k =
      up_to_map m (m + 0) (event_to (mean_row ops at))
      (λ e s t. (omega (arith, s), λ l. (let z = t l in omega (arith, z)))) a h
  node_up_to (Top of key by count) m a b u v h k =
      up_to_more m (m + 0) _ (omega arith)
      (coalesced_up_to ops.same (λ t. top_rows (keys_equal_in ops key key) (int_in ops by) count (alive a t)) m
      (λ t low high. ap (top_rows (keys_equal_in ops key key) (int_in ops by) count) (alive_after m t a h u low high)))
  node_up_to (Follow left right left_key right_key within) m a b u v h k =
      followed_up_to (keys_equal_in ops left_key right_key) (paired_row right_key) within m a b h k

  valid_made : (n : Node) (a b : List (Event (List X))) → AreEvents a → AreEvents b → AreEvents (node_in ops n a b)
  valid_made n a b u v = (node_in_known ops tells n 0 0 a b a b (itself a u) (itself b v)).left_valid
    where
      itself : (es : List (Event (List X))) → AreEvents es → Known 0 es es
      itself es w = record { low = omega arith; left_valid = w; right_valid = w; same = SameBag-refl (cut 0 es) }

  made_up_to : (n : Node) (m x y : ℕ) (a b : List (Event (List X))) → TimesUpTo (m + x) a × AreEvents a →
      TimesUpTo (m + y) b × AreEvents b →
      TimesUpTo (m + node_reach n x y) (node_in ops n a b) × AreEvents (node_in ops n a b)
  made_up_to n m x y a b h k = (
    up_to_more ((m + max x y) + own_duration n) (m + node_reach n x y) _ (omega arith)
        (node_up_to n (m + max x y) a b h.1 k.1 (up_to_more (m + x) (m + max x y) a (omega arith) h.0)
        (up_to_more (m + y) (m + max x y) b (omega arith) k.0)),
    valid_made n a b h.1 k.1,
  )

-- the times of a node's events are later than those of the sources by its reach at the most
pub events_up_to : (m : ℕ) (source : Sources) (nodes : List Node) → IsOrdered nodes → ((s : ℕ) → AreEvents (source s)) →
    ((s : ℕ) → TimesUpTo m (source s)) → (n : ℕ) → TimesUpTo (m + reach nodes n) (events source nodes n)
events_up_to m source nodes ordered valid low n =
    (by_nodes {T = Unit {0}} 0 [] tt (λ s. 0) source (λ s. tt) node_reach node_events (λ n a b. tt)
    (λ x es u. TimesUpTo (m + x) es × AreEvents es) nodes ordered (tt, tt)
    (λ s. (up_to_more m (m + 0) (source s) (omega arith) (low s), valid s))
    (λ i n there left right. made_up_to value_ops rows_equal_tells n m _ _ _ _ left right) n).0

-- so those of a plan whose sources' times are below 2^60 are instants
pub times_are_instants : (source : Sources) (plan : PlanParts) → IsPlan plan → ((s : ℕ) → AreEvents (source s)) →
    ((s : ℕ) → TimesUpTo (2 ^ 60 - 1) (source s)) → (n : ℕ) → n < length plan.nodes →
    TimesUpTo (inf - 1) (events source plan.nodes n)
unfolding inf most_reach
times_are_instants source plan kept valid low n there =
    let e = slice_get-get_or plan.nodes n (Source 0) there in
    let near = (kept.nodes_are.each n _ e).near in
    up_to_more (2 ^ 60 - 1 + reach plan.nodes n) (inf - 1) _ (omega (arith, near))
    (events_up_to (2 ^ 60 - 1) source plan.nodes (IsPlan-ordered plan kept) valid low n)
