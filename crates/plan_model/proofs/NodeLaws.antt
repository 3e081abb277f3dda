-- Of each kind of node: its events agree with its rows, and what is known of its events depends on what is known of its
-- children's.
use Rattle.std.specs.Prelude.{◌≡◌, ℕ, ◌+◌, ◌<◌, Bool, true, false, cond, List, ◌++◌, map, filter, flat_map, refl}
use Rattle.std.proofs.Common.{sym, ◌∙◌, ap}
use Rattle.std.proofs.lemmas.Bool.{and_parts}
use Rattle.tw_rows.specs.Instant.{inf}
use Rattle.tw_rows.specs.Bag.{total, SameBag}
use Rattle.tw_rows.specs.Event.{Event, lives_at, alive, AreEvents, Known}
use Rattle.tw_rows.specs.Rows.{Row}
use Rattle.tw_rows.proofs.Bags.{total-append, total-map, total-filter, total_same, SameBag-refl, SameBag-trans, SameBag-append, SameBag-map, SameBag-filter, SameBag-flat_map}
use Rattle.tw_rows.proofs.Lives.{total-alive}
use Rattle.key_nodes.specs.Tops.{top_rows}
use Rattle.key_nodes.proofs.Grouping.{alive_grouped}
use Rattle.key_nodes.proofs.Alone.{alive_alone}
use Rattle.key_nodes.proofs.Coalescing.{coalesced_same}
use Rattle.key_nodes.proofs.CoalescedRows.{coalesced_rows}
use Rattle.key_nodes.proofs.Topping.{top_rows_same}
use Rattle.plan_model.specs.declared.expr.ExprNode.{ExprNode}
use Rattle.plan_model.specs.declared.node.Node.{Node}
use Rattle.plan_model.specs.declared.node.Node.TheVariants.{Source, Where, Select, Union, Delay, Hop, Duration, Extend, Session, Clip, Group, Join, Anti, Coalesce, Mean, Top, Follow}
use Rattle.plan_model.specs.Expr.{holds, selected_row}
use Rattle.plan_model.specs.Groups.{row_of_group}
use Rattle.plan_model.specs.Keys.{rows_equal, value_ops, key_values, keys_equal, paired_row}
use Rattle.plan_model.specs.Lives.{moved_one, hopped_one, lasting_one, extended_one}
use Rattle.plan_model.specs.Meaning.{Meaning, by_events, node_events, node_meaning, node_closes, reads_events, reads_right_events}
use Rattle.plan_model.specs.Means.{mean_row}
use Rattle.plan_model.specs.Nodes.{event_to, events_to}
use Rattle.plan_model.specs.RowOps.{int_in}
use Rattle.plan_model.proofs.Aggregates.{row_of_group_is}
use Rattle.plan_model.proofs.Causal.{AreEvents-filter, node_in_known}
use Rattle.plan_model.proofs.InOrder.{rows_equal_tells}
use Rattle.plan_model.proofs.Joining.{alive-joined}
use Rattle.plan_model.proofs.NewLives.{alive-moved}
use Rattle.plan_model.proofs.SameEvents.{alive_same, in_sessions_same, clipped_same, followed_same}

-- the events of a node are its meaning: as multisets, they are its own events where it has them, and alive they are its
-- rows
pub record AgreesWith (es : List (Event Row)) (m : Meaning) : Type 0 where
  pub same_events : m.has_events ≡ true → SameBag es m.events
  pub same_rows : (t : ℕ) → t < inf → SameBag (alive es t) (m.rows t)

cond_both_ways : (p q : Bool) (n : ℕ) → cond p (cond q n 0) 0 ≡ cond q (cond p n 0) 0
cond_both_ways true true n = refl
cond_both_ways true false n = refl
cond_both_ways false true n = refl
cond_both_ways false false n = refl

-- the rows that are alive of the events that pass a test, where `rows` are those of all events
pub alive-filtered : (test : List ExprNode) (es : List (Event Row)) (rows : List Row) (t : ℕ) → SameBag (alive es t) rows → SameBag (alive (filter (λ e. holds test e.row) es) t) (filter (holds test) rows)
alive-filtered test es rows t h = record {
  weigh = λ w.
      total-alive w (filter (λ e. holds test e.row) es) t
      ∙ (total-filter (λ e. cond (lives_at t e) (w e.row) 0) (λ e. holds test e.row) es
      ∙ (total_same _ _ es (λ e. cond_both_ways (holds test e.row) (lives_at t e) (w e.row))
      ∙ (sym (total-alive (λ r. cond (holds test r) (w r) 0) es t)
      ∙ (h.weigh (λ r. cond (holds test r) (w r) 0)
      ∙ sym (total-filter w (holds test) rows)))));
}

-- the rows that are alive of the events whose rows are replaced
alive-mapped : (f : Row → Row) (es : List (Event Row)) (rows : List Row) (t : ℕ) → SameBag (alive es t) rows → SameBag (alive (events_to f es) t) (map f rows)
alive-mapped f es rows t h = record {
  weigh = λ w.
      total-alive w (events_to f es) t
      ∙ (total-map (λ e. cond (lives_at t e) (w e.row) 0) (event_to f) es
      ∙ (sym (total-alive (λ r. w (f r)) es t)
      ∙ (h.weigh (λ r. w (f r))
      ∙ sym (total-map w f rows))));
}

-- the rows that are alive of two lists of events
alive-union : (xs ys : List (Event Row)) (left right : List Row) (t : ℕ) → SameBag (alive xs t) left → SameBag (alive ys t) right → SameBag (alive (xs ++ ys) t) (left ++ right)
alive-union xs ys left right t h k = record {
  weigh = λ w.
      total-alive w (xs ++ ys) t
      ∙ (total-append (λ e. cond (lives_at t e) (w e.row) 0) xs ys
      ∙ (ap (λ n. n + total (λ e. cond (lives_at t e) (w e.row) 0) ys) (sym (total-alive w xs t) ∙ h.weigh w)
      ∙ (ap (λ n. total w left + n) (sym (total-alive w ys t) ∙ k.weigh w)
      ∙ sym (total-append w left right))));
}

-- a node that makes its events of those of its children, and the same of the same
agrees_by_events : (made : List (Event Row)) (m : List (Event Row)) → SameBag made m → AgreesWith made (by_events m)
agrees_by_events made m same = record {
  same_events = λ has. same;
  same_rows = λ t low. alive_same made m t same;
}

-- a step that takes its events one by one
each_same : {Q R : Type 0} (one : Event Q → List (Event R)) (a b : List (Event Q)) → SameBag a b → SameBag (flat_map one a) (flat_map one b)
each_same one a b h = SameBag-flat_map one one a b h (λ e. SameBag-refl (one e))

pub node_agrees : (n : Node) (a b : List (Event Row)) (x y : Meaning) → AgreesWith a x → AgreesWith b y → (reads_events n ≡ true → x.has_events ≡ true) × (reads_right_events n ≡ true → y.has_events ≡ true) → AgreesWith (node_events n a b) (node_meaning n x y)
node_agrees (Source stream) a b x y h k fits = h
node_agrees (Where of test) a b x y h k fits = record {
  same_events = λ has. SameBag-filter (λ e. holds test e.row) _ _ (h.same_events has);
  same_rows = λ t low. alive-filtered test a (x.rows t) t (h.same_rows t low);
}
node_agrees (Select of items) a b x y h k fits = record {
  same_events = λ has. SameBag-map (event_to (selected_row items)) _ _ (h.same_events has);
  same_rows = λ t low. alive-mapped (selected_row items) a (x.rows t) t (h.same_rows t low);
}
node_agrees (Union left right) a b x y h k fits = record {
  same_events = λ has. let both = and_parts x.has_events y.has_events has in SameBag-append _ _ _ _ (h.same_events both.0) (k.same_events both.1);
  same_rows = λ t low. alive-union a b (x.rows t) (y.rows t) t (h.same_rows t low) (k.same_rows t low);
}
node_agrees (Delay of by) a b x y h k fits = record {
  same_events = λ has. each_same (moved_one by) _ _ (h.same_events has);
  same_rows = λ t low. alive-moved by a x.rows t low h.same_rows;
}
node_agrees (Hop of size period) a b x y h k fits = agrees_by_events _ _ (each_same (hopped_one size period) _ _ (h.same_events (fits.0 refl)))
node_agrees (Duration of by) a b x y h k fits = agrees_by_events _ _ (each_same (lasting_one by) _ _ (h.same_events (fits.0 refl)))
node_agrees (Extend of by) a b x y h k fits = agrees_by_events _ _ (each_same (extended_one by) _ _ (h.same_events (fits.0 refl)))
node_agrees (Session of timeout key) a b x y h k fits = agrees_by_events _ _ (in_sessions_same (key_values key) rows_equal timeout _ _ (h.same_events (fits.0 refl)))
node_agrees (Clip left right left_key right_key) a b x y h k fits = agrees_by_events _ _ (clipped_same (keys_equal left_key right_key) _ _ _ _ (h.same_events (fits.0 refl)) (k.same_events (fits.1 refl)))
node_agrees (Group of key aggs) a b x y h k fits = record {
  same_events = λ has. absurd (cc);
  same_rows = λ t low. alive_grouped (key_values key) rows_equal rows_equal (row_of_group key aggs) rows_equal_tells rows_equal_tells (row_of_group_is value_ops key aggs) a (x.rows t) t low (h.same_rows t low);
}
node_agrees (Join left right left_key right_key) a b x y h k fits = record {
  same_events = λ has. absurd (cc);
  same_rows = λ t low. alive-joined (keys_equal left_key right_key) (paired_row right_key) a b (x.rows t) (y.rows t) t (h.same_rows t low) (k.same_rows t low);
}
node_agrees (Anti left right left_key right_key) a b x y h k fits = record {
  same_events = λ has. absurd (cc);
  same_rows = λ t low. alive_alone rows_equal (keys_equal left_key right_key) rows_equal_tells a b (x.rows t) (y.rows t) t low (h.same_rows t low) (k.same_rows t low);
}
node_agrees (Coalesce of) a b x y h k fits = agrees_by_events _ _ (coalesced_same rows_equal rows_equal_tells (alive a) x.rows h.same_rows)
node_agrees (Mean of at) a b x y h k fits = record {
  same_events = λ has. absurd (cc);
  same_rows = λ t low. alive-mapped (mean_row value_ops at) a (x.rows t) t (h.same_rows t low);
}
node_agrees (Top of key by count) a b x y h k fits = record {
  same_events = λ has. absurd (cc);
  same_rows = λ t low. SameBag-trans _ _ _
      (coalesced_rows rows_equal rows_equal_tells (λ u. top_rows (keys_equal key key) (int_in value_ops by) count (alive a u)) t low)
      (top_rows_same (keys_equal key key) (int_in value_ops by) count (alive a t) (x.rows t) (h.same_rows t low));
}
node_agrees (Follow left right left_key right_key within) a b x y h k fits = agrees_by_events _ _ (followed_same (keys_equal left_key right_key) (paired_row right_key) within _ _ _ _ (h.same_events (fits.0 refl)) (k.same_events (fits.1 refl)))

pub AreEvents-filtered : (test : List ExprNode) (es : List (Event Row)) → AreEvents es → AreEvents (filter (λ e. holds test e.row) es)
AreEvents-filtered test = AreEvents-filter value_ops (holds test)

pub node_known : (n : Node) (x y : ℕ) (a b c d : List (Event Row)) → Known x a c → Known y b d → Known (node_closes n x y) (node_events n a b) (node_events n c d)
node_known = node_in_known value_ops rows_equal_tells
