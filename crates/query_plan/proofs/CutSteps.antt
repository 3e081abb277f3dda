-- A node makes of the rows that pass what it makes of all rows, of which those that pass.
use Rattle.std.specs.Prelude.{◌≡◌, ℕ, zero, suc, ◌+◌, ◌-◌, ◌<◌, nat_lt, ℤ, Bool, true, false, cond, not, ◌&&◌, Some, List, [], ◌∷◌, ◌++◌, length, map, filter, slice_index_or, refl}
use Rattle.std.proofs.Common.{sym, ◌∙◌, ap, subst, arith}
use Rattle.std.proofs.lemmas.Bool.{and_parts, ltb-true}
use Rattle.std.proofs.lemmas.List.{length-map, get_or_append_left}
use Rattle.std.proofs.lemmas.List.Elements.{filter-append}
use Rattle.tw_rows.specs.Event.{Event, alive}
use Rattle.tw_rows.specs.Instant.{later, floor_to}
use Rattle.tw_rows.specs.Rows.{Row}
use Rattle.tw_rows.specs.declared.kind.CellKind.{CellKind}
use Rattle.tw_rows.specs.declared.row.Value.{Value}
use Rattle.key_nodes.specs.Coalesced.{coalesced}
use Rattle.key_nodes.specs.Follows.{followed}
use Rattle.key_nodes.specs.Groups.{has_key, grouped}
use Rattle.key_nodes.specs.Joins.{joined}
use Rattle.key_nodes.specs.Antis.{alone}
use Rattle.key_nodes.specs.Clips.{clipped}
use Rattle.key_nodes.specs.Sessions.{sessions}
use Rattle.key_nodes.specs.Tops.{top}
use Rattle.key_nodes.proofs.Shards.{filter_both}
use Rattle.plan_model.specs.declared.agg.Agg.{Agg}
use Rattle.plan_model.specs.declared.expr.ExprNode.{ExprNode}
use Rattle.plan_model.specs.declared.node.Node.{Node}
use Rattle.plan_model.specs.declared.node.Node.TheVariants.{Source, Where, Select, Union, Delay, Hop, Duration, Extend, Session, Clip, Group, Join, Anti, Coalesce, Mean, Top, Follow}
use Rattle.plan_model.specs.Expr.{zero_value, value, holds, selected_row}
use Rattle.plan_model.specs.IsPlan.{IsSoundOver}
use Rattle.plan_model.specs.Keys.{rows_equal, value_ops, key_values, keys_equal, outside_key, paired_row}
use Rattle.plan_model.specs.Lives.{moved_one, moved, hopped_one, hopped, lasting_one, lasting, extended_one, extended, in_sessions}
use Rattle.plan_model.specs.Meaning.{node_events}
use Rattle.plan_model.specs.Means.{means_from, mean_row}
use Rattle.plan_model.specs.Nodes.{event_to, events_to}
use Rattle.plan_model.specs.RowOps.{int_in, agg_in, group_row_in, rows_of_key_in, row_of_group_in}
use Rattle.plan_model.specs.Shape.{left_child}
use Rattle.plan_model.proofs.Each.{each_all, each_more}
use Rattle.plan_model.proofs.InOrder.{rows_equal_tells}
use Rattle.plan_laws.proofs.RowsOf.{Rows, or_else, rows_with_life}
use Rattle.query_plan.specs.Cuts.{is_among, is_cut_column, node_places}
use Rattle.query_plan.specs.Parts.{passes_at, passing_events}
use Rattle.query_plan.proofs.Past.{kept, filter_past, map_past, alive_past, lives_past, sessions_past, clipped_past, alone_past, joined_past, followed_past, grouped_past, coalesced_past, top_past}
use Rattle.query_plan.proofs.CutColumns.{among_filter, among_has, key_has, InBoth, among_both, PassingAt, passing_at, IsCutColumn, cut_column}

module _ (test : Value → Bool) where
  -- of the events that a node reads or makes, the part has those that pass, by each of the columns
  abbrev pub IsCut : List (Event Row) → List (Event Row) → List ℕ → Type 0
  IsCut whole part places = (c : ℕ) → is_among places c ≡ true → part ≡ passing_events test c whole

  -- the value in a column that is an item
  selected_at : (items : List (List ExprNode)) (places : List ℕ) (c : ℕ) (at : PassingAt (is_cut_column places) 0 c items)
      (col : IsCutColumn places at.item) (row : Row) →
      slice_index_or (selected_row items row) c zero_value ≡ slice_index_or row col.column zero_value
  selected_at items places c at col row =
      let here : c ≡ at.after = omega (arith, at.is) in
      ap (λ k. slice_index_or (selected_row items row) k zero_value) here
      ∙ (at.reads (λ item. value item row) ∙ ap (λ item. value item row) col.is)

  -- the values in a column of the key of a group, and the rows of a group
  pub key_at : (key places : List ℕ) (c : ℕ) (at : PassingAt (is_among places) 0 c key) (row : Row) →
      slice_index_or (key_values key row) c zero_value ≡ slice_index_or row at.item zero_value
  key_at key places c at row =
      let here : c ≡ at.after = omega (arith, at.is) in
      ap (λ k. slice_index_or (key_values key row) k zero_value) here ∙ at.reads (λ column. slice_index_or row column zero_value)

  group_at : (aggs : List Agg) (c : ℕ) (k : Row) → c < length k → (rows : List Row) (row : Row) →
      group_row_in value_ops aggs k rows ≡ Some row → passes_at test c row ≡ passes_at test c k
  group_at aggs c k low [] row e = absurd (cc)
  group_at aggs c k low (r ∷ rows) row e =
      sym (ap (λ o. passes_at test c (or_else k o)) e)
      ∙ ap test (get_or_append_left k (map (λ a. value_ops.of_int (agg_in value_ops a (r ∷ rows))) aggs) zero_value c low)

  own_rows : (key : List ℕ) (c : ℕ) (k : Row) (rows : List Row) → passes_at test c k ≡ true →
      rows_of_key_in value_ops key k (filter (λ r. passes_at test c (key_values key r)) rows)
      ≡ rows_of_key_in value_ops key k rows
  own_rows key c k rows pass =
      filter_both (has_key (key_values key) rows_equal k) (λ r. passes_at test c (key_values key r)) rows
      (λ r h. sym (ap (passes_at test c) ((rows_equal_tells k (key_values key r)).0 h)) ∙ pass)

  group_cut : (key places : List ℕ) (aggs : List Agg) (c : ℕ) (at : PassingAt (is_among places) 0 c key) (a : List (Event Row)) →
      grouped (key_values key) rows_equal rows_equal (row_of_group_in value_ops key aggs) (passing_events test at.item a)
      ≡ passing_events test c (grouped (key_values key) rows_equal rows_equal (row_of_group_in value_ops key aggs) a)
  group_cut key places aggs c at a =
      (λ i. grouped (key_values key) rows_equal rows_equal (row_of_group_in value_ops key aggs)
      (kept (λ row. test (sym (key_at key places c at row) i)) a))
      ∙ grouped_past (key_values key) rows_equal rows_equal (row_of_group_in value_ops key aggs) rows_equal_tells
      (passes_at test c) (passes_at test c) (λ k. length k ≡ length key)
      (λ r. length-map key (λ column. slice_index_or r column zero_value))
      (λ k wide rows row e. group_at aggs c k (omega (arith, wide, at.is, at.low)) (rows_of_key_in value_ops key k rows) row e)
      (λ k rows pass. ap (group_row_in value_ops aggs k) (own_rows key c k rows pass)) a

  -- the value in a column that a mean leaves
  means_at : (from : ℕ) (at : List ℕ) (count : ℤ) (row : Row) (k : ℕ) → is_among at (from + k) ≡ false → k + 1 < length row →
      slice_index_or (means_from value_ops from at count row) k zero_value ≡ slice_index_or row k zero_value
  means_at from at count [] k out low = absurd (omega (arith, low))
  means_at from at count (x ∷ []) k out low = absurd (omega (arith, low))
  means_at from at count (x ∷ y ∷ rest) zero out low =
      let here : is_among at from ≡ false = subst (λ n. is_among at n ≡ false) (let z : from + 0 ≡ from = omega arith in z) out in
      rw (here) refl
  means_at from at count (x ∷ y ∷ rest) (suc k) out low =
      means_at (suc from) at count (y ∷ rest) k
      (subst (λ n. is_among at n ≡ false) (let z : from + suc k ≡ suc from + k = omega arith in z) out) (omega (arith, low))

  not_true : (b : Bool) → not b ≡ true → b ≡ false
  not_true true h = absurd (cc)
  not_true false h = refl

  mean_at : (at : List ℕ) (row : Row) (c : ℕ) → not (is_among at c) ≡ true → c + 1 < length row →
      slice_index_or (mean_row value_ops at row) c zero_value ≡ slice_index_or row c zero_value
  mean_at at row c out low =
      means_at 0 at (int_in value_ops (length row - 1) row) row c
      (subst (λ n. is_among at n ≡ false) (let z : c ≡ 0 + c = omega arith in z) (not_true (is_among at c) out)) low

  -- rows with equal keys pass alike
  both_pass : (left_key right_key pa pb : List ℕ) (c : ℕ) (both : InBoth left_key right_key pa pb c) (a b : Row) →
      keys_equal left_key right_key a b ≡ true → passes_at test c a ≡ passes_at test both.other b
  both_pass left_key right_key pa pb c both a b h =
      ap test (both.alike a b ((rows_equal_tells (key_values left_key a) (key_values right_key b)).0 h))

  key_passes : (key : List ℕ) (c : ℕ) → is_among key c ≡ true → (a b : Row) →
      rows_equal (key_values key a) (key_values key b) ≡ true → passes_at test c a ≡ passes_at test c b
  key_passes key c named a b h =
      ap test (key_has key c named a b ((rows_equal_tells (key_values key a) (key_values key b)).0 h))

  paired_passes : (right_key : List ℕ) (c : ℕ) (a b : Row) → c < length a →
      passes_at test c (paired_row right_key a b) ≡ passes_at test c a
  paired_passes right_key c a b low = ap test (get_or_append_left a (outside_key right_key b) zero_value c low)

  -- the left rows have the column of a key that is there
  keyed_rows : (l : List CellKind) (key : List ℕ) (c : ℕ) (a : List (Event Row)) → c < length l →
      Rows (λ row. length row ≡ length l) a → Rows (λ row. c < length row) a
  keyed_rows l key c a low wide =
      each_more (λ e. length e.row ≡ length l) (λ e. c < length e.row) a (λ e w. omega (arith, w, low)) wide

  in_sessions_cut : (key : List ℕ) (c timeout : ℕ) (b : Bool) → is_among key c ≡ true → (a : List (Event Row)) →
      cond b (sessions (key_values key) rows_equal timeout (passing_events test c a)) []
      ≡ passing_events test c (cond b (sessions (key_values key) rows_equal timeout a) [])
  in_sessions_cut key c timeout true named a =
      sessions_past (key_values key) rows_equal (passes_at test c) (key_passes key c named) timeout a
  in_sessions_cut key c timeout false named a = refl

  pub step : (width : ℕ → ℕ) (n : Node) (l r : List CellKind) (a b part_a part_b : List (Event Row)) (pa pb : List ℕ) →
      IsSoundOver n l r → ((child : ℕ) → left_child n ≡ Some child → width child ≡ length l) →
      Rows (λ row. length row ≡ length l) a → IsCut a part_a pa → IsCut b part_b pb →
      IsCut (node_events n a b) (node_events n part_a part_b) (node_places width n pa pb)
  step width (Source stream) l r a b part_a part_b pa pb sound same wide ca cb c h = ca c h
  step width (Where of given) l r a b part_a part_b pa pb sound same wide ca cb c h =
      ap (filter (λ e. holds given e.row)) (ca c h)
      ∙ filter_past (λ e. holds given e.row) (λ e. holds given e.row) (λ e. passes_at test c e.row) (λ e k. refl) a
  step width (Select of items) l r a b part_a part_b pa pb sound same wide ca cb c h =
      let at = passing_at (is_cut_column pa) 0 c items h in
      let col = cut_column pa at.item at.passes in
      ap (events_to (selected_row items)) (ca col.column col.cut)
      ∙ map_past (λ e. Unit {0}) (λ e. passes_at test col.column e.row) (event_to (selected_row items))
      (event_to (selected_row items)) (λ e. passes_at test c e.row)
      (λ e u. ap test (selected_at items pa c at col e.row)) (λ e pass. refl) a (each_all (λ e. Unit {0}) a (λ e. tt))
  step width (Union left right) l r a b part_a part_b pa pb sound same wide ca cb c h =
      let both = among_filter (is_among pb) pa c h in
      ap (λ x. x ++ part_b) (ca c both.0)
      ∙ (ap (λ x. passing_events test c a ++ x) (cb c both.1) ∙ sym (filter-append (λ e. passes_at test c e.row) a b))
  step width (Delay of by) l r a b part_a part_b pa pb sound same wide ca cb c h =
      ap (moved by) (ca c h)
      ∙ lives_past (passes_at test c) (moved_one by)
      (λ e. rows_with_life (λ row. passes_at test c row ≡ passes_at test c e.row) e.row (later by e.start) (later by e.end) refl) a
  step width (Hop of size period) l r a b part_a part_b pa pb sound same wide ca cb c h =
      ap (hopped size period) (ca c h)
      ∙ lives_past (passes_at test c) (hopped_one size period)
      (λ e. rows_with_life (λ row. passes_at test c row ≡ passes_at test c e.row) e.row (floor_to period e.start)
      (later size (floor_to period e.start)) refl) a
  step width (Duration of by) l r a b part_a part_b pa pb sound same wide ca cb c h =
      ap (lasting by) (ca c h)
      ∙ lives_past (passes_at test c) (lasting_one by)
      (λ e. rows_with_life (λ row. passes_at test c row ≡ passes_at test c e.row) e.row e.start (later by e.start) refl) a
  step width (Extend of by) l r a b part_a part_b pa pb sound same wide ca cb c h =
      ap (extended by) (ca c h)
      ∙ lives_past (passes_at test c) (extended_one by)
      (λ e. rows_with_life (λ row. passes_at test c row ≡ passes_at test c e.row) e.row e.start (later by e.end) refl) a
  step width (Session of timeout key) l r a b part_a part_b pa pb sound same wide ca cb c h =
      let named = among_filter (is_among pa) key c h in
      ap (in_sessions (key_values key) rows_equal timeout) (ca c named.1)
      ∙ in_sessions_cut key c timeout (nat_lt 0 timeout) named.0 a
  step width (Clip left right left_key right_key) l r a b part_a part_b pa pb sound same wide ca cb c h =
      let both = among_both left_key right_key pa pb c h in
      ap (λ x. clipped (keys_equal left_key right_key) x part_b) (ca c both.on_left)
      ∙ (ap (clipped (keys_equal left_key right_key) (passing_events test c a)) (cb both.other both.on_right)
      ∙ clipped_past (keys_equal left_key right_key) (passes_at test c) (passes_at test both.other)
      (both_pass left_key right_key pa pb c both) a b)
  step width (Group of key aggs) l r a b part_a part_b pa pb sound same wide ca cb c h =
      let at = passing_at (is_among pa) 0 c key h in
      ap (grouped (key_values key) rows_equal rows_equal (row_of_group_in value_ops key aggs)) (ca at.item at.passes)
      ∙ group_cut key pa aggs c at a
  step width (Join left right left_key right_key) l r a b part_a part_b pa pb sound same wide ca cb c h =
      let both = among_both left_key right_key pa pb c h in
      ap (λ x. joined (keys_equal left_key right_key) (paired_row right_key) x part_b) (ca c both.on_left)
      ∙ (ap (joined (keys_equal left_key right_key) (paired_row right_key) (passing_events test c a)) (cb both.other both.on_right)
      ∙ joined_past (keys_equal left_key right_key) (passes_at test c) (passes_at test both.other)
      (both_pass left_key right_key pa pb c both) (paired_row right_key) (passes_at test c) (λ row. c < length row)
      (λ x y low. paired_passes right_key c x y low) a b
      (keyed_rows l left_key c a (among_has (λ k. k < length l) left_key c sound.on_left both.named) wide))
  step width (Anti left right left_key right_key) l r a b part_a part_b pa pb sound same wide ca cb c h =
      let both = among_both left_key right_key pa pb c h in
      ap (λ x. alone rows_equal (keys_equal left_key right_key) x part_b) (ca c both.on_left)
      ∙ (ap (alone rows_equal (keys_equal left_key right_key) (passing_events test c a)) (cb both.other both.on_right)
      ∙ alone_past (keys_equal left_key right_key) (passes_at test c) (passes_at test both.other)
      (both_pass left_key right_key pa pb c both) rows_equal a b)
  step width (Coalesce of) l r a b part_a part_b pa pb sound same wide ca cb c h =
      ap (λ x. coalesced rows_equal (alive x)) (ca c h)
      ∙ coalesced_past rows_equal rows_equal_tells (passes_at test c) (alive a) (alive (passing_events test c a))
      (alive_past (passes_at test c) a)
  step width (Mean of at) l r a b part_a part_b pa pb sound same wide ca cb c h =
      let stays = among_filter (λ k. not (is_among at k) && nat_lt (k + 1) (width of)) pa c h in
      let parts = and_parts (not (is_among at c)) (nat_lt (c + 1) (width of)) stays.1 in
      let low = ltb-true (c + 1) (width of) parts.1 in
      let is = same of refl in
      ap (events_to (mean_row value_ops at)) (ca c stays.0)
      ∙ map_past (λ e. length e.row ≡ length l) (λ e. passes_at test c e.row) (event_to (mean_row value_ops at))
      (event_to (mean_row value_ops at)) (λ e. passes_at test c e.row)
      (λ e w. ap test (mean_at at e.row c parts.0 (omega (arith, low, is, w)))) (λ e pass. refl) a wide
  step width (Top of key by count) l r a b part_a part_b pa pb sound same wide ca cb c h =
      let named = among_filter (is_among pa) key c h in
      ap (top rows_equal (keys_equal key key) (int_in value_ops by) count) (ca c named.1)
      ∙ top_past rows_equal rows_equal_tells (keys_equal key key) (int_in value_ops by) (passes_at test c)
      (key_passes key c named.0) count a
  step width (Follow left right left_key right_key within) l r a b part_a part_b pa pb sound same wide ca cb c h =
      let both = among_both left_key right_key pa pb c h in
      ap (λ x. followed (keys_equal left_key right_key) (paired_row right_key) within x part_b) (ca c both.on_left)
      ∙ (ap (followed (keys_equal left_key right_key) (paired_row right_key) within (passing_events test c a))
      (cb both.other both.on_right)
      ∙ followed_past (keys_equal left_key right_key) (passes_at test c) (passes_at test both.other)
      (both_pass left_key right_key pa pb c both) (paired_row right_key) (passes_at test c) (λ row. c < length row)
      (λ x y low. paired_passes right_key c x y low) within a b
      (keyed_rows l left_key c a (among_has (λ k. k < length l) left_key c sound.1.on_left both.named) wide))
