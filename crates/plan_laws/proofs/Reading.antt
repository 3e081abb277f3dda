-- The place law: a node of events that are read is what is read of the node.
use Rattle.std.specs.Prelude.{◌≡◌, ℕ, zero, suc, ℤ, pos, int_lt, ◌-◌, nat_eq, nat_lt, Bool, true, false, cond, ◌||◌, Some, List, [], ◌∷◌, ◌++◌, length, map, slice_index_or, refl}
use Rattle.std.specs.List.{list_any}
use Rattle.std.specs.Option.{option_map}
use Rattle.std.specs.Int.{int_div_euclid}
use Rattle.std.proofs.Common.{sym, ◌∙◌, ap}
use Rattle.std.proofs.lemmas.List.{map-append, length-map}
use Rattle.tw_rows.specs.Event.{Event, alive}
use Rattle.key_nodes.specs.Groups.{has_key}
use Rattle.plan_model.specs.declared.agg.Agg.{Agg}
use Rattle.plan_model.specs.declared.agg.Agg.TheVariants.{Count, Sum, Least, Greatest}
use Rattle.plan_model.specs.declared.node.Node.{Node}
use Rattle.plan_model.specs.declared.node.Node.TheVariants.{Source, Where, Select, Union, Delay, Hop, Duration, Extend, Session, Clip, Group, Join, Anti, Coalesce, Mean, Top, Follow}
use Rattle.plan_model.specs.Amounts.{exact_sum, least_int, greatest_int, most_rows, is_outside_i64}
use Rattle.plan_model.specs.Keys.{outside_from, outside_key}
use Rattle.plan_model.specs.RowOps.{RowOps, key_in, keys_equal_in, int_in, ints_in, agg_in, group_row_in, rows_of_key_in, row_of_group_in, has_large_sum_in, is_undefined_group_in, is_undefined_in}
use Rattle.plan_model.specs.Means.{mean_of, means_from, mean_row}
use Rattle.plan_model.specs.Nodes.{event_to, events_to, node_in}
use Rattle.plan_model.specs.Keys.{paired_row}
use Rattle.plan_laws.specs.Readings.{has_expressions, IsReading}
use Rattle.plan_laws.proofs.CoalescedMaps.{coalesced_to, top_to, followed_to}
use Rattle.plan_laws.proofs.Maps.{alive_to, map_to, map_map, filter_to, any_to, joined_to, grouped_to, alone_to, in_sessions_to, clipped_to, moved_to, hopped_to, lasting_to, extended_to}
use Rattle.plan_model.proofs.Aggregates.{map_same}

module _ {X Y : Type 0} (f : X → Y) (v : RowOps X) (w : RowOps Y) (reads : IsReading f v w) where
  pub column_read : (row : List X) (i : ℕ) → slice_index_or (map f row) i w.zero ≡ f (slice_index_or row i v.zero)
  column_read [] i = sym reads.zero
  column_read (x ∷ row) zero = refl
  column_read (x ∷ row) (suc i) = column_read row i

  pub key_read : (key : List ℕ) (row : List X) → key_in w key (map f row) ≡ map f (key_in v key row)
  key_read key row = map_same _ _ key (column_read row) ∙ sym (map_map (λ i. slice_index_or row i v.zero) f key)

  pub meet_read : (left_key right_key : List ℕ) (a b : List X) → keys_equal_in w left_key right_key (map f a) (map f b) ≡ keys_equal_in v left_key right_key a b
  meet_read left_key right_key a b =
      ap (λ k. w.same k (key_in w right_key (map f b))) (key_read left_key a)
      ∙ (ap (w.same (map f (key_in v left_key a))) (key_read right_key b) ∙ reads.same (key_in v left_key a) (key_in v right_key b))

  outside_read : (i : ℕ) (key : List ℕ) (row : List X) → outside_from i key (map f row) ≡ map f (outside_from i key row)
  outside_read i key [] = refl
  outside_read i key (x ∷ row) = ap (λ l. cond (list_any (nat_eq i) key) l (f x ∷ l)) (outside_read (suc i) key row) ∙ out (list_any (nat_eq i) key)
    where
      out : (b : Bool) → cond b (map f (outside_from (suc i) key row)) (f x ∷ map f (outside_from (suc i) key row)) ≡ map f (cond b (outside_from (suc i) key row) (x ∷ outside_from (suc i) key row))
      out true = refl
      out false = refl

  pub pair_read : (right_key : List ℕ) (a b : List X) → paired_row right_key (map f a) (map f b) ≡ map f (paired_row right_key a b)
  pair_read right_key a b = ap (λ l. map f a ++ l) (outside_read 0 right_key b) ∙ sym (map-append f a (outside_key right_key b))

  pub ints_read : (column : ℕ) (rows : List (List X)) → ints_in w column (map (map f) rows) ≡ ints_in v column rows
  ints_read column rows = map_map (map f) _ rows ∙ map_same _ _ rows (λ row. ap w.int_of (column_read row column) ∙ reads.int_of (slice_index_or row column v.zero))

  int_read : (column : ℕ) (row : List X) → int_in w column (map f row) ≡ int_in v column row
  int_read column row = ap w.int_of (column_read row column) ∙ reads.int_of (slice_index_or row column v.zero)

  -- averages
  quotient_read : (count : ℤ) (x : X) → mean_of w count (f x) ≡ f (mean_of v count x)
  quotient_read count x =
      ap (λ z. cond (int_lt (pos 0) count) (w.of_int (int_div_euclid z count)) (f x)) (reads.int_of x)
      ∙ (ap (λ y. cond (int_lt (pos 0) count) y (f x)) (sym (reads.of_int (int_div_euclid (v.int_of x) count))) ∙ out (int_lt (pos 0) count))
    where
      out : (b : Bool) → cond b (f (v.of_int (int_div_euclid (v.int_of x) count))) (f x) ≡ f (cond b (v.of_int (int_div_euclid (v.int_of x) count)) x)
      out true = refl
      out false = refl

  means_read : (column : ℕ) (at : List ℕ) (count : ℤ) (row : List X) → means_from w column at count (map f row) ≡ map f (means_from v column at count row)
  means_read column at count [] = refl
  means_read column at count (x ∷ []) = refl
  means_read column at count (x ∷ y ∷ rest) =
      let tail = means_read (suc column) at count (y ∷ rest) in
      ap (λ z. cond (list_any (nat_eq column) at) z (f x) ∷ means_from w (suc column) at count (f y ∷ map f rest)) (quotient_read count x)
      ∙ (ap (λ l. cond (list_any (nat_eq column) at) (f (mean_of v count x)) (f x) ∷ l) tail ∙ ap (λ z. z ∷ map f (means_from v (suc column) at count (y ∷ rest))) (out (list_any (nat_eq column) at)))
    where
      out : (b : Bool) → cond b (f (mean_of v count x)) (f x) ≡ f (cond b (mean_of v count x) x)
      out true = refl
      out false = refl

  mean_read : (at : List ℕ) (row : List X) → mean_row w at (map f row) ≡ map f (mean_row v at row)
  mean_read at row =
      ap (λ n. means_from w 0 at (int_in w (n - 1) (map f row)) (map f row)) (length-map row f)
      ∙ (ap (λ z. means_from w 0 at z (map f row)) (int_read (length row - 1) row) ∙ means_read 0 at (int_in v (length row - 1) row) row)

  pub agg_read : (a : Agg) (rows : List (List X)) → agg_in w a (map (map f) rows) ≡ agg_in v a rows
  agg_read Count rows = ap pos (length-map rows (map f))
  agg_read (Sum column) rows = ap exact_sum (ints_read column rows)
  agg_read (Least column) rows = ap least_int (ints_read column rows)
  agg_read (Greatest column) rows = ap greatest_int (ints_read column rows)

  pub group_read : (aggs : List Agg) (values : List X) (rows : List (List X)) → group_row_in w aggs (map f values) (map (map f) rows) ≡ option_map (map f) (group_row_in v aggs values rows)
  group_read aggs values [] = refl
  group_read aggs values (row ∷ rows) =
      ap (λ l. Some (map f values ++ l)) (map_same _ _ aggs (λ a. ap w.of_int (agg_read a (row ∷ rows)) ∙ sym (reads.of_int (agg_in v a (row ∷ rows))))
      ∙ sym (map_map (λ a. v.of_int (agg_in v a (row ∷ rows))) f aggs))
      ∙ ap Some (sym (map-append f values (map (λ a. v.of_int (agg_in v a (row ∷ rows))) aggs)))

  pub rows_read : (key : List ℕ) (values : List X) (rows : List (List X)) → rows_of_key_in w key (map f values) (map (map f) rows) ≡ map (map f) (rows_of_key_in v key values rows)
  rows_read key values rows = filter_to (map f) (has_key (key_in v key) v.same values) (has_key (key_in w key) w.same (map f values))
      (λ r. ap (w.same (map f values)) (key_read key r) ∙ reads.same values (key_in v key r)) rows

  pub tell_read : (key : List ℕ) (aggs : List Agg) (values : List X) (rows : List (List X)) → row_of_group_in w key aggs (map f values) (map (map f) rows) ≡ option_map (map f) (row_of_group_in v key aggs values rows)
  tell_read key aggs values rows = ap (group_row_in w aggs (map f values)) (rows_read key values rows) ∙ group_read aggs values (rows_of_key_in v key values rows)

  -- the place law
  pub node_read : (n : Node) (a b : List (Event (List X))) → has_expressions n ≡ false → node_in w n (events_to (map f) a) (events_to (map f) b) ≡ events_to (map f) (node_in v n a b)
  node_read (Source stream) a b e = refl
  node_read (Where of test) a b e = absurd (cc)
  node_read (Select of items) a b e = absurd (cc)
  node_read (Union left right) a b e = sym (map-append (event_to (map f)) a b)
  node_read (Delay of by) a b e = moved_to (map f) by a
  node_read (Hop of size period) a b e = hopped_to (map f) size period a
  node_read (Duration of by) a b e = lasting_to (map f) by a
  node_read (Extend of by) a b e = extended_to (map f) by a
  node_read (Session of timeout key) a b e = in_sessions_to (map f) (map f) (key_in v key) (key_in w key) v.same w.same timeout (key_read key) reads.same a
  node_read (Clip left right left_key right_key) a b e = clipped_to (map f) (map f) (keys_equal_in v left_key right_key) (keys_equal_in w left_key right_key) (meet_read left_key right_key) a b
  node_read (Group of key aggs) a b e = grouped_to (map f) (map f) (map f) (key_in v key) (key_in w key) v.same w.same v.same w.same (row_of_group_in v key aggs) (row_of_group_in w key aggs) (key_read key) reads.same reads.same (tell_read key aggs) a
  node_read (Join left right left_key right_key) a b e = joined_to (map f) (map f) (map f) (keys_equal_in v left_key right_key) (keys_equal_in w left_key right_key) (paired_row right_key) (paired_row right_key) (meet_read left_key right_key) (pair_read right_key) a b
  node_read (Anti left right left_key right_key) a b e = alone_to (map f) (map f) v.same w.same (keys_equal_in v left_key right_key) (keys_equal_in w left_key right_key) reads.same (meet_read left_key right_key) a b
  node_read (Coalesce of) a b e = coalesced_to (map f) v.same w.same reads.same (alive a) (alive (events_to (map f) a)) (alive_to (map f) a)
  node_read (Mean of at) a b e = map_to (event_to (map f)) (event_to (map f)) (event_to (mean_row v at)) (event_to (mean_row w at)) (λ x. λ i. record { row = mean_read at x.row i; start = x.start; end = x.end }) a
  node_read (Top of key by count) a b e = top_to (map f) (keys_equal_in v key key) (keys_equal_in w key key) (int_in v by) (int_in w by) (meet_read key key) (int_read by) v.same w.same reads.same count a
  node_read (Follow left right left_key right_key within) a b e = followed_to (map f) (map f) (map f) (keys_equal_in v left_key right_key) (keys_equal_in w left_key right_key) (paired_row right_key) (paired_row right_key) (meet_read left_key right_key) (pair_read right_key) within a b

  -- undefined groups
  large_read : (rows : List (List X)) (a : Agg) → has_large_sum_in w (map (map f) rows) a ≡ has_large_sum_in v rows a
  large_read rows Count = refl
  large_read rows (Sum column) = ap (λ l. is_outside_i64 (exact_sum l)) (ints_read column rows)
  large_read rows (Least column) = refl
  large_read rows (Greatest column) = refl

  any_same : {Z : Type 0} (p q : Z → Bool) (xs : List Z) → ((x : Z) → p x ≡ q x) → list_any p xs ≡ list_any q xs
  any_same p q [] h = refl
  any_same p q (x ∷ xs) h = ap (λ b. b || list_any p xs) (h x) ∙ ap (λ b. q x || b) (any_same p q xs h)

  undefined_group_read : (aggs : List Agg) (rows : List (List X)) → is_undefined_group_in w aggs (map (map f) rows) ≡ is_undefined_group_in v aggs rows
  undefined_group_read aggs rows = ap (λ n. nat_lt most_rows n || list_any (has_large_sum_in w (map (map f) rows)) aggs) (length-map rows (map f))
      ∙ ap (λ b. nat_lt most_rows (length rows) || b) (any_same _ _ aggs (large_read rows))

  pub undefined_read : (key : List ℕ) (aggs : List Agg) (rows : List (List X)) → is_undefined_in w key aggs (map (map f) rows) ≡ is_undefined_in v key aggs rows
  undefined_read key aggs rows = any_to (map f) _ _ (λ row.
      ap (λ k. is_undefined_group_in w aggs (rows_of_key_in w key k (map (map f) rows))) (key_read key row)
      ∙ (ap (is_undefined_group_in w aggs) (rows_read key (key_in v key row) rows) ∙ undefined_group_read aggs (rows_of_key_in v key (key_in v key row) rows))) rows
