-- The rows of a left join.
use Rattle.std.specs.Prelude.{◌≡◌, ℕ, zero, suc, nat_lt, Bool, true, false, cond, not, ◌||◌, Some, option_to_list, List, [], ◌∷◌, ◌++◌, length, map, filter, flat_map, slice_get, slice_index_or, All, refl, ◌<◌}
use Rattle.std.specs.List.{list_any}
use Rattle.std.proofs.Common.{sym, ◌∙◌, ap}
use Rattle.std.proofs.lemmas.Bool.{or_right}
use Rattle.std.proofs.lemmas.List.{append-nil, length-map, map-append}
use Rattle.std.proofs.lemmas.List.Elements.{All-head, All-tail}
use Rattle.std.proofs.lemmas.List.Folds.{list_any-append}
use Rattle.tw_rows.specs.Instant.{inf, instants}
use Rattle.tw_rows.specs.Rows.{Row}
use Rattle.tw_rows.specs.declared.row.Value.{Value}
use Rattle.tw_rows.specs.declared.row.Value.TheVariants.{Int as IntValue, Bool as BoolValue, Text as TextValue}
use Rattle.key_nodes.specs.Runs.{Tells}
use Rattle.key_nodes.specs.Groups.{distinct, has_key, grouped_rows}
use Rattle.key_nodes.specs.Antis.{meets_none, alone_rows}
use Rattle.key_nodes.specs.Joins.{joined_rows}
use Rattle.key_nodes.proofs.Bags.{any_by_weight, any_map, count_distinct}
use Rattle.plan_model.specs.declared.expr.ExprNode.{ExprNode}
use Rattle.plan_model.specs.declared.expr.ExprNode.TheVariants.{Column}
use Rattle.plan_model.specs.declared.node.Node.{Node}
use Rattle.plan_model.specs.Expr.{zero_value, value, selected_row}
use Rattle.plan_model.specs.Keys.{value_ops, keys_equal, paired_row}
use Rattle.plan_model.specs.Meaning.{Sources, by_events, nothing, left_of, right_of, node_meaning, meaning, snapshots, IsOrdered}
use Rattle.plan_model.specs.RowOps.{RowOps, key_in, keys_equal_in, row_of_group_in}
use Rattle.plan_model.specs.IsPlan.{PlanParts, IsPlan}
use Rattle.plan_model.proofs.Kept.{IsPlan-ordered}
use Rattle.plan_model.proofs.InOrder.{rows_equal_tells}
use Rattle.plan_model.proofs.Plans.{over_nodes-is}
use Rattle.plan_laws.specs.Widths.{FitStreams}
use Rattle.plan_laws.proofs.Widths.{snapshots_wide}
use Rattle.plan_laws.proofs.RowsOf.{each_distinct}
use Rattle.plan_laws.specs.LeftJoin.{literal, filling_items, IsLeftJoin}
use Rattle.plan_model.proofs.Each.{Each}

any_each : {K : Type 0} (p q : K → Bool) (P : K → Type 0) → ((k : K) → P k → p k ≡ q k) → (ks : List K) → Each P ks →
    list_any p ks ≡ list_any q ks
any_each p q P h [] each = refl
any_each p q P h (k ∷ ks) each = ap (λ b. b || list_any p ks) (h k each.0) ∙ ap (λ b. q k || b) (any_each p q P h ks each.1)

any_flat_map : {X Y : Type 0} (p : Y → Bool) (f : X → List Y) (xs : List X) →
    list_any p (flat_map f xs) ≡ list_any (λ x. list_any p (f x)) xs
any_flat_map p f [] = refl
any_flat_map p f (x ∷ xs) =
    list_any-append p (f x) (flat_map f xs) ∙ ap (λ b. list_any p (f x) || b) (any_flat_map p f xs)

filter_alike : {X : Type 0} (p q : X → Bool) (xs : List X) → ((x : X) → p x ≡ q x) → filter p xs ≡ filter q xs
filter_alike p q [] h = refl
filter_alike p q (x ∷ xs) h =
    ap (λ b. cond b (x ∷ filter p xs) (filter p xs)) (h x)
    ∙ ap (λ l. cond (q x) (x ∷ l) l) (filter_alike p q xs h)

map_after : {X Y Z : Type 0} (g : Y → Z) (f : X → Y) (xs : List X) → map g (map f xs) ≡ map (λ x. g (f x)) xs
map_after g f [] = refl
map_after g f (x ∷ xs) = ap (λ l. g (f x) ∷ l) (map_after g f xs)

map_shift : {X : Type 0} (f : ℕ → X) (a n : ℕ) → map f (instants (suc a) n) ≡ map (λ c. f (suc c)) (instants a n)
map_shift f a zero = refl
map_shift f a (suc n) = ap (λ l. f (suc a) ∷ l) (map_shift f (suc a) n)

-- the elements of all places are the list
all_places : {X : Type 0} (d : X) (xs : List X) → map (λ c. slice_index_or xs c d) (instants 0 (length xs)) ≡ xs
all_places d [] = refl
all_places d (x ∷ xs) =
    ap (λ l. x ∷ l) (map_shift (λ c. slice_index_or (x ∷ xs) c d) 0 (length xs) ∙ all_places d xs)

some_left : {X : Type 0} (p : X → Bool) (xs : List X) → list_any p xs ≡ true →
    (y : X) × (ys : List X) × (filter p xs ≡ y ∷ ys)
some_left p [] h = absurd (cc)
some_left {X} p (x ∷ xs) h = pick (p x) refl (λ t. some_left p xs t) h
  where
    pick : (b : Bool) → p x ≡ b →
        (list_any p xs ≡ true → (y : X) × (ys : List X) × (filter p xs ≡ y ∷ ys)) → (b || list_any p xs) ≡ true →
        (y : X) × (ys : List X) × (cond b (x ∷ filter p xs) (filter p xs) ≡ y ∷ ys)
    pick true e rest t = (x, filter p xs, refl)
    pick false e rest t = rest t

module _ {X : Type 0} (ops : RowOps X) (tells : Tells ops.same) (left_key right_key : List ℕ) where
  abbrev columns : List ℕ
  columns = instants 0 (length right_key)

  abbrev Known : List (List X) → List X → Type 0
  Known rows k = (list_any (ops.same k) (map (key_in ops right_key) rows) ≡ true) × (length k ≡ length right_key)

  each_known : (rows xs : List (List X)) → ((k : List X) →
      list_any (ops.same k) (map (key_in ops right_key) xs) ≡ true →
      list_any (ops.same k) (map (key_in ops right_key) rows) ≡ true) → Each (Known rows) (map (key_in ops right_key) xs)
  each_known rows [] sub = tt
  each_known rows (x ∷ xs) sub =
      let k = key_in ops right_key x in (
        (
          sub k (ap (λ b. b || list_any (ops.same k) (map (key_in ops right_key) xs)) ((tells k k).1 refl)),
          length-map right_key (λ column. slice_index_or x column ops.zero),
        ),
        each_known rows xs (λ j t. sub j (or_right (ops.same j k) (list_any (ops.same j) (map (key_in ops right_key) xs)) t)),
      )

  -- the row of a group of a key that a row has is that key
  key_row : (l k : List X) (rows : List (List X)) → Known rows k →
      list_any (keys_equal_in ops left_key columns l) (option_to_list (row_of_group_in ops right_key [] k rows))
      ≡ ops.same (key_in ops left_key l) k
  key_row l k rows h =
      let s = some_left (has_key (key_in ops right_key) ops.same k) rows
      (sym (any_map (ops.same k) (key_in ops right_key) rows) ∙ h.0) in
      let places : key_in ops columns k ≡ k =
      ap (λ n. map (λ c. slice_index_or k c ops.zero) (instants 0 n)) (sym h.1) ∙ all_places ops.zero k in
      rw (s.2, append-nil k)
      (last (ops.same (key_in ops left_key l) (key_in ops columns k)) ∙ ap (ops.same (key_in ops left_key l)) places)
    where
      last : (b : Bool) → (b || false) ≡ b
      last true = refl
      last false = refl

  any_once : (k : List X) (ks : List (List X)) → list_any (ops.same k) (distinct ops.same ks) ≡ list_any (ops.same k) ks
  any_once k ks =
      any_by_weight (ops.same k) (distinct ops.same ks)
      ∙ (ap (nat_lt 0) (count_distinct ops.same tells k 1 ks) ∙ back (list_any (ops.same k) ks))
    where
      back : (b : Bool) → nat_lt 0 (cond b 1 0) ≡ b
      back true = refl
      back false = refl

  -- a left row meets a row of the groups exactly where it meets a right row
  any_partner : (l : List X) (rows : List (List X)) →
      list_any (keys_equal_in ops left_key columns l)
      (grouped_rows (key_in ops right_key) ops.same (row_of_group_in ops right_key []) rows)
      ≡ list_any (keys_equal_in ops left_key right_key l) rows
  any_partner l rows =
      let ks = map (key_in ops right_key) rows in
      any_flat_map (keys_equal_in ops left_key columns l) (λ k. option_to_list (row_of_group_in ops right_key [] k rows))
      (distinct ops.same ks)
      ∙ (any_each _ (ops.same (key_in ops left_key l)) (Known rows) (λ k h. key_row l k rows h) (distinct ops.same ks)
      (each_distinct ops.same (Known rows) ks (each_known rows rows (λ k t. t)))
      ∙ (any_once (key_in ops left_key l) ks
      ∙ any_map (ops.same (key_in ops left_key l)) (key_in ops right_key) rows))

  pub alone_of_groups : (ls rows : List (List X)) →
      alone_rows (keys_equal_in ops left_key columns) ls
      (grouped_rows (key_in ops right_key) ops.same (row_of_group_in ops right_key []) rows)
      ≡ alone_rows (keys_equal_in ops left_key right_key) ls rows
  alone_of_groups ls rows = filter_alike _ _ ls (λ l. ap not (any_partner l rows))

-- the items give the row, followed by the values
pub filled_row : (fills row : Row) (width : ℕ) → length row ≡ width →
    selected_row (filling_items width fills) row ≡ row ++ fills
filled_row fills row width e =
    map-append (λ item. value item row) (map (λ column. Column column ∷ []) (instants 0 width)) (map literal fills)
    ∙ (ap (λ l. l ++ map (λ item. value item row) (map literal fills))
    (map_after (λ item. value item row) (λ column. Column column ∷ []) (instants 0 width)
    ∙ (ap (λ n. map (λ column. slice_index_or row column zero_value) (instants 0 n)) (sym e) ∙ all_places zero_value row))
    ∙ ap (λ l. row ++ l) (literals fills))
  where
    one : (v : Value) → value (literal v) row ≡ v
    one (IntValue x) = refl
    one (BoolValue b) = refl
    one (TextValue t) = refl

    literals : (vs : Row) → map (λ item. value item row) (map literal vs) ≡ vs
    literals [] = refl
    literals (v ∷ vs) = ap (λ x. x ∷ map (λ item. value item row) (map literal vs)) (one v) ∙ ap (λ l. v ∷ l) (literals vs)

module _ (source : Sources) (nodes : List Node) (ordered : IsOrdered nodes) (left right : ℕ) (left_key right_key : List ℕ)
    (items : List (List ExprNode)) (root : ℕ) (is : IsLeftJoin nodes left right left_key right_key items root) (t : ℕ) where
  rows_at : (i : ℕ) (n : Node) → slice_get nodes i ≡ Some n →
      snapshots source nodes i t
      ≡ (node_meaning n (left_of nothing (λ s. by_events (source s)) (meaning source nodes) n)
      (right_of nothing (meaning source nodes) n)).rows t
  rows_at i n there = ap (λ m. m.rows t) (over_nodes-is nothing (λ s. by_events (source s)) node_meaning nodes ordered i n there)

  pub left_join_rows : snapshots source nodes root t
      ≡ joined_rows (keys_equal left_key right_key) (paired_row right_key) (snapshots source nodes left t)
      (snapshots source nodes right t)
      ++ map (selected_row items) (alone_rows (keys_equal left_key right_key) (snapshots source nodes left t)
      (snapshots source nodes right t))
  left_join_rows =
      rows_at root _ is.is_union
      ∙ (ap (λ l. l ++ snapshots source nodes is.filled t) (rows_at is.pairs _ is.is_join)
      ∙ ap (λ l. joined_rows (keys_equal left_key right_key) (paired_row right_key) (snapshots source nodes left t)
      (snapshots source nodes right t) ++ l)
      (rows_at is.filled _ is.is_select
      ∙ ap (map (selected_row items))
      (rows_at is.alone _ is.is_anti
      ∙ (ap (alone_rows (keys_equal left_key (instants 0 (length right_key))) (snapshots source nodes left t))
      (rows_at is.keys _ is.is_group)
      ∙ alone_of_groups value_ops rows_equal_tells left_key right_key (snapshots source nodes left t)
      (snapshots source nodes right t)))))

map_where : {X Y : Type 0} (f g : X → Y) (p : X → Bool) (P : X → Type 0) → ((x : X) → P x → f x ≡ g x) → (xs : List X) →
    All P xs → map f (filter p xs) ≡ map g (filter p xs)
map_where f g p P h [] all = refl
map_where f g p P h (x ∷ xs) all = pick (p x) (h x (All-head P x xs all)) (map_where f g p P h xs (All-tail P x xs all))
  where
    pick : (b : Bool) → f x ≡ g x → map f (filter p xs) ≡ map g (filter p xs) →
        map f (cond b (x ∷ filter p xs) (filter p xs)) ≡ map g (cond b (x ∷ filter p xs) (filter p xs))
    pick true e k = ap (λ y. y ∷ map f (filter p xs)) e ∙ ap (λ l. g x ∷ l) k
    pick false e k = k

-- with the columns of rows that wide as items, followed by values
pub left_join_filled : (source : Sources) (nodes : List Node) → IsOrdered nodes →
    (left right : ℕ) (left_key right_key : List ℕ) (width : ℕ) (fills : Row) (root t : ℕ) →
    IsLeftJoin nodes left right left_key right_key (filling_items width fills) root →
    All (λ l. length l ≡ width) (snapshots source nodes left t) →
    snapshots source nodes root t
    ≡ joined_rows (keys_equal left_key right_key) (paired_row right_key) (snapshots source nodes left t)
    (snapshots source nodes right t)
    ++ map (λ l. l ++ fills) (alone_rows (keys_equal left_key right_key) (snapshots source nodes left t)
    (snapshots source nodes right t))
left_join_filled source nodes ordered left right left_key right_key width fills root t is wide =
    left_join_rows source nodes ordered left right left_key right_key (filling_items width fills) root is t
    ∙ ap (λ l. joined_rows (keys_equal left_key right_key) (paired_row right_key) (snapshots source nodes left t)
    (snapshots source nodes right t) ++ l)
    (map_where (selected_row (filling_items width fills)) (λ l. l ++ fills)
    (meets_none (keys_equal left_key right_key) (snapshots source nodes right t)) (λ l. length l ≡ width)
    (λ l e. filled_row fills l width e) (snapshots source nodes left t) wide)

-- in a plan the left rows are as wide as their schema
pub left_join_of_plan : (plan : PlanParts) → IsPlan plan → (source : Sources) → FitStreams plan.streams source →
    (left right : ℕ) (left_key right_key : List ℕ) (fills : Row) (root t : ℕ) → left < length plan.nodes → t < inf →
    IsLeftJoin plan.nodes left right left_key right_key
    (filling_items (length (slice_index_or plan.schemas left [])) fills) root →
    snapshots source plan.nodes root t
    ≡ joined_rows (keys_equal left_key right_key) (paired_row right_key) (snapshots source plan.nodes left t)
    (snapshots source plan.nodes right t)
    ++ map (λ l. l ++ fills) (alone_rows (keys_equal left_key right_key) (snapshots source plan.nodes left t)
    (snapshots source plan.nodes right t))
left_join_of_plan plan kept source fits left right left_key right_key fills root t low now is =
    left_join_filled source plan.nodes (IsPlan-ordered plan kept) left right left_key right_key
    (length (slice_index_or plan.schemas left [])) fills root t is (snapshots_wide plan kept source fits left t low now)
