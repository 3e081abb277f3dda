-- The rows of the nodes of a plan have as many values as their schemas have columns.
use Rattle.std.specs.Prelude.{◌≡◌, ℕ, zero, suc, ◌+◌, ◌-◌, ◌<◌, nat_eq, nat_lt, ℤ, Bool, true, false, cond, Option, Some, None, List, [], ◌∷◌, ◌++◌, length, map, take, slice_index_or, All, refl}
use Rattle.std.specs.List.{list_any}
use Rattle.std.proofs.Common.{sym, ◌∙◌, ap, subst, arith}
use Rattle.std.proofs.lemmas.Bool.{eqb-true, eq-eqb}
use Rattle.std.proofs.lemmas.List.{length-map, length-append}
use Rattle.std.proofs.lemmas.List.Elements.{All-nil, All-cons, All-head, All-tail}
use Rattle.std.proofs.lemmas.Option.{slice_get-get_or}
use Rattle.tw_rows.specs.Bag.{total}
use Rattle.tw_rows.specs.Event.{Event, alive}
use Rattle.tw_rows.specs.Instant.{inf, later, floor_to}
use Rattle.tw_rows.specs.Rows.{Row}
use Rattle.tw_rows.specs.declared.kind.CellKind.{CellKind}
use Rattle.tw_rows.specs.declared.kind.CellKind.TheVariants.{Whole}
use Rattle.tw_rows.specs.Kinds.{cell_kind_of}
use Rattle.key_nodes.specs.Sessions.{session, sessions}
use Rattle.key_nodes.specs.Clips.{clip}
use Rattle.key_nodes.specs.Tops.{top_rows}
use Rattle.plan_model.specs.declared.agg.Agg.{Agg}
use Rattle.plan_model.specs.declared.node.Node.{Node}
use Rattle.plan_model.specs.declared.node.Node.TheVariants.{Source, Where, Select, Union, Delay, Hop, Duration, Extend, Session, Clip, Group, Join, Anti, Coalesce, Mean, Top, Follow}
use Rattle.plan_model.specs.Expr.{value, zero_value, holds, selected_row}
use Rattle.plan_model.specs.Groups.{row_of_group}
use Rattle.plan_model.specs.IsPlan.{kinds_at, kinds_of_stream, key_kinds, node_kinds, IsSoundOver, PlanParts, IsPlan}
use Rattle.plan_model.specs.Keys.{rows_equal, value_ops, key_values, keys_equal, outside_from, outside_key, paired_row}
use Rattle.plan_model.specs.Lives.{moved_one, hopped_one, lasting_one, extended_one}
use Rattle.plan_model.specs.Meaning.{Sources, events, node_events, snapshots, right_child, HasLower}
use Rattle.plan_model.specs.Means.{means_from, mean_row}
use Rattle.plan_model.specs.Nodes.{event_to}
use Rattle.plan_model.specs.RowOps.{int_in, agg_in, group_row_in, rows_of_key_in}
use Rattle.plan_model.specs.Shape.{Shape, Stream, One, Two, shape, left_in, at_child, read_left}
use Rattle.plan_model.specs.Typed.{kind_of}
use Rattle.plan_model.proofs.Folds.{by_lower}
use Rattle.plan_model.proofs.Kept.{IsPlan-ordered}
use Rattle.plan_model.proofs.Levels.{IsPlan-levelled}
use Rattle.plan_model.proofs.PlanLaws.{events_agree}
use Rattle.plan_model.proofs.Plans.{over_nodes-is}
use Rattle.plan_laws.specs.Widths.{AreWide, FitStreams}
use Rattle.plan_laws.proofs.RowsOf.{Rows, or_else, each_map, each_filter, each_flat_map, rows_with_life, rows_alive, grouped_rows_hold, alone_rows_hold, coalesced_rows_hold, joined_rows_hold, followed_rows_hold}
use Rattle.plan_model.proofs.Each.{Each, each_append}

abbrev pub HasWidth : ℕ → Row → Type 0
HasWidth n row = length row ≡ n

-- lists that are as long have as many items outside the key
outside_length : {X Y : Type 0} (column : ℕ) (key : List ℕ) (xs : List X) (ys : List Y) → length xs ≡ length ys →
    length (outside_from column key xs) ≡ length (outside_from column key ys)
outside_length column key [] [] e = refl
outside_length column key [] (y ∷ ys) e = absurd (omega (arith, e))
outside_length column key (x ∷ xs) [] e = absurd (omega (arith, e))
outside_length column key (x ∷ xs) (y ∷ ys) e =
    pick (list_any (nat_eq column) key) (outside_length (suc column) key xs ys (omega (arith, e)))
  where
    pick : (b : Bool) → length (outside_from (suc column) key xs) ≡ length (outside_from (suc column) key ys) →
        length (cond b (outside_from (suc column) key xs) (x ∷ outside_from (suc column) key xs))
        ≡ length (cond b (outside_from (suc column) key ys) (y ∷ outside_from (suc column) key ys))
    pick true h = h
    pick false h = omega (arith, h)

paired_width : (key : List ℕ) (l r : List CellKind) (a b : Row) → HasWidth (length l) a → HasWidth (length r) b →
    HasWidth (length (l ++ outside_key key r)) (paired_row key a b)
paired_width key l r a b h k =
    let x = length-append a (outside_key key b) in
    let y = length-append l (outside_key key r) in
    let z = outside_length 0 key b r k in
    omega (arith, h, x, y, z)

means_width : (column : ℕ) (at : List ℕ) (count : ℤ) (row : Row) →
    length (means_from value_ops column at count row) ≡ length row - 1
means_width column at count [] = refl
means_width column at count (x ∷ []) = refl
means_width column at count (x ∷ y ∷ rest) = let h = means_width (suc column) at count (y ∷ rest) in omega (arith, h)

take_width : {X : Type 0} (n : ℕ) (xs : List X) → n < suc (length xs) → length (take n xs) ≡ n
take_width zero xs low = refl
take_width (suc n) [] low = absurd (omega (arith, low))
take_width (suc n) (x ∷ xs) low = let h = take_width n xs (omega (arith, low)) in omega (arith, h)

mean_width : (at : List ℕ) (l : List CellKind) (row : Row) → HasWidth (length l) row →
    HasWidth (length (take (length l - 1) l)) (mean_row value_ops at row)
mean_width at l row h =
    let x = means_width 0 at (int_in value_ops (length row - 1) row) row in
    let y = take_width (length l - 1) l (omega arith) in
    omega (arith, h, x, y)

group_width : (key : List ℕ) (aggs : List Agg) (l : List CellKind) (k : Row) → length k ≡ length key → (rows : List Row)
    (row : Row) → group_row_in value_ops aggs k rows ≡ Some row →
    HasWidth (length (key_kinds l key ++ map (λ a. Whole) aggs)) row
group_width key aggs l k h [] row e = absurd (cc)
group_width key aggs l k h (r ∷ rows) row e = one row (ap (or_else k) e)
  where
    one : (row : Row) → or_else k (group_row_in value_ops aggs k (r ∷ rows)) ≡ or_else k (Some row) →
        HasWidth (length (key_kinds l key ++ map (λ a. Whole) aggs)) row
    one row is =
        let x = length-append k (map (λ a. value_ops.of_int (agg_in value_ops a (r ∷ rows))) aggs) in
        let y = length-map aggs (λ a. value_ops.of_int (agg_in value_ops a (r ∷ rows))) in
        let z = length-append (key_kinds l key) (map (λ a. Whole) aggs) in
        let u = length-map aggs (λ a. Whole) in
        let v = length-map key (λ column. slice_index_or l column Whole) in
        let w = ap (λ a. length a) is in
        omega (arith, h, x, y, z, u, v, w)

-- a node makes rows as wide as its kinds of rows as wide as the kinds that it reads
node_width : (n : Node) (l r : List CellKind) (a b : List (Event Row)) → IsSoundOver n l r →
    Rows (HasWidth (length l)) a → Rows (HasWidth (length r)) b →
    Rows (HasWidth (length (node_kinds n l r))) (node_events n a b)
node_width (Source stream) l r a b sound h k = h
node_width (Where of test) l r a b sound h k = each_filter (λ e. length e.row ≡ length l) (λ e. holds test e.row) a h
node_width (Select of items) l r a b sound h k =
    each_map (λ e. length e.row ≡ length l) (λ e. length e.row ≡ length (map (λ item. kind_of item l) items))
    (event_to (selected_row items))
    (λ e w. length-map items (λ item. value item e.row) ∙ sym (length-map items (λ item. kind_of item l))) a h
node_width (Union left right) l r a b sound h k =
    each_append (λ e. length e.row ≡ length l) a b h (subst (λ x. Rows (HasWidth (length x)) b) (sym sound) k)
node_width (Delay of by) l r a b sound h k =
    each_flat_map (λ e. length e.row ≡ length l) (λ e. length e.row ≡ length l) (moved_one by)
    (λ e w. rows_with_life (HasWidth (length l)) e.row (later by e.start) (later by e.end) w) a h
node_width (Hop of size period) l r a b sound h k =
    each_flat_map (λ e. length e.row ≡ length l) (λ e. length e.row ≡ length l) (hopped_one size period)
    (λ e w. rows_with_life (HasWidth (length l)) e.row (floor_to period e.start)
    (later size (floor_to period e.start)) w) a h
node_width (Duration of by) l r a b sound h k =
    each_flat_map (λ e. length e.row ≡ length l) (λ e. length e.row ≡ length l) (lasting_one by)
    (λ e w. rows_with_life (HasWidth (length l)) e.row e.start (later by e.start) w) a h
node_width (Extend of by) l r a b sound h k =
    each_flat_map (λ e. length e.row ≡ length l) (λ e. length e.row ≡ length l) (extended_one by)
    (λ e w. rows_with_life (HasWidth (length l)) e.row e.start (later by e.end) w) a h
node_width (Session of timeout key) l r a b sound h k = pick (nat_lt 0 timeout)
  where
    pick : (c : Bool) → Rows (HasWidth (length l)) (cond c (sessions (key_values key) rows_equal timeout a) [])
    pick true =
        each_map (λ e. length e.row ≡ length l) (λ e. length e.row ≡ length l)
        (session (key_values key) rows_equal timeout a) (λ e w. w) a h
    pick false = tt
node_width (Clip left right left_key right_key) l r a b sound h k =
    each_map (λ e. length e.row ≡ length l) (λ e. length e.row ≡ length l) (clip (keys_equal left_key right_key) b)
    (λ e w. w) a h
node_width (Group of key aggs) l r a b sound h k =
    grouped_rows_hold (key_values key) rows_equal rows_equal (row_of_group key aggs) (λ k. length k ≡ length key)
    (HasWidth (length (key_kinds l key ++ map (λ a. Whole) aggs)))
    (λ row. length-map key (λ column. slice_index_or row column zero_value))
    (λ k w rows row e. group_width key aggs l k w (rows_of_key_in value_ops key k rows) row e) a
node_width (Join left right left_key right_key) l r a b sound h k =
    joined_rows_hold (HasWidth (length l)) (HasWidth (length r)) (HasWidth (length (l ++ outside_key right_key r)))
    (keys_equal left_key right_key) (paired_row right_key) (paired_width right_key l r) a b h k
node_width (Anti left right left_key right_key) l r a b sound h k =
    alone_rows_hold (HasWidth (length l)) rows_equal (keys_equal left_key right_key) a b h
node_width (Coalesce of) l r a b sound h k =
    coalesced_rows_hold (HasWidth (length l)) rows_equal (alive a) (λ t. rows_alive (HasWidth (length l)) a t h)
node_width (Mean of at) l r a b sound h k =
    each_map (λ e. length e.row ≡ length l) (λ e. length e.row ≡ length (take (length l - 1) l))
    (event_to (mean_row value_ops at)) (λ e w. mean_width at l e.row w) a h
node_width (Top of key by count) l r a b sound h k =
    coalesced_rows_hold (HasWidth (length l)) rows_equal
    (λ t. top_rows (keys_equal key key) (int_in value_ops by) count (alive a t))
    (λ t. each_filter (HasWidth (length l)) _ (alive a t) (rows_alive (HasWidth (length l)) a t h))
node_width (Follow left right left_key right_key within) l r a b sound h k =
    followed_rows_hold (HasWidth (length l)) (HasWidth (length r)) (HasWidth (length (l ++ outside_key right_key r)))
    (keys_equal left_key right_key) (paired_row right_key) (paired_width right_key l r) within a b h k

each_from_all : {X : Type 0} (P : X → Type 0) (xs : List X) → All P xs → Each P xs
each_from_all P [] h = tt
each_from_all P (x ∷ xs) h = (All-head P x xs h, each_from_all P xs (All-tail P x xs h))

all_from_each : {X : Type 0} (P : X → Type 0) (xs : List X) → Each P xs → All P xs
all_from_each P [] h = All-nil P
all_from_each P (x ∷ xs) h = All-cons P x xs h.0 (all_from_each P xs h.1)

module _ (plan : PlanParts) (kept : IsPlan plan) (source : Sources) (fits : FitStreams plan.streams source) where
  abbrev Wide : ℕ → Type 0
  Wide i = Rows (HasWidth (length (kinds_at plan.schemas i))) (events source plan.nodes i)

  left_wide : (i : ℕ) → ((j : ℕ) → j < i → Wide j) → (s : Shape) → HasLower i (left_in s) →
      Rows (HasWidth (length (read_left [] (kinds_of_stream plan.streams) (kinds_at plan.schemas) s)))
      (read_left [] source (events source plan.nodes) s)
  left_wide i below (Stream s) h = each_from_all (λ e. length e.row ≡ length (kinds_of_stream plan.streams s)) (source s) (fits s)
  left_wide i below (One child) h = below child h
  left_wide i below (Two left right) h = below left h

  right_wide : (i : ℕ) → ((j : ℕ) → j < i → Wide j) → (o : Option ℕ) → HasLower i o →
      Rows (HasWidth (length (at_child [] (kinds_at plan.schemas) o))) (at_child [] (events source plan.nodes) o)
  right_wide i below None h = tt
  right_wide i below (Some child) h = below child h

  all_wide : (i : ℕ) → i < length plan.nodes → Wide i
  all_wide = by_lower (λ i. i < length plan.nodes → Wide i) (λ i below low.
      let n = slice_index_or plan.nodes i (Source 0) in
      let there = slice_get-get_or plan.nodes i (Source 0) low in
      let is = kept.nodes_are.each i n there in
      let lower : (j : ℕ) → j < i → Wide j = λ j less. below j less (omega (arith, less, low)) in
      rw (over_nodes-is [] source node_events plan.nodes (IsPlan-ordered plan kept) i n there, is.kinds)
      (node_width n _ _ _ _ is.sound (left_wide i lower (shape n) is.left_lower)
      (right_wide i lower (right_child n) is.right_lower)))

  pub events_wide : (i : ℕ) → i < length plan.nodes →
      AreWide (length (slice_index_or plan.schemas i [])) (events source plan.nodes i)
  events_wide i low =
      all_from_each (λ e. length e.row ≡ length (slice_index_or plan.schemas i [])) (events source plan.nodes i)
      (subst (λ n. Rows (HasWidth n) (events source plan.nodes i))
      (length-map (slice_index_or plan.schemas i []) (λ c. cell_kind_of c.kind)) (all_wide i low))

-- what holds of the rows of one list holds of those of an equal multiset
abbrev other : ℕ → Row → ℕ
other n row = cond (nat_eq (length row) n) 0 1

none_other : (n : ℕ) (rows : List Row) → Each (HasWidth n) rows → total (other n) rows ≡ 0
none_other n [] h = refl
none_other n (row ∷ rows) h = let e = eq-eqb (length row) n h.0 in rw e (let k = none_other n rows h.1 in let z : 0 + total (other n) rows ≡ 0 = omega (arith, k) in z)

where_none_other : (n : ℕ) (rows : List Row) → total (other n) rows ≡ 0 → Each (HasWidth n) rows
where_none_other n [] h = tt
where_none_other n (row ∷ rows) h =
    (one (nat_eq (length row) n) refl h, where_none_other n rows (rest (nat_eq (length row) n) h))
  where
    one : (b : Bool) → nat_eq (length row) n ≡ b → cond b 0 1 + total (other n) rows ≡ 0 → length row ≡ n
    one true e k = eqb-true (length row) n e
    one false e k = absurd (omega (arith, k))

    rest : (b : Bool) → cond b 0 1 + total (other n) rows ≡ 0 → total (other n) rows ≡ 0
    rest b k = omega (arith, k)

pub snapshots_wide : (plan : PlanParts) → IsPlan plan → (source : Sources) → FitStreams plan.streams source → (i t : ℕ) →
    i < length plan.nodes → t < inf →
    All (λ row. length row ≡ length (slice_index_or plan.schemas i [])) (snapshots source plan.nodes i t)
snapshots_wide plan kept source fits i t low now =
    let n = length (slice_index_or plan.schemas i []) in
    let es = events source plan.nodes i in
    let bag = (events_agree source plan.nodes (IsPlan-ordered plan kept) (IsPlan-levelled plan kept) i).same_rows t now in
    let wide = rows_alive (HasWidth n) es t (each_from_all (λ e. length e.row ≡ n) es (events_wide plan kept source fits i low)) in
    all_from_each (HasWidth n) (snapshots source plan.nodes i t)
    (where_none_other n (snapshots source plan.nodes i t) (sym (bag.weigh (other n)) ∙ none_other n (alive es t) wide))
