-- Stages as they are made.
use Rattle.std.specs.Prelude.{◌≡◌, ℕ, zero, suc, ◌<◌, ◌≤◌, true, false, Some, List, [], ◌∷◌, map, length, get_or, slice_get, slice_index_or, All}
use Rattle.std.proofs.Common.{refl, sym, ap, subst, ◌∙◌, arith}
use Rattle.std.proofs.lemmas.List.{length-map}
use Rattle.std.proofs.lemmas.List.Elements.{All-head, All-tail}
use Rattle.std.proofs.lemmas.Option.{slice_get-get_or, slice_get_within}
use Rattle.tw_rows.specs.Kinds.{cell_kind_of}
use Rattle.tw_rows.specs.declared.kind.Kind.{Kind}
use Rattle.tw_rows.specs.declared.kind.CellKind.{CellKind}
use Rattle.tw_rows.specs.declared.kind.CellKind.TheVariants.{Whole}
use Rattle.tw_rows.specs.declared.schema.StreamDef.{StreamDef}
use Rattle.edge_stream.specs.Listing.{EdgeListView, cells_of}
use Rattle.edge_stream.specs.Lists.{no_edges}
use Rattle.plan_model.specs.declared.node.Node.{Node}
use Rattle.plan_model.specs.declared.node.Node.TheVariants.{Source, Union as UnionNode, Extend as ExtendNode, Session as SessionNode, Clip as ClipNode, Group as GroupNode, Join as JoinNode, Anti as AntiNode, Follow as FollowNode, Top as TopNode}
use Rattle.plan_model.specs.IsPlan.{PlanParts, IsPlan, IsSoundOver, kinds_at, kinds_of_schema, kinds_of_stream, node_kinds}
use Rattle.plan_model.specs.Shape.{Shape, Stream, One, Two, shape, left_in, read_left, HasLower}
use Rattle.plan_laws.proofs.Lives.{lives_opening}
use Rattle.plan_laws.proofs.Unions.{union_opening}
use Rattle.plan_laws.proofs.Extending.{extended_opening}
use Rattle.lifetime_ops.specs.Nodes.{node_of, answer_kinds, divides_ints}
use Rattle.lifetime_ops.specs.declared.change.Change.{Change}
use Rattle.lifetime_ops.specs.declared.change.Change.TheVariants.{Delay, Hop, Duration, Mean}
use Rattle.lifetime_ops.specs.declared.alter_lifetime.AlterLifetime.{AlterLifetime}
use Rattle.union_clip.specs.declared.union.Union.{Union as UnionOperator}
use Rattle.lifetime_ops.specs.Waiting.{edges_of_pending}
use Rattle.lifetime_ops.specs.declared.extend.ExtendLifetime.{ExtendLifetime}
use Rattle.plan_model.specs.Keys.{paired_row}
use Rattle.temporal_join.proofs.Answering.{pair_mapped}
use Rattle.plan_model.specs.declared.agg.Agg.{Agg}
use Rattle.snapshot_agg.specs.Answering.{group_kinds}
use Rattle.follow_op.specs.Operating.{IsNew as IsFollowNew}
use Rattle.follow_op.specs.declared.follow.Follow.{Follow as FollowOperator}
use Rattle.follow_op.proofs.Resuming.{follow_opening}
use Rattle.sweep_sides.specs.Sweepers.{new_standing}
use Rattle.dataflow.specs.declared.stage.Stage.TheVariants.{Life, Union, Extend, Follow}
use Rattle.dataflow.specs.Operating.{CanOperate, MeanAlike, over_two}
use Rattle.dataflow.specs.Stages.{left_kinds, right_kinds, changing, StartsFor}

-- no stream has more columns than a plan may have
abbrev IsNarrow : StreamDef → Type 0
IsNarrow stream = length stream.schema ≤ 32

stream_narrow : (streams : List StreamDef) → All IsNarrow streams → (s : ℕ) → length (slice_index_or (map (λ d. kinds_of_schema d.schema) streams) s []) ≤ 32
stream_narrow [] narrow s = omega arith
stream_narrow (d ∷ ds) narrow zero = (let count = length-map d.schema (λ c. cell_kind_of c.kind) in let low = All-head IsNarrow d ds narrow in omega (arith, count, low))
stream_narrow (d ∷ ds) narrow (suc s) = stream_narrow ds (All-tail IsNarrow d ds narrow) s

-- and so a node reads no more
module _ (plan : PlanParts) (whole : IsPlan plan) where
  child_narrow : (i k : ℕ) → i ≤ length plan.nodes → k < i → length (kinds_at plan.schemas k) ≤ 32
  child_narrow i k all low =
      let there = slice_get-get_or plan.nodes k (Source 0) (omega (arith, all, low)) in
      let narrow = (whole.nodes_are.each k (get_or plan.nodes k (Source 0)) there).narrow in
      let count = length-map (slice_index_or plan.schemas k []) (λ c. cell_kind_of c.kind) in
      omega (arith, narrow, count)

  read_narrow : (i : ℕ) (s : Shape) → i ≤ length plan.nodes → HasLower i (left_in s) → length (read_left [] (kinds_of_stream plan.streams) (kinds_at plan.schemas) s) ≤ 32
  read_narrow i (Stream stream) all lower = stream_narrow plan.streams whole.nodes_are.narrow_streams stream
  read_narrow i (One child) all lower = child_narrow i child all lower
  read_narrow i (Two left right) all lower = child_narrow i left all lower

  pub left_narrow : (i : ℕ) (n : Node) → slice_get plan.nodes i ≡ Some n → length (left_kinds plan n) ≤ 32
  left_narrow i n there = read_narrow i (shape n) (let low = slice_get_within plan.nodes i n there in omega (arith, low)) (whole.nodes_are.each i n there).left_lower

  pub narrow_read : (i : ℕ) → i < length plan.nodes → (kinds : List Kind) → ((n : Node) → slice_get plan.nodes i ≡ Some n → map cell_kind_of kinds ≡ left_kinds plan n) → length kinds ≤ 32
  narrow_read i low kinds read =
      let n = get_or plan.nodes i (Source 0) in
      let there = slice_get-get_or plan.nodes i (Source 0) low in
      let count = length-map kinds cell_kind_of in
      let same = ap length (read n there) in
      let narrow = left_narrow i n there in
      omega (arith, count, same, narrow)

changes_alike : (of : ℕ) (change : Change) → MeanAlike (changing of change) (node_of change)
changes_alike of (Delay by) = record { events = λ l r. refl; closes = λ x y. refl; undefined = λ rows. refl; held = λ x y hl hr. refl }
changes_alike of (Hop size period) = record { events = λ l r. refl; closes = λ x y. refl; undefined = λ rows. refl; held = λ x y hl hr. refl }
changes_alike of (Duration by) = record { events = λ l r. refl; closes = λ x y. refl; undefined = λ rows. refl; held = λ x y hl hr. refl }
changes_alike of (Mean at) = record { events = λ l r. refl; closes = λ x y. refl; undefined = λ rows. refl; held = λ x y hl hr. refl }

changes_named : (of : ℕ) (change : Change) → node_of change ≡ over_two (changing of change)
changes_named of (Delay by) = refl
changes_named of (Hop size period) = refl
changes_named of (Duration by) = refl
changes_named of (Mean at) = refl

changes_right : (plan : PlanParts) (of : ℕ) (change : Change) → [] ≡ right_kinds plan (changing of change)
changes_right plan of (Delay by) = refl
changes_right plan of (Hop size period) = refl
changes_right plan of (Duration by) = refl
changes_right plan of (Mean at) = refl

-- a plan's mean divides ints
sums_are_ints : (kinds : List CellKind) (at : List ℕ) → All (λ column. slice_get kinds column ≡ Some Whole) at → divides_ints (Mean at) kinds ≡ true
sums_are_ints kinds [] all = refl
sums_are_ints kinds (k ∷ ks) all =
    let here = All-head (λ column. slice_get kinds column ≡ Some Whole) k ks all in
    let rest = sums_are_ints kinds ks (All-tail (λ column. slice_get kinds column ≡ Some Whole) k ks all) in
    rw here rest

changes_divide : (of : ℕ) (change : Change) (l r : List CellKind) → IsSoundOver (changing of change) l r → divides_ints change l ≡ true
changes_divide of (Delay by) l r sound = refl
changes_divide of (Hop size period) l r sound = refl
changes_divide of (Duration by) l r sound = refl
changes_divide of (Mean at) l r sound = sums_are_ints l at sound.whole

pub change_divides : (plan : PlanParts) → IsPlan plan → (i of : ℕ) (change : Change) → slice_get plan.nodes i ≡ Some (changing of change) →
    divides_ints change (left_kinds plan (changing of change)) ≡ true
change_divides plan whole i of change there =
    changes_divide of change (left_kinds plan (changing of change)) (right_kinds plan (changing of change)) (whole.nodes_are.each i (changing of change) there).sound

module _ (plan : PlanParts) (capacity : ℕ) (kinds : List Kind) (texts : List (List ℕ)) where
  pub life_starts : (of : ℕ) (change : Change) (o : AlterLifetime) → o.change ≡ change → o.carried ≡ no_edges kinds capacity → o.left_to ≡ 0 → o.right_to ≡ 0 → o.failed ≡ false →
      map cell_kind_of kinds ≡ left_kinds plan (changing of change) → StartsFor texts capacity plan (changing of change) (Life o)
  life_starts of change o same carried left_to right_to works read = record {
    ready = record {
      node = subst (λ k. MeanAlike (changing of change) (node_of k)) (sym same) (changes_alike of change);
      named = ap node_of same ∙ changes_named of change;
      works = works;
      left_closed = left_to;
      right_closed = right_to;
      left_kinds = ap cells_of carried ∙ read;
      right_kinds = changes_right plan of change;
      own_kinds = ap (λ k. answer_kinds k (cells_of o.carried)) same ∙ ap (answer_kinds change) (ap cells_of carried ∙ read) ∙ own of change;
      batch_rows = ap (λ l. l.capacity) carried;
    };
    opens = lives_opening (node_of o.change) texts o.left_to o.right_to o.carried.edges (ap (λ l. l.edges) carried) left_to right_to;
    made = record { empty = ap (λ l. l.edges) carried; left = left_to; right = right_to; works = works };
  }
    where
      own : (of : ℕ) (change : Change) → answer_kinds change (left_kinds plan (changing of change)) ≡ node_kinds (changing of change) (left_kinds plan (changing of change)) (right_kinds plan (changing of change))
      own of (Delay by) = refl
      own of (Hop size period) = refl
      own of (Duration by) = refl
      own of (Mean at) = refl

  pub extend_starts : (of by : ℕ) (o : ExtendLifetime) → o.by ≡ by → o.carried ≡ no_edges kinds capacity → o.ends ≡ [] → o.left_to ≡ 0 → o.right_to ≡ 0 → o.failed ≡ false →
      map cell_kind_of kinds ≡ left_kinds plan (ExtendNode of by) → StartsFor texts capacity plan (ExtendNode of by) (Extend o)
  extend_starts of by o same carried none left_to right_to works read = record {
    ready = record {
      node = subst (λ k. MeanAlike (ExtendNode of by) (ExtendNode 0 k)) (sym same) (record { events = λ l r. refl; closes = λ x y. refl; undefined = λ rows. refl; held = λ x y hl hr. refl });
      named = ap (λ k. ExtendNode 0 k) same;
      works = works;
      left_closed = left_to;
      right_closed = right_to;
      left_kinds = ap cells_of carried ∙ read;
      right_kinds = refl;
      own_kinds = ap cells_of carried ∙ read;
      batch_rows = ap (λ l. l.capacity) carried;
    };
    opens = extended_opening o.by texts o.left_to o.right_to o.carried.edges (edges_of_pending o.ends) (ap (λ l. l.edges) carried) (ap edges_of_pending none) left_to right_to;
    made = record { empty = ap (λ l. l.edges) carried; none = none; left = left_to; right = right_to; works = works };
  }

  pub union_starts : (left right : ℕ) (o : UnionOperator) → o.left ≡ no_edges kinds capacity → o.right ≡ o.left → o.left_to ≡ 0 → o.right_to ≡ 0 → o.failed ≡ false →
      map cell_kind_of kinds ≡ left_kinds plan (UnionNode left right) → left_kinds plan (UnionNode left right) ≡ right_kinds plan (UnionNode left right) → StartsFor texts capacity plan (UnionNode left right) (Union o)
  union_starts left right o made like left_to right_to works read alike = record {
    ready = record {
      node = record { events = λ l r. refl; closes = λ x y. refl; undefined = λ rows. refl; held = λ x y hl hr. refl };
      named = refl;
      works = works;
      left_closed = left_to;
      right_closed = right_to;
      left_kinds = ap cells_of made ∙ read;
      right_kinds = ap cells_of made ∙ read ∙ alike;
      own_kinds = ap cells_of made ∙ read;
      batch_rows = ap (λ l. l.capacity) made;
    };
    opens = union_opening texts o.left_to o.right_to o.left.edges o.right.edges (ap (λ l. l.edges) made) (ap (λ l. l.edges) (like ∙ made)) left_to right_to;
    made = record { left_empty = ap (λ l. l.edges) made; right_empty = ap (λ l. l.edges) (like ∙ made); left = left_to; right = right_to; works = works };
  }

-- both sides of a union have the same columns
pub union_alike : (plan : PlanParts) → IsPlan plan → (i left right : ℕ) → slice_get plan.nodes i ≡ Some (UnionNode left right) → left_kinds plan (UnionNode left right) ≡ right_kinds plan (UnionNode left right)
union_alike plan whole i left right there = (whole.nodes_are.each i (UnionNode left right) there).sound

-- the kinds of a node's own columns
pub own_kinds_are : (plan : PlanParts) → IsPlan plan → (i : ℕ) (n : Node) → slice_get plan.nodes i ≡ Some n → kinds_at plan.schemas i ≡ node_kinds n (left_kinds plan n) (right_kinds plan n)
own_kinds_are plan whole i n there = (whole.nodes_are.each i n there).kinds

pub told_narrow : (plan : PlanParts) → IsPlan plan → (i : ℕ) → i < length plan.nodes → (kinds : List Kind) → map cell_kind_of kinds ≡ kinds_at plan.schemas i → length kinds ≤ 32
told_narrow plan whole i low kinds told =
    let there = slice_get-get_or plan.nodes i (Source 0) low in
    let narrow = (whole.nodes_are.each i (get_or plan.nodes i (Source 0)) there).narrow in
    let count = length-map (slice_index_or plan.schemas i []) (λ c. cell_kind_of c.kind) in
    let mapped = length-map kinds cell_kind_of in
    let same = ap length told in
    omega (arith, narrow, count, mapped, same)

-- the right child of a join is a node of the plan, and the join is not too wide
pub join_right : (plan : PlanParts) → IsPlan plan → (i left right : ℕ) (left_key right_key : List ℕ) → slice_get plan.nodes i ≡ Some (JoinNode left right left_key right_key) → right < length plan.nodes
join_right plan whole i left right left_key right_key there =
    let lower : right < i = (whole.nodes_are.each i (JoinNode left right left_key right_key) there).right_lower in
    let low = slice_get_within plan.nodes i (JoinNode left right left_key right_key) there in
    omega (arith, lower, low)

pub join_kinds : (plan : PlanParts) (left right : ℕ) (left_key right_key : List ℕ) (l r : List Kind) → map cell_kind_of l ≡ left_kinds plan (JoinNode left right left_key right_key) → map cell_kind_of r ≡ kinds_at plan.schemas right →
    map cell_kind_of (paired_row right_key l r) ≡ node_kinds (JoinNode left right left_key right_key) (left_kinds plan (JoinNode left right left_key right_key)) (right_kinds plan (JoinNode left right left_key right_key))
join_kinds plan left right left_key right_key l r read told = sym (pair_mapped cell_kind_of right_key l r) ∙ (λ i. paired_row right_key (read i) (told i))

pub join_narrow : (plan : PlanParts) → IsPlan plan → (i left right : ℕ) (left_key right_key : List ℕ) → slice_get plan.nodes i ≡ Some (JoinNode left right left_key right_key) → (l r : List Kind) →
    map cell_kind_of l ≡ left_kinds plan (JoinNode left right left_key right_key) → map cell_kind_of r ≡ kinds_at plan.schemas right → length (paired_row right_key l r) ≤ 32
join_narrow plan whole i left right left_key right_key there l r read told =
    told_narrow plan whole i (slice_get_within plan.nodes i (JoinNode left right left_key right_key) there) (paired_row right_key l r)
    (join_kinds plan left right left_key right_key l r read told ∙ sym (own_kinds_are plan whole i (JoinNode left right left_key right_key) there))

-- the columns of a group follow from those of its child
pub group_like : (plan : PlanParts) → IsPlan plan → (i of : ℕ) (key : List ℕ) (aggs : List Agg) → slice_get plan.nodes i ≡ Some (GroupNode of key aggs) → (l own : List Kind) →
    map cell_kind_of l ≡ left_kinds plan (GroupNode of key aggs) → map cell_kind_of own ≡ kinds_at plan.schemas i → map cell_kind_of own ≡ group_kinds key aggs (map cell_kind_of l)
group_like plan whole i of key aggs there l own read told = told ∙ own_kinds_are plan whole i (GroupNode of key aggs) there ∙ ap (group_kinds key aggs) (sym read)

-- the right child of an anti-join is a node of the plan
pub anti_right : (plan : PlanParts) → IsPlan plan → (i left right : ℕ) (left_key right_key : List ℕ) → slice_get plan.nodes i ≡ Some (AntiNode left right left_key right_key) → right < length plan.nodes
anti_right plan whole i left right left_key right_key there =
    let lower : right < i = (whole.nodes_are.each i (AntiNode left right left_key right_key) there).right_lower in
    let low = slice_get_within plan.nodes i (AntiNode left right left_key right_key) there in
    omega (arith, lower, low)

-- the timeout of a session of a plan is at least 1
pub session_lasts : (plan : PlanParts) → IsPlan plan → (i of timeout : ℕ) (key : List ℕ) → slice_get plan.nodes i ≡ Some (SessionNode of timeout key) → 1 ≤ timeout
session_lasts plan whole i of timeout key there = (whole.nodes_are.each i (SessionNode of timeout key) there).sound.0

-- the right child of a clip is a node of the plan
pub clip_right : (plan : PlanParts) → IsPlan plan → (i left right : ℕ) (left_key right_key : List ℕ) → slice_get plan.nodes i ≡ Some (ClipNode left right left_key right_key) → right < length plan.nodes
clip_right plan whole i left right left_key right_key there =
    let lower : right < i = (whole.nodes_are.each i (ClipNode left right left_key right_key) there).right_lower in
    let low = slice_get_within plan.nodes i (ClipNode left right left_key right_key) there in
    omega (arith, lower, low)

-- an operator that stands so as it is made, of a node that means the same over the children 0 and 1, can take a first step
pub new_can : (plan : PlanParts) (capacity : ℕ) (n m : Node) (l r own : List Kind) → MeanAlike n m → m ≡ over_two n →
    map cell_kind_of l ≡ left_kinds plan n → map cell_kind_of r ≡ right_kinds plan n → map cell_kind_of own ≡ node_kinds n (left_kinds plan n) (right_kinds plan n) →
    CanOperate capacity (left_kinds plan n) (right_kinds plan n) n (new_standing m l r own capacity) 0 0
new_can plan capacity n m l r own alike named on_left on_right on_own = record {
  node = alike;
  named = named;
  works = refl;
  left_closed = refl;
  right_closed = refl;
  left_kinds = on_left;
  right_kinds = on_right;
  own_kinds = on_own;
  batch_rows = refl;
}

-- the right child of a follow is a node of the plan, the follow is not too wide, and its time is at least 1
module _ (plan : PlanParts) (whole : IsPlan plan) (i left right : ℕ) (left_key right_key : List ℕ) (within : ℕ) (there : slice_get plan.nodes i ≡ Some (FollowNode left right left_key right_key within)) where
  pub follow_right : right < length plan.nodes
  follow_right =
      let lower : right < i = (whole.nodes_are.each i (FollowNode left right left_key right_key within) there).right_lower in
      let low = slice_get_within plan.nodes i (FollowNode left right left_key right_key within) there in
      omega (arith, lower, low)

  pub follow_lasts : 1 ≤ within
  follow_lasts = (whole.nodes_are.each i (FollowNode left right left_key right_key within) there).sound.0

  pub follow_narrow : (l r : List Kind) → map cell_kind_of l ≡ left_kinds plan (FollowNode left right left_key right_key within) → map cell_kind_of r ≡ kinds_at plan.schemas right →
      length (paired_row right_key l r) ≤ 32
  follow_narrow l r read told =
      told_narrow plan whole i (slice_get_within plan.nodes i (FollowNode left right left_key right_key within) there) (paired_row right_key l r)
      (join_kinds plan left right left_key right_key l r read told ∙ sym (own_kinds_are plan whole i (FollowNode left right left_key right_key within) there))

pub follow_starts : (plan : PlanParts) (capacity : ℕ) (l r : List Kind) (texts : List (List ℕ)) (left right : ℕ) (left_key right_key : List ℕ) (within : ℕ) (o : FollowOperator) →
    o.sides.rows.left.key ≡ left_key → o.sides.rows.right_key.columns ≡ right_key → o.sides.rows.within ≡ within → o.left_kinds.items ≡ l → o.right_kinds.items ≡ r →
    o.own_kinds.items ≡ paired_row right_key l r → o.capacity ≡ capacity → IsFollowNew o →
    map cell_kind_of l ≡ left_kinds plan (FollowNode left right left_key right_key within) → map cell_kind_of r ≡ kinds_at plan.schemas right →
    StartsFor texts capacity plan (FollowNode left right left_key right_key within) (Follow o)
follow_starts plan capacity l r texts left right left_key right_key within o same_left same_right same_within left_like right_like own_like rows opening read told = record {
  ready = record {
    node = subst (MeanAlike (FollowNode left right left_key right_key within)) (sym (λ j. FollowNode 0 1 (same_left j) (same_right j) (same_within j)))
        (record { events = λ a b. refl; closes = λ x y. refl; undefined = λ rows. refl; held = λ x y hl hr. refl });
    named = λ j. FollowNode 0 1 (same_left j) (same_right j) (same_within j);
    works = opening.works;
    left_closed = opening.left_open;
    right_closed = opening.right_open;
    left_kinds = ap (map cell_kind_of) left_like ∙ read;
    right_kinds = ap (map cell_kind_of) right_like ∙ told;
    own_kinds = ap (map cell_kind_of) own_like ∙ join_kinds plan left right left_key right_key l r read told;
    batch_rows = rows;
  };
  opens = follow_opening o.sides.rows.left.key o.sides.rows.right_key.columns o.sides.rows.within (map cell_kind_of o.left_kinds.items) (map cell_kind_of o.right_kinds.items) texts o.left_to o.right_to
      o.sides.rows.left.rows o.sides.rows.queue.items o.sides.left_waiting o.sides.right_waiting o.failed opening;
  made = opening;
}

-- a top of a plan shows at least one row
pub top_shows : (plan : PlanParts) → IsPlan plan → (i of : ℕ) (key : List ℕ) (by count : ℕ) → slice_get plan.nodes i ≡ Some (TopNode of key by count) → 1 ≤ count
top_shows plan whole i of key by count there = (whole.nodes_are.each i (TopNode of key by count) there).sound.some
