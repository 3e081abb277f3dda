-- The nodes of a plan by the stages that compute them.
use Rattle.std.specs.Prelude.{◌≡◌, ℕ, true, false, List, [], ◌∷◌, map}
use Rattle.std.proofs.Common.{refl, ap, Result, Ok, Err, OnOk}
use Rattle.tw_rows.specs.Bag.{total}
use Rattle.tw_rows.specs.declared.kind.CellKind.{CellKind}
use Rattle.plan_model.specs.declared.agg.Agg.{Agg}
use Rattle.plan_model.specs.declared.node.Node.{Node}
use Rattle.plan_model.specs.declared.node.Node.TheVariants.{Source, Where, Select, Union as UnionNode, Delay as DelayNode, Hop as HopNode, Duration as DurationNode, Extend as ExtendNode, Session as SessionNode, Clip as ClipNode, Group as GroupNode, Join as JoinNode, Anti as AntiNode, Coalesce, Mean, Top, Follow}
use Rattle.where_select.specs.Stages.{is_of_rows}
use Rattle.where_select.specs.Texts.{nodes_in}
use Rattle.lifetime_ops.specs.Nodes.{node_of}
use Rattle.lifetime_ops.specs.declared.change.Change.{Change}
use Rattle.lifetime_ops.specs.declared.change.Change.TheVariants.{Delay, Hop, Duration, Mean as MeanChange}
use Rattle.edge_stream.specs.Standing.{Standing}
use Rattle.snapshot_agg.specs.Operating.{standing as group_standing, entries as group_entries}
use Rattle.sweep_sides.specs.Operating.{standing as swept_standing, entries as swept_entries}
use Rattle.shard_apply.specs.Whole.{first_of}
use Rattle.dataflow.specs.declared.stage.Stage.{Stage}
use Rattle.dataflow.specs.declared.stage.Stage.TheVariants.{Rows, Life, Union, Extend, Join, Group, Anti, Session, Clip, Coalesce as CoalesceStage, Follow as FollowStage, Top as TopStage}
use Rattle.dataflow.specs.Operating.{over_two}
use Rattle.dataflow.specs.Stages.{IsReady, entries_in}
use Rattle.dataflow.specs.Held.{has_two}

-- a node that is not of rows, and that no stage of one child computes, has two children
pub two_left : (n : Node) → is_of_rows n ≡ false → ((of by : ℕ) → n ≡ DelayNode of by → ⊥) → ((of size period : ℕ) → n ≡ HopNode of size period → ⊥) → ((of by : ℕ) → n ≡ DurationNode of by → ⊥) →
    ((of by : ℕ) → n ≡ ExtendNode of by → ⊥) → ((of : ℕ) (key : List ℕ) (aggs : List Agg) → n ≡ GroupNode of key aggs → ⊥) → ((of timeout : ℕ) (key : List ℕ) → n ≡ SessionNode of timeout key → ⊥) →
    ((of : ℕ) → n ≡ Coalesce of → ⊥) → ((of : ℕ) (at : List ℕ) → n ≡ Mean of at → ⊥) →
    ((of : ℕ) (key : List ℕ) (by count : ℕ) → n ≡ Top of key by count → ⊥) → has_two n ≡ true
two_left (Source stream) other d h l e g s q m t = absurd (cc)
two_left (Where of test) other d h l e g s q m t = absurd (cc)
two_left (Select of items) other d h l e g s q m t = absurd (cc)
two_left (UnionNode left right) other d h l e g s q m t = refl
two_left (DelayNode of by) other d h l e g s q m t = absurd (d of by refl)
two_left (HopNode of size period) other d h l e g s q m t = absurd (h of size period refl)
two_left (DurationNode of by) other d h l e g s q m t = absurd (l of by refl)
two_left (ExtendNode of by) other d h l e g s q m t = absurd (e of by refl)
two_left (SessionNode of timeout key) other d h l e g s q m t = absurd (s of timeout key refl)
two_left (ClipNode left right left_key right_key) other d h l e g s q m t = refl
two_left (GroupNode of key aggs) other d h l e g s q m t = absurd (g of key aggs refl)
two_left (JoinNode left right left_key right_key) other d h l e g s q m t = refl
two_left (AntiNode left right left_key right_key) other d h l e g s q m t = refl
two_left (Coalesce of) other d h l e g s q m t = absurd (q of refl)
two_left (Mean of at) other d h l e g s q m t = absurd (m of at refl)
two_left (Top of key by count) other d h l e g s q m t = absurd (t of key by count refl)
two_left (Follow left right left_key right_key within) other d h l e g s q m t = refl

pub two_alone : (n : Node) → has_two n ≡ true → ((left right : ℕ) → n ≡ UnionNode left right → ⊥) → ((left right : ℕ) (left_key right_key : List ℕ) → n ≡ JoinNode left right left_key right_key → ⊥) →
    ((left right : ℕ) (left_key right_key : List ℕ) → n ≡ AntiNode left right left_key right_key → ⊥) → ((left right : ℕ) (left_key right_key : List ℕ) → n ≡ ClipNode left right left_key right_key → ⊥) →
    ((left right : ℕ) (left_key right_key : List ℕ) (within : ℕ) → n ≡ Follow left right left_key right_key within → ⊥) → ⊥
two_alone (Source stream) two u j a c f = cc
two_alone (Where of test) two u j a c f = cc
two_alone (Select of items) two u j a c f = cc
two_alone (UnionNode left right) two u j a c f = u left right refl
two_alone (DelayNode of by) two u j a c f = cc
two_alone (HopNode of size period) two u j a c f = cc
two_alone (DurationNode of by) two u j a c f = cc
two_alone (ExtendNode of by) two u j a c f = cc
two_alone (SessionNode of timeout key) two u j a c f = cc
two_alone (ClipNode left right left_key right_key) two u j a c f = c left right left_key right_key refl
two_alone (GroupNode of key aggs) two u j a c f = cc
two_alone (JoinNode left right left_key right_key) two u j a c f = j left right left_key right_key refl
two_alone (AntiNode left right left_key right_key) two u j a c f = a left right left_key right_key refl
two_alone (Coalesce of) two u j a c f = cc
two_alone (Mean of at) two u j a c f = cc
two_alone (Top of key by count) two u j a c f = cc
two_alone (Follow left right left_key right_key within) two u j a c f = f left right left_key right_key within refl

-- a node that is not of rows has no expressions
pub no_nodes_in : (n : Node) → is_of_rows n ≡ false → nodes_in n ≡ []
no_nodes_in (Source stream) other = absurd (cc)
no_nodes_in (Where of test) other = absurd (cc)
no_nodes_in (Select of items) other = absurd (cc)
no_nodes_in (UnionNode left right) other = refl
no_nodes_in (DelayNode of by) other = refl
no_nodes_in (HopNode of size period) other = refl
no_nodes_in (DurationNode of by) other = refl
no_nodes_in (ExtendNode of by) other = refl
no_nodes_in (SessionNode of timeout key) other = refl
no_nodes_in (ClipNode left right left_key right_key) other = refl
no_nodes_in (GroupNode of key aggs) other = refl
no_nodes_in (JoinNode left right left_key right_key) other = refl
no_nodes_in (AntiNode left right left_key right_key) other = refl
no_nodes_in (Coalesce of) other = refl
no_nodes_in (Mean of at) other = refl
no_nodes_in (Top of key by count) other = refl
no_nodes_in (Follow left right left_key right_key within) other = refl

-- an operator computes no node of rows
not_rows : (n m : Node) → m ≡ over_two n → is_of_rows m ≡ false → is_of_rows n ≡ true → ⊥
not_rows (Source stream) m named other is = (let e : is_of_rows m ≡ true = ap is_of_rows named in cc)
not_rows (Where of test) m named other is = (let e : is_of_rows m ≡ true = ap is_of_rows named in cc)
not_rows (Select of items) m named other is = (let e : is_of_rows m ≡ true = ap is_of_rows named in cc)
not_rows (UnionNode left right) m named other is = cc
not_rows (DelayNode of by) m named other is = cc
not_rows (HopNode of size period) m named other is = cc
not_rows (DurationNode of by) m named other is = cc
not_rows (ExtendNode of by) m named other is = cc
not_rows (SessionNode of timeout key) m named other is = cc
not_rows (ClipNode left right left_key right_key) m named other is = cc
not_rows (GroupNode of key aggs) m named other is = cc
not_rows (JoinNode left right left_key right_key) m named other is = cc
not_rows (AntiNode left right left_key right_key) m named other is = cc
not_rows (Coalesce of) m named other is = cc
not_rows (Mean of at) m named other is = cc
not_rows (Top of key by count) m named other is = cc
not_rows (Follow left right left_key right_key within) m named other is = cc

life_node : (change : Change) → is_of_rows (node_of change) ≡ false
life_node (Delay by) = refl
life_node (Hop size period) = refl
life_node (Duration by) = refl
life_node (MeanChange at) = refl

-- nor does one in shards
shards_keep_nothing : {O : Type 0} (standing : O → Standing) (entries : O → ℕ) → ((o : O) → is_of_rows (standing o).node ≡ false) → (os : List O) (n : Node) →
    (first_of (map standing os)).node ≡ over_two n → is_of_rows n ≡ true → total entries os ≡ 0
shards_keep_nothing standing entries other [] n named rows = refl
shards_keep_nothing standing entries other (o ∷ os) n named rows = absurd (not_rows n (standing o).node named (other o) rows)

-- so the stage of such a node keeps nothing
pub rows_keep_nothing : (texts : List (List ℕ)) (capacity : ℕ) (left right : List CellKind) (n : Node) (s : Stage) (x y : ℕ) → IsReady texts capacity left right n s x y → is_of_rows n ≡ true → entries_in s ≡ 0
rows_keep_nothing texts capacity left right n (Rows s) x y ready rows = refl
rows_keep_nothing texts capacity left right n (Life o) x y ready rows = absurd (not_rows n (node_of o.change) ready.named (life_node o.change) rows)
rows_keep_nothing texts capacity left right n (Union o) x y ready rows = absurd (not_rows n _ ready.named refl rows)
rows_keep_nothing texts capacity left right n (Extend o) x y ready rows = absurd (not_rows n _ ready.named refl rows)
rows_keep_nothing texts capacity left right n (Join w) x y ready rows = shards_keep_nothing swept_standing swept_entries (λ o. refl) w.operators n ready.named rows
rows_keep_nothing texts capacity left right n (Group w) x y ready rows = shards_keep_nothing group_standing group_entries (λ o. refl) w.operators n ready.named rows
rows_keep_nothing texts capacity left right n (Session w) x y ready rows = shards_keep_nothing swept_standing swept_entries (λ o. refl) w.operators n ready.named rows
rows_keep_nothing texts capacity left right n (Anti w) x y ready rows = shards_keep_nothing swept_standing swept_entries (λ o. refl) w.operators n ready.named rows
rows_keep_nothing texts capacity left right n (Clip w) x y ready rows = shards_keep_nothing swept_standing swept_entries (λ o. refl) w.operators n ready.named rows
rows_keep_nothing texts capacity left right n (CoalesceStage o) x y ready rows = absurd (not_rows n _ ready.named refl rows)
rows_keep_nothing texts capacity left right n (FollowStage o) x y ready rows = absurd (not_rows n _ ready.named refl rows)
rows_keep_nothing texts capacity left right n (TopStage o) x y ready rows = absurd (not_rows n _ ready.named refl rows)

-- what holds anyway holds after an Ok
pub on_ok : {A E : Type 0} (r : Result A E) (P : Type 0) → P → OnOk r P
on_ok (Ok a) P p = p
on_ok (Err e) P p = tt
