-- No two parts of a plan at work have the same name.
use Rattle.std.proofs.Common.{◌≡◌, ◌<◌, ◌≤◌, ℕ, zero, suc, Bool, true, false, List, [], ◌∷◌, ◌++◌, refl, ◌∙◌, arith, append_assoc}
use Rattle.std.specs.Prelude.{nat_eq, ◌&&◌}
use Rattle.std.proofs.lemmas.Bool.{ne_eqb}
use Rattle.std.proofs.lemmas.List.Folds.{list_any-append}
use Rattle.tw_rows.specs.declared.kind.CellKind.{CellKind}
use Rattle.plan_model.specs.declared.node.Node.{Node}
use Rattle.plan_model.specs.IsPlan.{PlanParts}
use Rattle.frozen_state.specs.declared.owner.Owner.{Owner}
use Rattle.frozen_state.specs.declared.owner.Owner.TheVariants as owners
use Rattle.frozen_state.specs.Forms.{PartFormView, is_owner, is_form_of, is_named_in, AreApart, shard_forms, node_forms, node_rows, shards_of, output_form, part_forms}

above : (a b : ℕ) → a < b → nat_eq b a ≡ false
above a b low = ne_eqb b a (λ e. absurd (omega (arith, low, e)))

none : (b : Bool) → (b && false) ≡ false
none true = refl
none false = refl

named_append : (f : PartFormView) (a b : List PartFormView) → is_named_in f a ≡ false → is_named_in f b ≡ false → is_named_in f (a ++ b) ≡ false
named_append f a b h k = list_any-append (is_form_of f.owner f.shard) a b ∙ rw (h, k) refl

-- forms of another owner
of_other : (f : PartFormView) (owner : Owner) (rows : List (List CellKind)) (first n : ℕ) → is_owner owner f.owner ≡ false →
    is_named_in f (shard_forms owner rows first n) ≡ false
of_other f owner rows first zero h = refl
of_other f owner rows first (suc n) h = rw h (of_other f owner rows (suc first) n h)

-- forms of later shards
of_later : (f : PartFormView) (owner : Owner) (rows : List (List CellKind)) (first n : ℕ) → f.shard < first →
    is_named_in f (shard_forms owner rows first n) ≡ false
of_later f owner rows first zero h = refl
of_later f owner rows first (suc n) h = rw (above f.shard first h, none (is_owner owner f.owner)) (of_later f owner rows (suc first) n (omega arith))

-- forms of nodes from i on
of_nodes : (f : PartFormView) (workers : ℕ) (plan : PlanParts) (i : ℕ) (ns : List Node) → ((j : ℕ) → i ≤ j → is_owner (owners.Node j) f.owner ≡ false) →
    is_named_in f (node_forms workers plan i ns) ≡ false
of_nodes f workers plan i [] h = refl
of_nodes f workers plan i (n ∷ ns) h = named_append f (shard_forms (owners.Node i) (node_rows plan i n) 0 (shards_of workers n)) _
    (of_other f (owners.Node i) (node_rows plan i n) 0 (shards_of workers n) (h i (omega arith)))
    (of_nodes f workers plan (suc i) ns (λ j low. h j (omega arith)))

-- one node's, before what has none of their names
node_apart : (i : ℕ) (rows : List (List CellKind)) (first n : ℕ) (rest : List PartFormView) → ((shard : ℕ) → is_named_in (record { owner = owners.Node i; shard = shard; rows = rows }) rest ≡ false) →
    AreApart rest → AreApart (shard_forms (owners.Node i) rows first n ++ rest)
node_apart i rows first zero rest h apart = apart
node_apart i rows first (suc n) rest h apart = (
  named_append (record { owner = owners.Node i; shard = first; rows = rows }) (shard_forms (owners.Node i) rows (suc first) n) rest
      (of_later (record { owner = owners.Node i; shard = first; rows = rows }) (owners.Node i) rows (suc first) n (omega arith)) (h first),
  node_apart i rows (suc first) n rest h apart,
)

nodes_apart : (workers : ℕ) (plan : PlanParts) (i : ℕ) (ns : List Node) → AreApart (node_forms workers plan i ns ++ output_form plan ∷ [])
nodes_apart workers plan i [] = (refl, tt)
nodes_apart workers plan i (n ∷ ns) =
    let rest = node_forms workers plan (suc i) ns ++ output_form plan ∷ [] in
    let named = λ (shard : ℕ). named_append (record { owner = owners.Node i; shard = shard; rows = node_rows plan i n }) (node_forms workers plan (suc i) ns) (output_form plan ∷ [])
    (of_nodes (record { owner = owners.Node i; shard = shard; rows = node_rows plan i n }) workers plan (suc i) ns (λ j low. above i j (omega arith))) refl in
    rw append_assoc (node_apart i (node_rows plan i n) 0 (shards_of workers n) rest named (nodes_apart workers plan (suc i) ns))

pub parts_apart : (workers : ℕ) (plan : PlanParts) → AreApart (part_forms workers plan)
parts_apart workers plan = (
  named_append (record { owner = owners.In; shard = 0; rows = [] }) (node_forms workers plan 0 plan.nodes) (output_form plan ∷ [])
      (of_nodes (record { owner = owners.In; shard = 0; rows = [] }) workers plan 0 plan.nodes (λ j low. refl)) refl,
  nodes_apart workers plan 0 plan.nodes,
)
