-- The parts in a row are those of a plan at work.
use Rattle.std.proofs.Common.{◌≡◌, ℕ, zero, suc, List, [], ◌∷◌, ◌++◌, length, map, refl, ap, arith}
use Rattle.tw_rows.specs.declared.kind.CellKind.{CellKind}
use Rattle.edge_stream.specs.declared.saved.SavedEntry.{SavedEntry}
use Rattle.plan_model.specs.declared.node.Node.{Node}
use Rattle.plan_model.specs.IsPlan.{PlanParts}
use Rattle.frozen_state.specs.declared.owner.Owner.TheVariants as owners
use Rattle.frozen_state.specs.declared.frozen.FrozenPart.{FrozenPart}
use Rattle.frozen_state.specs.Forms.{PartFormView, shards_of, shard_forms, node_rows, node_forms, part_forms}
use Rattle.tempo_engine.specs.Kept.{KeptView, node_counts, shard_row, node_row, parts_of}
use Rattle.tempo_engine.specs.Named.{AreNamed}

named_append : (fs gs : List PartFormView) (ps qs : List FrozenPart) → AreNamed fs ps → AreNamed gs qs → AreNamed (fs ++ gs) (ps ++ qs)
named_append [] gs [] qs h k = k
named_append [] gs (p ∷ ps) qs h k = absurd h
named_append (f ∷ fs) gs [] qs h k = absurd h
named_append (f ∷ fs) gs (p ∷ ps) qs h k = (h.0, named_append fs gs ps qs h.1 k)

shards_named : (node : ℕ) (rows : List (List CellKind)) (first n : ℕ) (es : List (List SavedEntry)) → length es ≡ n → AreNamed (shard_forms (owners.Node node) rows first n) (shard_row node first es)
shards_named node rows first zero [] many = tt
shards_named node rows first zero (e ∷ es) many = absurd (omega (arith, many))
shards_named node rows first (suc n) [] many = absurd (omega (arith, many))
shards_named node rows first (suc n) (e ∷ es) many = (record { owner = refl; shard = refl }, shards_named node rows (suc first) n es (omega (arith, many)))

nodes_named : (workers : ℕ) (plan : PlanParts) (i : ℕ) (ns : List Node) (nodes : List (List (List SavedEntry))) → map (λ es. length es) nodes ≡ map (shards_of workers) ns →
    AreNamed (node_forms workers plan i ns) (node_row i nodes)
nodes_named workers plan i [] [] many = tt
nodes_named workers plan i [] (es ∷ nodes) many = absurd (let m = many in cc)
nodes_named workers plan i (n ∷ ns) [] many = absurd (let m = many in cc)
nodes_named workers plan i (n ∷ ns) (es ∷ nodes) many =
    let here : length es ≡ shards_of workers n = (let m = many in cc) in
    let rest : map (λ x. length x) nodes ≡ map (shards_of workers) ns = (let m = many in cc) in
    named_append (shard_forms (owners.Node i) (node_rows plan i n) 0 (shards_of workers n)) (node_forms workers plan (suc i) ns) (shard_row i 0 es) (node_row (suc i) nodes)
    (shards_named i (node_rows plan i n) 0 (shards_of workers n) es here) (nodes_named workers plan (suc i) ns nodes rest)

pub parts_named : (workers : ℕ) (plan : PlanParts) (k : KeptView) → map (λ es. length es) k.nodes ≡ node_counts workers plan → AreNamed (part_forms workers plan) (parts_of k)
parts_named workers plan k many =
    (record { owner = refl; shard = refl }, named_append (node_forms workers plan 0 plan.nodes) _ (node_row 0 k.nodes) _ (nodes_named workers plan 0 plan.nodes k.nodes many) (record { owner = refl; shard = refl }, tt))
