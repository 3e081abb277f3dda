use Rattle.std.specs.Prelude.{Some, map, get_or, length, ◌≤◌, All}
use Rattle.std.proofs.Common.{◌≡◌, refl, sym, ap, subst, ◌∙◌, [], arith, rules}
use Rattle.std.proofs.iter.Serving.{serving}
use Rattle.std.proofs.lemmas.Option.{slice_get-get_or}
use Rattle.tw_rows.specs.Kinds.{cell_kind_of}
use Rattle.plan_model.specs.IsPlan.{IsKey}
use Rattle.plan_model.specs.declared.node.Node.TheVariants.{Source, Group as GroupNode}
use Rattle.sweep_sides.specs.Sweepers.{new_standing}
use Rattle.snapshot_agg.proofs.Standing.{group_opening}
use Rattle.snapshot_agg.specs.Operating.{standing as group_standing, IsKept as IsGroupKept}
use Rattle.dataflow.specs.Stages.{IsNewGroup}
use Rattle.std.proofs.lemmas.List.Elements.{All-nil}
use Rattle.dataflow.specs.declared.stage.Stage.TheVariants.{Group}
use Rattle.dataflow.specs.Shards.{RunsNode}
use Rattle.dataflow.specs.Stages.{left_kinds, StartsFor}
use Rattle.dataflow.proofs.MadeShards.{sharded_starts}
use Rattle.dataflow.proofs.Starting.{new_can, group_like, own_kinds_are}
use Rattle.dataflow.proofs.Variants.{group_variant}
use Rattle.dataflow.proofs.making.StageMaker.group_stage.Goals as goal

pub shards-requires-clause-callable : goal.shards-requires-clause-callable
shards-requires-clause-callable c κs =
    let plan = c.args.self.now.plan.now in
    let n = get_or plan.nodes c.args.self.now.node (Source 0) in
    let there = slice_get-get_or plan.nodes c.args.self.now.node (Source 0) c.args.self.now.inside in
    let is = c.requires.is n there in
    let read = ap (map cell_kind_of) c.as_slice-read.ensures.value ∙ c.in_ok-left_kinds.ensures.kinds n there ∙ ap (left_kinds plan) is.1 in
    let told = ap (map cell_kind_of) c.as_slice-told.ensures.value ∙ c.in_ok-own_kinds.ensures.kinds in
    let like = group_like plan c.nodes.ensures.kept c.args.self.now.node is.0 c.args.key.now c.args.aggs.now (there ∙ ap Some is.1) c.as_slice-read.result.now c.as_slice-told.result.now read told in
    let width : length c.as_slice-told.result.now ≤ 32 = (let same = ap length c.as_slice-told.ensures.value in let width = c.in_ok-own_kinds.ensures.width in omega (arith, same, width)) in
    let room = c.args.self.now.room in
    grind (serving, like, width, room)

pub shards-requires-clause-makes : goal.shards-requires-clause-makes
shards-requires-clause-makes c κs _ =
    let plan = c.args.self.now.plan.now in
    let n = get_or plan.nodes c.args.self.now.node (Source 0) in
    let there = slice_get-get_or plan.nodes c.args.self.now.node (Source 0) c.args.self.now.inside in
    let is = c.requires.is n there in
    let l = c.args.key.now in
    let read = ap (map cell_kind_of) c.as_slice-read.ensures.value ∙ c.in_ok-left_kinds.ensures.kinds n there ∙ ap (left_kinds plan) is.1 in
    let keyed = (c.nodes.ensures.kept.nodes_are.each c.args.self.now.node (GroupNode is.0 l c.args.aggs.now) (there ∙ ap Some is.1)).sound.0 in
    record {
      stand = new_standing (GroupNode 0 l c.args.aggs.now) c.as_slice-read.result.now [] c.as_slice-told.result.now c.args.self.now.capacity;
      stands = λ o made. search rules;
      new = λ o made. search rules;
      works = refl;
      keyed = refl;
      left_key_is = refl;
      right_key_is = refl;
      left_columns = subst (λ ks. IsKey ks l) (sym read) keyed;
      right_columns = All-nil _;
      batch_rows = refl;
    }

pub returns-clause-starts : goal.returns-clause-starts
returns-clause-starts c = λ texts n there.
    let plan = c.args.self.now.plan.now in
    let is = c.requires.is n there in
    let l = c.args.key.now in
    let read = ap (map cell_kind_of) c.as_slice-read.ensures.value ∙ c.in_ok-left_kinds.ensures.kinds n there ∙ ap (left_kinds plan) is.1 in
    let told = ap (map cell_kind_of) c.as_slice-told.ensures.value ∙ c.in_ok-own_kinds.ensures.kinds in
    let w = c.in_ok-whole.whole in
    let stands : All (λ o. group_standing o ≡ new_standing (GroupNode 0 l c.args.aggs.now) c.as_slice-read.result.now [] c.as_slice-told.result.now c.args.self.now.capacity) w.operators = λ k d low. (let each = c.in_ok-whole.ensures.each k d low in search rules) in
    subst (λ m. StartsFor texts c.args.self.now.capacity plan m (Group w)) (sym is.1)
    (sharded_starts Group group_standing IsNewGroup IsGroupKept group_variant (λ w new. new) (λ o texts new. group_opening o.groups.key.items o.groups.aggs.items (map cell_kind_of o.left_kinds.items) texts o.groups.rows.rows o.running o.waiting o.left_to o.right_to o.failed new)
    plan c.args.self.now.capacity texts (GroupNode is.0 l c.args.aggs.now) _ (new_can plan c.args.self.now.capacity (GroupNode is.0 l c.args.aggs.now) (GroupNode 0 l c.args.aggs.now) c.as_slice-read.result.now [] c.as_slice-told.result.now (record { events = λ a b. refl; closes = λ x y. refl; undefined = λ rows. refl; held = λ x y hl hr. refl }) refl read refl (told ∙ own_kinds_are plan c.nodes.ensures.kept c.args.self.now.node (GroupNode is.0 l c.args.aggs.now) (there ∙ ap Some is.1)))
    w stands c.in_ok-whole.ensures.opening)

pub returns-clause-runs : goal.returns-clause-runs
returns-clause-runs c = λ n there.
    let is = c.requires.is n there in
    subst (λ m. RunsNode c.args.self.now.workers m (Group c.in_ok-whole.whole)) (sym is.1)
    (record { variant = refl; shards = c.in_ok-whole.ensures.count })
