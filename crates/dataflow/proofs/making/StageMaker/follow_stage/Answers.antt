use Rattle.std.specs.Prelude.{Some, map, get_or}
use Rattle.std.proofs.Common.{sym, ap, subst, ◌∙◌, refl}
use Rattle.std.proofs.lemmas.Option.{slice_get-get_or}
use Rattle.tw_rows.specs.Kinds.{cell_kind_of}
use Rattle.plan_model.specs.declared.node.Node.TheVariants.{Source}
use Rattle.dataflow.specs.declared.stage.Stage.TheVariants.{Follow}
use Rattle.dataflow.specs.Shards.{RunsNode}
use Rattle.dataflow.specs.Stages.{left_kinds, StartsFor}
use Rattle.dataflow.proofs.Starting.{follow_starts, follow_right, follow_narrow, follow_lasts}
use Rattle.dataflow.proofs.making.StageMaker.follow_stage.Goals as goal

pub kinds_told-requires : goal.kinds_told-requires
kinds_told-requires c =
    let plan = c.args.self.now.plan.now in
    let n = get_or plan.nodes c.args.self.now.node (Source 0) in
    let there = slice_get-get_or plan.nodes c.args.self.now.node (Source 0) c.args.self.now.inside in
    let is = c.requires.is n there in
    follow_right plan c.nodes.ensures.kept c.args.self.now.node is.0 c.args.right c.args.left_key.now c.args.right_key.now c.args.within (there ∙ ap Some is.1)

pub new-requires-clause-within : goal.new-requires-clause-within
new-requires-clause-within c =
    let plan = c.args.self.now.plan.now in
    let n = get_or plan.nodes c.args.self.now.node (Source 0) in
    let there = slice_get-get_or plan.nodes c.args.self.now.node (Source 0) c.args.self.now.inside in
    let is = c.requires.is n there in
    follow_lasts plan c.nodes.ensures.kept c.args.self.now.node is.0 c.args.right c.args.left_key.now c.args.right_key.now c.args.within (there ∙ ap Some is.1)

pub new-requires-clause-width : goal.new-requires-clause-width
new-requires-clause-width c =
    let plan = c.args.self.now.plan.now in
    let n = get_or plan.nodes c.args.self.now.node (Source 0) in
    let there = slice_get-get_or plan.nodes c.args.self.now.node (Source 0) c.args.self.now.inside in
    let is = c.requires.is n there in
    follow_narrow plan c.nodes.ensures.kept c.args.self.now.node is.0 c.args.right c.args.left_key.now c.args.right_key.now c.args.within (there ∙ ap Some is.1) c.deref.result.now c.deref-2.result.now
    (ap (map cell_kind_of) c.deref.ensures.value ∙ c.in_ok-left_kinds.ensures.kinds n there ∙ ap (left_kinds plan) is.1)
    (ap (map cell_kind_of) c.deref-2.ensures.value ∙ c.in_ok-right_kinds.ensures.kinds)

pub returns-clause-starts : goal.returns-clause-starts
returns-clause-starts c = λ texts n there.
    let plan = c.args.self.now.plan.now in
    let is = c.requires.is n there in
    let o = c.in_ok-operator.operator in
    let made = c.in_ok-operator.ensures in
    let read = ap (map cell_kind_of) c.deref.ensures.value ∙ c.in_ok-left_kinds.ensures.kinds n there ∙ ap (left_kinds plan) is.1 in
    let told = ap (map cell_kind_of) c.deref-2.ensures.value ∙ c.in_ok-right_kinds.ensures.kinds in
    subst (λ m. StartsFor texts c.args.self.now.capacity plan m (Follow o)) (sym is.1)
    (follow_starts plan c.args.self.now.capacity c.deref.result.now c.deref-2.result.now texts is.0 c.args.right c.args.left_key.now c.args.right_key.now c.args.within o
    made.left_key made.right_key made.within made.left_kinds made.right_kinds made.own_kinds made.capacity made.opening read told)

pub returns-clause-runs : goal.returns-clause-runs
returns-clause-runs c = λ n there.
    let is = c.requires.is n there in
    subst (λ m. RunsNode c.args.self.now.workers m (Follow c.in_ok-operator.operator)) (sym is.1) (record { variant = refl; shards = refl })
