use Rattle.std.specs.Prelude.{Some, map, get_or}
use Rattle.std.proofs.lemmas.Option.{slice_get-get_or}
use Rattle.std.proofs.Common.{sym, ap, subst, ◌∙◌}
use Rattle.tw_rows.specs.Kinds.{cell_kind_of}
use Rattle.plan_model.specs.declared.node.Node.TheVariants.{Source}
use Rattle.lifetime_ops.specs.Nodes.{divides_ints}
use Rattle.dataflow.specs.declared.stage.Stage.TheVariants.{Life}
use Rattle.dataflow.specs.Shards.{RunsNode}
use Rattle.dataflow.specs.Stages.{left_kinds, StartsFor}
use Rattle.dataflow.proofs.Running.{change_runs}
use Rattle.dataflow.proofs.Starting.{life_starts, change_divides}
use Rattle.dataflow.proofs.making.StageMaker.life_stage.Goals as goal

pub returns-clause-starts : goal.returns-clause-starts
returns-clause-starts c = λ texts n there.
    let plan = c.args.self.now.plan.now in
    let is = c.requires.is n there in
    let o = c.in_ok-operator.operator in
    let made = c.in_ok-operator.ensures in
    let read = ap (map cell_kind_of) c.deref.ensures.value ∙ c.in_ok-kinds.ensures.kinds n there ∙ ap (left_kinds plan) is.1 in
    subst (λ m. StartsFor texts c.args.self.now.capacity plan m (Life o)) (sym is.1)
    (life_starts plan c.args.self.now.capacity c.deref.result.now texts is.0 c.args.change o made.change made.carried made.times.0 made.times.1 made.works read)

pub new-requires-clause-ints : goal.new-requires-clause-ints
new-requires-clause-ints c =
    let plan = c.args.self.now.plan.now in
    let n = get_or plan.nodes c.args.self.now.node (Source 0) in
    let there = slice_get-get_or plan.nodes c.args.self.now.node (Source 0) c.args.self.now.inside in
    let is = c.requires.is n there in
    let read = ap (map cell_kind_of) c.deref.ensures.value ∙ c.in_ok-kinds.ensures.kinds n there ∙ ap (left_kinds plan) is.1 in
    ap (divides_ints c.args.change) read ∙ change_divides plan c.nodes.ensures.kept c.args.self.now.node is.0 c.args.change (there ∙ ap Some is.1)

pub returns-clause-runs : goal.returns-clause-runs
returns-clause-runs c = λ n there.
    let is = c.requires.is n there in
    subst (λ m. RunsNode c.args.self.now.workers m (Life c.in_ok-operator.operator)) (sym is.1) (change_runs c.args.self.now.workers is.0 c.args.change c.in_ok-operator.operator)
