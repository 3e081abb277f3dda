use Rattle.std.specs.Prelude.{Some, map}
use Rattle.std.proofs.Common.{sym, ap, subst, ◌∙◌, refl}
use Rattle.tw_rows.specs.Kinds.{cell_kind_of}
use Rattle.dataflow.specs.declared.stage.Stage.TheVariants.{Union}
use Rattle.dataflow.specs.Shards.{RunsNode}
use Rattle.dataflow.specs.Stages.{left_kinds, StartsFor}
use Rattle.dataflow.proofs.Starting.{union_starts, union_alike}
use Rattle.dataflow.proofs.making.StageMaker.union_stage.Goals as goal

pub returns-clause-starts : goal.returns-clause-starts
returns-clause-starts c = λ texts n there.
    let plan = c.args.self.now.plan.now in
    let is = c.requires.is n there in
    let o = c.in_ok-operator.operator in
    let made = c.in_ok-operator.ensures in
    let read = ap (map cell_kind_of) c.deref.ensures.value ∙ c.in_ok-kinds.ensures.kinds n there ∙ ap (left_kinds plan) is.1.1 in
    subst (λ m. StartsFor texts c.args.self.now.capacity plan m (Union o)) (sym is.1.1)
    (union_starts plan c.args.self.now.capacity c.deref.result.now texts is.0 is.1.0 o made.left made.right made.times.0 made.times.1 made.works read
    (union_alike plan c.nodes.ensures.kept c.args.self.now.node is.0 is.1.0 (there ∙ ap Some is.1.1)))

pub returns-clause-runs : goal.returns-clause-runs
returns-clause-runs c = λ n there.
    let is = c.requires.is n there in
    subst (λ m. RunsNode c.args.self.now.workers m (Union c.in_ok-operator.operator)) (sym is.1.1) (record { variant = refl; shards = refl })
