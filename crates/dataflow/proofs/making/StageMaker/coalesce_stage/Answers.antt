use Rattle.std.specs.Prelude.{map, length, []}
use Rattle.std.proofs.Common.{sym, ap, subst, ◌∙◌, arith, refl}
use Rattle.tw_rows.specs.Kinds.{cell_kind_of}
use Rattle.plan_model.specs.declared.node.Node.TheVariants.{Coalesce as CoalesceNode}
use Rattle.coalesce_op.proofs.Resuming.{coalesce_opens}
use Rattle.sweep_sides.proofs.Kept.{kept_first}
use Rattle.dataflow.specs.declared.stage.Stage.TheVariants.{Coalesce}
use Rattle.dataflow.specs.Shards.{RunsNode}
use Rattle.dataflow.specs.Stages.{left_kinds, StartsFor}
use Rattle.dataflow.proofs.MadeShards.{alone_starts}
use Rattle.dataflow.proofs.Starting.{new_can}
use Rattle.dataflow.proofs.Variants.{coalesce_variant}
use Rattle.dataflow.proofs.making.StageMaker.coalesce_stage.Goals as goal

pub new_coalesce-requires-clause-width : goal.new_coalesce-requires-clause-width
new_coalesce-requires-clause-width c = let same = ap length c.deref.ensures.value in let width = c.in_ok-kinds.ensures.width in omega (arith, same, width)

pub returns-clause-starts : goal.returns-clause-starts
returns-clause-starts c = λ texts n there.
    let plan = c.args.self.now.plan.now in
    let is = c.requires.is n there in
    let o = c.in_ok-operator.operator in
    let made = c.in_ok-operator.ensures in
    let l = c.deref.result.now in
    let read = ap (map cell_kind_of) c.deref.ensures.value ∙ c.in_ok-kinds.ensures.kinds n there ∙ ap (left_kinds plan) is.1 in
    subst (λ m. StartsFor texts c.args.self.now.capacity plan m (Coalesce o)) (sym is.1)
    (alone_starts Coalesce _ _ coalesce_variant plan c.args.self.now.capacity texts (CoalesceNode is.0) o _ made.stands
    (new_can plan c.args.self.now.capacity (CoalesceNode is.0) (CoalesceNode 0) l [] l (record { events = λ a b. refl; closes = λ x y. refl; undefined = λ rows. refl; held = λ x y hl hr. refl }) refl read refl read)
    (kept_first o texts made.opening (coalesce_opens o.sweep made.opening.0)) made.opening)

pub returns-clause-runs : goal.returns-clause-runs
returns-clause-runs c = λ n there.
    let is = c.requires.is n there in
    subst (λ m. RunsNode c.args.self.now.workers m (Coalesce c.in_ok-operator.operator)) (sym is.1) (record { variant = refl; shards = refl })
