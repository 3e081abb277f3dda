use Rattle.std.proofs.Common.{◌∙◌, length, ap, sym, subst, arith}
use Rattle.std.specs.Prelude.{get_or}
use Rattle.plan_model.specs.IsPlan.{kinds_at}
use Rattle.edge_stream.specs.Lists.{edges_at}
use Rattle.dataflow.specs.Lists.{IsListOf}
use Rattle.dataflow.specs.Below.{MayStepBelow, GivesBelow, StepsBelow, StopsUnder, OverflowsUnder}
use Rattle.dataflow.specs.Flows.{parts_of}
use Rattle.dataflow.proofs.Below.{may_all, steps_whole, gives_whole, stops_whole, overflows_whole}
use Rattle.dataflow.proofs.steps.step_all.Goals as goal

pub step_nodes-requires-clause-may : goal.step_nodes-requires-clause-may
step_nodes-requires-clause-may g c κs lives =
    let parts = parts_of c.args.plan.now c.args.stages.now.items c.args.pools.now.capacity c.args.thawed in
    let count = ap length c.nodes-count.ensures.nodes in
    subst (λ n. MayStepBelow c.args.texts.now c.args.p n (edges_at c.args.given.items) parts) (sym count) (may_all c.args.texts.now c.args.p (edges_at c.args.given.items) parts c.requires.may)

pub returns-in-Ok-clause-flowed : goal.returns-in-Ok-clause-flowed
returns-in-Ok-clause-flowed g c =
    let before = c.args.stages.now.items in
    let count = ap length c.nodes-count.ensures.nodes in
    let whole = c.nodes-count.ensures.kept in
    let gives = subst (λ n. GivesBelow c.args.texts.now c.args.p n (edges_at c.args.given.items) (parts_of c.args.plan.now before c.args.pools.now.capacity c.args.thawed)
    (parts_of c.args.plan.now c.step_nodes.new.stages.items c.args.pools.now.capacity c.args.thawed) c.in-Ok.made.items) count c.in-Ok.ensures.flowed in
    gives_whole c.args.texts.now c.args.p (edges_at c.args.given.items) c.args.plan.now before c.step_nodes.new.stages.items c.args.pools.now.capacity c.args.thawed whole c.in-Ok.made.items c.swap_remove.result
    (c.swap_remove.ensures.value ∙ ap (λ r. get_or c.in-Ok.made.items r c.swap_remove.result) c.root.ensures.root) gives

pub returns-in-Ok-clause-can : goal.returns-in-Ok-clause-can
returns-in-Ok-clause-can g c =
    let before = c.args.stages.now.items in
    let count = ap length c.nodes-count.ensures.nodes in
    let steps = subst (λ n. StepsBelow c.args.texts.now c.args.p n (parts_of c.args.plan.now before c.args.pools.now.capacity c.args.thawed)
    (parts_of c.args.plan.now c.step_nodes.new.stages.items c.args.pools.now.capacity c.args.thawed)) count c.in-Ok.ensures.can in
    steps_whole c.args.texts.now c.args.p (edges_at c.args.given.items) c.args.plan.now before c.step_nodes.new.stages.items c.args.pools.now.capacity c.args.thawed steps

pub returns-in-Ok-clause-list : goal.returns-in-Ok-clause-list
returns-in-Ok-clause-list g c =
    let plan = c.args.plan.now in
    let count = ap length c.nodes-count.ensures.nodes in
    let rooted = c.nodes-count.ensures.kept.rooted in
    let is = c.swap_remove.ensures.value ∙ ap (λ r. get_or c.in-Ok.made.items r c.swap_remove.result) c.root.ensures.root in
    subst (IsListOf c.args.texts.now c.args.pools.now.capacity (kinds_at plan.schemas plan.root)) (sym is) (c.in-Ok.ensures.made.root c.swap_remove.result (omega (arith, rooted, count)))

pub returns-in-Err-clause-stopped : goal.returns-in-Err-clause-stopped
returns-in-Err-clause-stopped g c = λ node time e.
    let before = c.args.stages.now.items in
    let count = ap length c.nodes-count.ensures.nodes in
    let stops = subst (λ n. StopsUnder c.args.texts.now c.args.p n (edges_at c.args.given.items) node (parts_of c.args.plan.now before c.args.pools.now.capacity c.args.thawed)
    (parts_of c.args.plan.now c.step_nodes.new.stages.items c.args.pools.now.capacity c.args.thawed)) count (c.in-Err.ensures.stopped node time e) in
    stops_whole c.args.texts.now c.args.p (edges_at c.args.given.items) c.args.plan.now before c.step_nodes.new.stages.items c.args.pools.now.capacity c.args.thawed node stops

pub returns-in-Err-clause-overflow : goal.returns-in-Err-clause-overflow
returns-in-Err-clause-overflow g c = λ node time e.
    let before = c.args.stages.now.items in
    let count = ap length c.nodes-count.ensures.nodes in
    let found = subst (λ n. OverflowsUnder c.args.texts.now c.args.p n (edges_at c.args.given.items) (parts_of c.args.plan.now before c.args.pools.now.capacity c.args.thawed) node time) count (c.in-Err.ensures.overflow node time e) in
    overflows_whole c.args.texts.now c.args.p (edges_at c.args.given.items) c.args.plan.now before c.step_nodes.new.stages.items c.args.pools.now.capacity c.args.thawed node time found
