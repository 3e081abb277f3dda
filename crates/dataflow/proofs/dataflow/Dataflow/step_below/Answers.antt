use Rattle.std.proofs.Common.{◌≡◌, ◌≤◌, ◌∙◌, ℕ, length, ap, sym, subst}
use Rattle.std.specs.Prelude.{Result, Ok, Err, IfOk, IfErr}
use Rattle.plan_laws.specs.Places.{EdgesArePlaced}
use Rattle.dataflow.specs.declared.fault.PlanFault.TheVariants.{Overflow}
use Rattle.edge_stream.specs.Lists.{edges_at}
use Rattle.dataflow.specs.Lists.{AreOfStreams}
use Rattle.dataflow.specs.Flows.{DataflowView, parts_of}
use Rattle.dataflow.specs.Below.{MayStepBelow, UnderNone, OverflowsUnder, GivesBelow}
use Rattle.dataflow.proofs.Below.{may_parts}
use Rattle.dataflow.proofs.Sure.{sure_or_tested, given_placed}
use Rattle.dataflow.proofs.dataflow.Dataflow.step_below.Goals as goal

pub step_nodes-stepped-requires-clause-count : goal.step_nodes-stepped-requires-clause-count
step_nodes-stepped-requires-clause-count g c κs lives = subst (λ (d : DataflowView). c.args.node ≤ length d.plan.nodes) (sym c.self.view_is) c.requires.node

pub step_nodes-stepped-requires-clause-given : goal.step_nodes-stepped-requires-clause-given
step_nodes-stepped-requires-clause-given g c κs lives =
    let texts = c.args.texts.now in
    let inside = c.self.inside in
    let rows : c.args.pools.now.capacity ≡ inside.capacity = c.requires.capacity ∙ sym (ap (λ d. d.capacity) c.self.view_is) in
    let are = subst (λ (d : DataflowView). AreOfStreams d.capacity d.plan c.args.given.items) (sym c.self.view_is) c.requires.given in
    given_placed texts c.args.pools.now.capacity inside.plan c.args.given.items (subst (λ k. AreOfStreams k inside.plan c.args.given.items) (sym rows) are)
    (sure_or_tested inside.thawed ((s : ℕ) → EdgesArePlaced texts (edges_at c.args.given.items s))
    (λ fresh. c.requires.placed (sym (ap (λ d. d.thawed) c.self.view_is) ∙ fresh))
    (λ thawed s. subst (λ ls. EdgesArePlaced texts (edges_at ls s)) c.deref.ensures.value (c.are_all_sure.ensures.tested thawed c.if-not-are_all_sure.false s)))

pub step_nodes-stepped-requires-clause-may : goal.step_nodes-stepped-requires-clause-may
step_nodes-stepped-requires-clause-may g c κs lives =
    let texts = c.args.texts.now in
    let given = edges_at c.args.given.items in
    let inside = c.self.inside in
    let rows : c.args.pools.now.capacity ≡ inside.capacity = c.requires.capacity ∙ sym (ap (λ d. d.capacity) c.self.view_is) in
    subst (λ k. MayStepBelow texts c.args.p c.args.node given (parts_of inside.plan inside.stages.items k inside.thawed)) (sym rows)
    (may_parts texts c.args.p c.args.node given _ (subst (MayStepBelow texts c.args.p c.args.node given) (sym c.self.view_is) c.requires.may))

if_ok : {X E : Type 0} (Q : X → Type 0) (r : Result X E) (x : X) → r ≡ Ok x → IfOk r Q → Q x
if_ok Q r x is h = subst (λ k. IfOk k Q) is h

if_err : {X E : Type 0} (Q : E → Type 0) (r : Result X E) (e : E) → r ≡ Err e → IfErr r Q → Q e
if_err Q r e is h = subst (λ k. IfErr k Q) is h

pub returns-clause-none : goal.returns-clause-none
returns-clause-none g c =
    let texts = c.args.texts.now in
    let given = edges_at c.args.given.items in
    let inside = c.self.inside in
    let rows : c.args.pools.now.capacity ≡ inside.capacity = c.requires.capacity ∙ sym (ap (λ d. d.capacity) c.self.view_is) in
    let old : ℕ → DataflowView = λ k. parts_of inside.plan inside.stages.items k inside.thawed in
    let told = if_ok (λ made. GivesBelow texts c.args.p c.args.node given (old c.args.pools.now.capacity) (parts_of inside.plan c.step_nodes-stepped.new.stages.items c.args.pools.now.capacity inside.thawed) made.items)
    c.step_nodes-stepped.result c.in-Ok._made c.in-Ok.is c.step_nodes-stepped.ensures.flowed in
    subst (UnderNone texts c.args.p c.args.node given) c.self.view_is
    (subst (λ k. UnderNone texts c.args.p c.args.node given (old k)) rows
    (λ last before lists source distinct flows later stand from. (told last before lists source distinct flows later stand from).defined))

pub returns-in-Err-clause-overflow : goal.returns-in-Err-clause-overflow
returns-in-Err-clause-overflow g c =
    let texts = c.args.texts.now in
    let given = edges_at c.args.given.items in
    let inside = c.self.inside in
    let rows : c.args.pools.now.capacity ≡ inside.capacity = c.requires.capacity ∙ sym (ap (λ d. d.capacity) c.self.view_is) in
    let old : ℕ → DataflowView = λ k. parts_of inside.plan inside.stages.items k inside.thawed in
    let told = if_err (λ fault. (lower time : ℕ) → fault ≡ Overflow lower time → OverflowsUnder texts c.args.p c.args.node given (old c.args.pools.now.capacity) lower time)
    c.step_nodes-stepped.result c.in-Err.fault c.in-Err.is c.step_nodes-stepped.ensures.overflow in
    λ lower time is.
    subst (λ d. OverflowsUnder texts c.args.p c.args.node given d lower time) c.self.view_is
    (subst (λ k. OverflowsUnder texts c.args.p c.args.node given (old k) lower time) rows (told lower time is))

pub invariant_of-self-2 : goal.invariant_of-self-2
invariant_of-self-2 g c = c.step_nodes-stepped.ensures.runs c.self.inside.workers c.self.invariant

pub invariant_of-self-in-Err : goal.invariant_of-self-in-Err
invariant_of-self-in-Err g c = c.step_nodes-stepped.ensures.runs c.self.inside.workers c.self.invariant
