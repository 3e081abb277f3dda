use Rattle.std.proofs.Common.{◌≡◌, ◌∙◌, ℕ, ap, sym, subst}
use Rattle.std.specs.Prelude.{IfOk, IfErr, OnOk}
use Rattle.plan_laws.specs.Places.{EdgesArePlaced}
use Rattle.dataflow.specs.declared.fault.PlanFault.TheVariants.{Overflow}
use Rattle.edge_stream.specs.Lists.{edges_at}
use Rattle.dataflow.specs.Lists.{AreOfStreams}
use Rattle.dataflow.specs.Below.{StopsAt}
use Rattle.dataflow.specs.Flows.{DataflowView, MayStep, StepsOn, GivesOn, OverflowsAt, parts_of}
use Rattle.dataflow.proofs.Workers.{with_workers, may_with, all_step, all_give, all_overflow, all_stop, all_views}
use Rattle.dataflow.proofs.Sure.{sure_or_tested, given_placed, steps_on, gives_on}
use Rattle.dataflow.proofs.dataflow.Dataflow.step.Goals as goal

pub step_all-stepped-requires-clause-given : goal.step_all-stepped-requires-clause-given
step_all-stepped-requires-clause-given g c κs lives =
    let texts = c.args.texts.now in
    let inside = c.self.inside in
    let rows : c.args.pools.now.capacity ≡ inside.capacity = c.requires.capacity ∙ sym (ap (λ d. d.capacity) c.self.view_is) in
    let are = subst (λ (d : DataflowView). AreOfStreams d.capacity d.plan c.args.given.items) (sym c.self.view_is) c.requires.given in
    given_placed texts c.args.pools.now.capacity inside.plan c.args.given.items (subst (λ k. AreOfStreams k inside.plan c.args.given.items) (sym rows) are)
    (sure_or_tested inside.thawed ((s : ℕ) → EdgesArePlaced texts (edges_at c.args.given.items s))
    (λ fresh. c.requires.placed (sym (ap (λ d. d.thawed) c.self.view_is) ∙ fresh))
    (λ thawed s. subst (λ ls. EdgesArePlaced texts (edges_at ls s)) c.deref.ensures.value (c.are_all_sure.ensures.tested thawed c.if-not-are_all_sure.false s)))

pub step_all-stepped-requires-clause-may : goal.step_all-stepped-requires-clause-may
step_all-stepped-requires-clause-may g c κs lives =
    let texts = c.args.texts.now in
    let p = c.args.p in
    let given = edges_at c.args.given.items in
    let inside = c.self.inside in
    let rows : c.args.pools.now.capacity ≡ inside.capacity = c.requires.capacity ∙ sym (ap (λ d. d.capacity) c.self.view_is) in
    let told = subst (MayStep texts p given) (sym c.self.view_is) (c.requires.may (ap (λ d. d.fault) (sym c.self.view_is) ∙ c.in_default.is)) in
    let fine = subst (λ f. MayStep texts p given (record { plan = inside.plan; stages = inside.stages.items; capacity = inside.capacity; workers = inside.workers; thawed = inside.thawed; fault = f })) c.in_default.is told in
    subst (λ k. MayStep texts p given (parts_of inside.plan inside.stages.items k inside.thawed)) (sym rows)
    (may_with 1 texts p given (with_workers inside.workers (parts_of inside.plan inside.stages.items inside.capacity inside.thawed)) fine)

pub returns-clause-flowed : goal.returns-clause-flowed
returns-clause-flowed g c =
    let texts = c.args.texts.now in
    let p = c.args.p in
    let given = edges_at c.args.given.items in
    let inside = c.self.inside in
    let r = c.step_all-stepped.result in
    let rows : c.args.pools.now.capacity ≡ inside.capacity = c.requires.capacity ∙ sym (ap (λ d. d.capacity) c.self.view_is) in
    let after : ℕ → DataflowView = λ k. parts_of inside.plan c.step_all-stepped.new.stages.items k inside.thawed in
    let P : DataflowView → Type 0 = λ d. IfOk r (λ out. GivesOn texts p given d (with_workers inside.workers (after inside.capacity)) out.edges) in
    gives_on (λ out. out.edges) r texts p given c.args.self.now inside.plan c.step_all-stepped.new.stages.items inside.capacity inside.workers inside.thawed c.fault_in-self-inside.result c.fault_in-self-inside.ensures.ok
    (subst P c.self.view_is
    (subst (λ f. P (record { plan = inside.plan; stages = inside.stages.items; capacity = inside.capacity; workers = inside.workers; thawed = inside.thawed; fault = f })) (sym c.in_default.is)
    (all_give inside.workers texts p given (parts_of inside.plan inside.stages.items inside.capacity inside.thawed) (after inside.capacity) (λ out. out.edges) r
    (subst (λ k. IfOk r (λ out. GivesOn texts p given (parts_of inside.plan inside.stages.items k inside.thawed) (after k) out.edges)) rows c.step_all-stepped.ensures.flowed))))

pub returns-clause-can : goal.returns-clause-can
returns-clause-can g c =
    let inside = c.self.inside in
    let rows : c.args.pools.now.capacity ≡ inside.capacity = c.requires.capacity ∙ sym (ap (λ d. d.capacity) c.self.view_is) in
    let after : ℕ → DataflowView = λ k. parts_of inside.plan c.step_all-stepped.new.stages.items k inside.thawed in
    let P : DataflowView → Type 0 = λ d. OnOk c.step_all-stepped.result (StepsOn c.args.texts.now c.args.p d (with_workers inside.workers (after inside.capacity))) in
    steps_on c.step_all-stepped.result c.args.texts.now c.args.p c.args.self.now inside.plan c.step_all-stepped.new.stages.items inside.capacity inside.workers inside.thawed c.fault_in-self-inside.result c.fault_in-self-inside.ensures.ok
    (subst P c.self.view_is
    (subst (λ f. P (record { plan = inside.plan; stages = inside.stages.items; capacity = inside.capacity; workers = inside.workers; thawed = inside.thawed; fault = f })) (sym c.in_default.is)
    (all_step inside.workers c.args.texts.now c.args.p (edges_at c.args.given.items) (parts_of inside.plan inside.stages.items inside.capacity inside.thawed) (after inside.capacity) c.step_all-stepped.result
    (subst (λ k. OnOk c.step_all-stepped.result (StepsOn c.args.texts.now c.args.p (parts_of inside.plan inside.stages.items k inside.thawed) (after k))) rows c.step_all-stepped.ensures.can))))

pub returns-clause-overflow : goal.returns-clause-overflow
returns-clause-overflow g c = λ none.
    let inside = c.self.inside in
    let rows : c.args.pools.now.capacity ≡ inside.capacity = c.requires.capacity ∙ sym (ap (λ d. d.capacity) c.self.view_is) in
    let P : DataflowView → Type 0 = λ d. IfErr c.step_all-stepped.result (λ fault. (node time : ℕ) → fault ≡ Overflow node time → OverflowsAt c.args.texts.now c.args.p (edges_at c.args.given.items) d node time) in
    subst P c.self.view_is
    (subst (λ f. P (record { plan = inside.plan; stages = inside.stages.items; capacity = inside.capacity; workers = inside.workers; thawed = inside.thawed; fault = f })) (sym c.in_default.is)
    (all_overflow inside.workers c.args.texts.now c.args.p (edges_at c.args.given.items) (parts_of inside.plan inside.stages.items inside.capacity inside.thawed)
    (parts_of inside.plan c.step_all-stepped.new.stages.items inside.capacity inside.thawed) c.step_all-stepped.result
    (subst (λ k. P (parts_of inside.plan inside.stages.items k inside.thawed)) rows c.step_all-stepped.ensures.overflow)))

pub returns-clause-stopped : goal.returns-clause-stopped
returns-clause-stopped g c = λ none.
    let inside = c.self.inside in
    let r = c.step_all-stepped.result in
    let rows : c.args.pools.now.capacity ≡ inside.capacity = c.requires.capacity ∙ sym (ap (λ d. d.capacity) c.self.view_is) in
    let after : ℕ → DataflowView = λ k. parts_of inside.plan c.step_all-stepped.new.stages.items k inside.thawed in
    let P : DataflowView → Type 0 = λ d. IfErr r (λ fault. (node time : ℕ) → fault ≡ Overflow node time → StopsAt c.args.texts.now c.args.p (edges_at c.args.given.items) node d (after inside.capacity)) in
    all_views r c.args.texts.now c.args.p (edges_at c.args.given.items) c.args.self.now (after inside.capacity) inside.workers c.fault_in-self-inside.result
    (subst P c.self.view_is
    (subst (λ f. P (record { plan = inside.plan; stages = inside.stages.items; capacity = inside.capacity; workers = inside.workers; thawed = inside.thawed; fault = f })) (sym c.in_default.is)
    (all_stop inside.workers c.args.texts.now c.args.p (edges_at c.args.given.items) (parts_of inside.plan inside.stages.items inside.capacity inside.thawed) (after inside.capacity) r
    (subst (λ k. IfErr r (λ fault. (node time : ℕ) → fault ≡ Overflow node time → StopsAt c.args.texts.now c.args.p (edges_at c.args.given.items) node (parts_of inside.plan inside.stages.items k inside.thawed) (after k))) rows c.step_all-stepped.ensures.stopped))))

pub invariant_of-self-2 : goal.invariant_of-self-2
invariant_of-self-2 g c = c.step_all-stepped.ensures.runs c.self.inside.workers c.self.invariant
