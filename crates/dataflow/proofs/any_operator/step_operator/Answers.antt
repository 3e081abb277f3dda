use Rattle.std.specs.Prelude.{◌≡◌, ◌≤◌, ℕ, Some, None}
use Rattle.std.proofs.Common.{sym, ◌∙◌, subst}
use Rattle.std.proofs.lemmas.Result.{on_ok_weaker, IfErr-weaker}
use Rattle.edge_stream.specs.declared.saved.StepFault.TheVariants.{Overflow}
use Rattle.dataflow.specs.Operating.{OperatesUndefinedAt}
use Rattle.dataflow.proofs.Operators.{stays_operating, stops_operating, keeps_operating, undefined_operating, operates_over}
use Rattle.dataflow.proofs.any_operator.step_operator.Goals as goal

pub step-requires : goal.step-requires
step-requires g c =
    let r = c.requires.can in
    record {
      works = r.can.works;
      left_rises = subst (λ z. z ≤ c.args.left_to) (sym r.can.left_closed) r.left_rises;
      right_rises = subst (λ z. z ≤ c.args.right_to) (sym r.can.right_closed) r.right_rises;
      left_kinds = sym r.can.left_kinds;
      right_kinds = sym r.can.right_kinds;
      left_capacity = sym r.can.batch_rows;
      right_capacity = c.requires.capacity.1 ∙ sym r.can.batch_rows;
      capacity = c.requires.capacity.0 ∙ sym r.can.batch_rows;
    }

pub returns-clause-ready : goal.returns-clause-ready
returns-clause-ready g c =
    let o = g.O.Operator in
    stays_operating c.args.left c.args.right (o.standing c.args.operator.now) c.args.left_to c.args.right_to c.step.result (o.standing c.step.new.self) c.step.ensures.like c.step.ensures.failed c.step.ensures.left_to c.step.ensures.right_to

pub returns-clause-kept : goal.returns-clause-kept
returns-clause-kept g c =
    let o = g.O.Operator in
    keeps_operating c.args.left c.args.right (o.standing c.args.operator.now) c.args.left_to c.args.right_to c.step.result (o.keeps c.args.operator.now) (o.keeps c.step.new.self) c.step.ensures.kept c.step.ensures.between

pub returns-clause-defined : goal.returns-clause-defined
returns-clause-defined g c =
    let o = g.O.Operator in
    on_ok_weaker c.step.result (undefined_operating c.args.left c.args.right (o.standing c.args.operator.now) c.args.left_to c.args.right_to (o.keeps c.args.operator.now) None) c.step.ensures.defined

pub returns-clause-overflow : goal.returns-clause-overflow
returns-clause-overflow g c =
    let o = g.O.Operator in
    let old = o.standing c.args.operator.now in
    IfErr-weaker c.step.result _ (λ fault. (time : ℕ) → fault ≡ Overflow time → OperatesUndefinedAt c.args.left c.args.right old (o.keeps c.args.operator.now) c.args.left_to c.args.right_to (Some time))
    (λ fault told time is. undefined_operating c.args.left c.args.right old c.args.left_to c.args.right_to (o.keeps c.args.operator.now) (Some time) (told time is)) c.step.ensures.overflow

pub returns-clause-stopped : goal.returns-clause-stopped
returns-clause-stopped g c =
    let o = g.O.Operator in
    stops_operating c.args.left c.args.right (o.standing c.args.operator.now) c.args.left_to c.args.right_to c.step.result (o.standing c.step.new.self) c.step.ensures.failed

pub returns-clause-kinds : goal.returns-clause-kinds
returns-clause-kinds g c =
    let o = g.O.Operator in
    operates_over c.args.left c.args.right (o.standing c.args.operator.now) c.args.left_to c.args.right_to c.step.result c.step.ensures.kinds
