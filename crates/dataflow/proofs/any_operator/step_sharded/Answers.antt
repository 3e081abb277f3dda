use Rattle.std.specs.Prelude.{◌≡◌, ◌≤◌, ℕ, Some, None}
use Rattle.std.proofs.Common.{sym, ◌∙◌, subst}
use Rattle.std.proofs.lemmas.Result.{on_ok_weaker, IfErr-weaker}
use Rattle.edge_stream.specs.declared.saved.StepFault.TheVariants.{Overflow}
use Rattle.shard_apply.specs.Whole.{standing_in, ShardsKeep}
use Rattle.dataflow.specs.Operating.{OperatesUndefinedAt}
use Rattle.dataflow.proofs.Operators.{stays_operating, stops_operating, keeps_operating, undefined_operating, operates_over}
use Rattle.dataflow.proofs.any_operator.step_sharded.Goals as goal

pub step-requires-clause-works : goal.step-requires-clause-works
step-requires-clause-works g c κs lives = let r = c.requires.can in r.can.works

pub step-requires-clause-left_rises : goal.step-requires-clause-left_rises
step-requires-clause-left_rises g c κs lives = let r = c.requires.can in subst (λ z. z ≤ c.args.left_to) (sym r.can.left_closed) r.left_rises

pub step-requires-clause-right_rises : goal.step-requires-clause-right_rises
step-requires-clause-right_rises g c κs lives = let r = c.requires.can in subst (λ z. z ≤ c.args.right_to) (sym r.can.right_closed) r.right_rises

pub step-requires-clause-left_kinds : goal.step-requires-clause-left_kinds
step-requires-clause-left_kinds g c κs lives = let r = c.requires.can in sym r.can.left_kinds

pub step-requires-clause-right_kinds : goal.step-requires-clause-right_kinds
step-requires-clause-right_kinds g c κs lives = let r = c.requires.can in sym r.can.right_kinds

pub step-requires-clause-left_capacity : goal.step-requires-clause-left_capacity
step-requires-clause-left_capacity g c κs lives = let r = c.requires.can in sym r.can.batch_rows

pub step-requires-clause-right_capacity : goal.step-requires-clause-right_capacity
step-requires-clause-right_capacity g c κs lives = let r = c.requires.can in c.requires.capacity.1 ∙ sym r.can.batch_rows

pub step-requires-clause-capacity : goal.step-requires-clause-capacity
step-requires-clause-capacity g c κs lives = let r = c.requires.can in c.requires.capacity.0 ∙ sym r.can.batch_rows

pub returns-clause-ready : goal.returns-clause-ready
returns-clause-ready g c =
    let standing = standing_in g.O.Operator.standing in
    let keeps = ShardsKeep g.O.Operator.standing g.O.Operator.keeps in
    stays_operating c.args.left c.args.right (standing c.args.whole.now) c.args.left_to c.args.right_to c.step.result (standing c.step.new.self) c.step.ensures.like c.step.ensures.failed c.step.ensures.left_to c.step.ensures.right_to

pub returns-clause-kept : goal.returns-clause-kept
returns-clause-kept g c =
    let standing = standing_in g.O.Operator.standing in
    let keeps = ShardsKeep g.O.Operator.standing g.O.Operator.keeps in
    keeps_operating c.args.left c.args.right (standing c.args.whole.now) c.args.left_to c.args.right_to c.step.result (keeps c.args.whole.now) (keeps c.step.new.self) c.step.ensures.kept c.step.ensures.between

pub returns-clause-defined : goal.returns-clause-defined
returns-clause-defined g c =
    let standing = standing_in g.O.Operator.standing in
    let keeps = ShardsKeep g.O.Operator.standing g.O.Operator.keeps in
    on_ok_weaker c.step.result (undefined_operating c.args.left c.args.right (standing c.args.whole.now) c.args.left_to c.args.right_to (keeps c.args.whole.now) None) c.step.ensures.defined

pub returns-clause-overflow : goal.returns-clause-overflow
returns-clause-overflow g c =
    let standing = standing_in g.O.Operator.standing in
    let keeps = ShardsKeep g.O.Operator.standing g.O.Operator.keeps in
    let old = standing c.args.whole.now in
    IfErr-weaker c.step.result _ (λ fault. (time : ℕ) → fault ≡ Overflow time → OperatesUndefinedAt c.args.left c.args.right old (keeps c.args.whole.now) c.args.left_to c.args.right_to (Some time))
    (λ fault told time is. undefined_operating c.args.left c.args.right old c.args.left_to c.args.right_to (keeps c.args.whole.now) (Some time) (told time is)) c.step.ensures.overflow

pub returns-clause-stopped : goal.returns-clause-stopped
returns-clause-stopped g c =
    let standing = standing_in g.O.Operator.standing in
    let keeps = ShardsKeep g.O.Operator.standing g.O.Operator.keeps in
    stops_operating c.args.left c.args.right (standing c.args.whole.now) c.args.left_to c.args.right_to c.step.result (standing c.step.new.self) c.step.ensures.failed

pub returns-clause-kinds : goal.returns-clause-kinds
returns-clause-kinds g c =
    let standing = standing_in g.O.Operator.standing in
    let keeps = ShardsKeep g.O.Operator.standing g.O.Operator.keeps in
    operates_over c.args.left c.args.right (standing c.args.whole.now) c.args.left_to c.args.right_to c.step.result c.step.ensures.kinds
