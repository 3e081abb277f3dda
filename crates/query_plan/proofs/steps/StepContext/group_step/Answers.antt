use Rattle.std.specs.Prelude.{◌≡◌, ok_or, Ok}
use Rattle.std.proofs.Common.{rules}
use Rattle.plan_model.specs.declared.fault.QueryFault.TheVariants as F
use Rattle.query_plan.specs.Names.{key_of, aggs_of}
use Rattle.query_plan.proofs.StepLemmas.{group_found}
use Rattle.query_plan.proofs.steps.StepContext.group_step.Goals as goal

pub returns-in_err-needs : goal.returns-in_err-needs
returns-in_err-needs c =
    let k : ok_or (key_of c.schema_at-before.result.now c.args.names.now) (F.UnknownName c.args.self.now.item) ≡ Ok c.in_ok-key.key = c.in_ok-key.ensures in
    let a : ok_or (aggs_of c.schema_at-before.result.now c.args.aggs.now) (F.UnknownName c.args.self.now.item) ≡ Ok c.in_ok-computed.computed = c.in_ok-computed.ensures in
    rw (group_found c.args.self.now.item c.args.self.now.draft.now c.args.self.now.at c.args.names.now c.args.aggs.now c.schema_at-before.result.now c.in_ok-key.key c.in_ok-computed.computed c.schema_at-before.ensures k a) (search rules)

pub returns : goal.returns
returns c =
    let k : ok_or (key_of c.schema_at-before.result.now c.args.names.now) (F.UnknownName c.args.self.now.item) ≡ Ok c.in_ok-key.key = c.in_ok-key.ensures in
    let a : ok_or (aggs_of c.schema_at-before.result.now c.args.aggs.now) (F.UnknownName c.args.self.now.item) ≡ Ok c.in_ok-computed.computed = c.in_ok-computed.ensures in
    rw (group_found c.args.self.now.item c.args.self.now.draft.now c.args.self.now.at c.args.names.now c.args.aggs.now c.schema_at-before.result.now c.in_ok-key.key c.in_ok-computed.computed c.schema_at-before.ensures k a) (search rules)
