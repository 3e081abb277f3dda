use Rattle.std.proofs.Common.{refl, subst}
use Rattle.plan_model.specs.IsPlan.{PlanParts}
use Rattle.wire_lines.proofs.Growth.{Grows-none}
use Rattle.command_line.specs.Words.{asked_by}
use Rattle.tempo_cli.specs.declared.status.Status.TheVariants as statuses
use Rattle.tempo_cli.proofs.Jobs.{plan_once, never_both, failed_reason, failed_unplanned}
use Rattle.tempo_cli.specs.Keeping.{RunsByFile}
use Rattle.tempo_cli.specs.declared.kept_status.KeptStatus.TheVariants.{Ended}
use Rattle.tempo_cli.proofs.Runs.{by_error, ended_so, kept_reason}
use Rattle.tempo_cli.proofs.kept_running.perform.Goals as goal

pub returns-in-Ok-run_plan-clause-does : goal.returns-in-Ok-run_plan-clause-does
returns-in-Ok-run_plan-clause-does g c = record {
  reason = tt;
  planned = λ plan h.
      subst (λ (x : PlanParts). RunsByFile (asked_by c.args.asked.now) x c.args.every (g.W.KeptWire.told c.args.wire.now) (Ended statuses.Done) (g.W.Wire.journal c.args.wire.now) (g.W.Wire.journal c.run_plan.new.wire))
      (plan_once c.args.asked.now.query.now c.in-Ok.plan plan c.in-Ok.ensures h) c.in-Ok-run_plan.ensures.does;
  unplanned = λ fault h. absurd (never_both c.args.asked.now.query.now c.in-Ok.plan fault c.in-Ok.ensures h);
}

pub returns-in-Err-run_plan-clause-does : goal.returns-in-Err-run_plan-clause-does
returns-in-Err-run_plan-clause-does g c = record {
  reason = kept_reason c.args.asked.now.query.now c.in-Err-run_plan.status c.in-Err-run_plan.ensures.tells.0;
  planned = λ plan h.
      subst (λ (x : PlanParts). RunsByFile (asked_by c.args.asked.now) x c.args.every (g.W.KeptWire.told c.args.wire.now) c.in-Err-run_plan.status (g.W.Wire.journal c.args.wire.now) (g.W.Wire.journal c.run_plan.new.wire))
      (plan_once c.args.asked.now.query.now c.in-Ok.plan plan c.in-Ok.ensures h) c.in-Err-run_plan.ensures.does;
  unplanned = λ fault h. absurd (never_both c.args.asked.now.query.now c.in-Ok.plan fault c.in-Ok.ensures h);
}

pub returns-in-Err-clause-does : goal.returns-in-Err-clause-does
returns-in-Err-clause-does g c =
    let query = c.args.asked.now.query.now in
    rw c.status_of.ensures (record {
      reason = failed_reason query c.in-Err.error c.in-Err.ensures;
      planned = λ plan h. by_error query c.in-Err.error (asked_by c.args.asked.now) plan (g.W.KeptWire.told c.args.wire.now) c.in-Err.ensures h;
      unplanned = λ fault h. Grows-none _ (refl, ended_so _ fault (failed_unplanned query c.in-Err.error fault c.in-Err.ensures h));
    })
