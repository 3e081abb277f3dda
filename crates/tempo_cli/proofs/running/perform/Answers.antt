use Rattle.std.proofs.Common.{refl, subst}
use Rattle.plan_model.specs.IsPlan.{PlanParts}
use Rattle.wire_lines.specs.Journal.{Grows}
use Rattle.wire_lines.proofs.Growth.{Grows-none}
use Rattle.command_line.specs.Words.{asked_by}
use Rattle.tempo_cli.specs.Jobs.{DoesMode}
use Rattle.tempo_cli.proofs.Jobs.{plan_once, never_both, asked_reason, failed_planned, failed_unplanned, failed_reason}
use Rattle.tempo_cli.proofs.running.perform.Goals as goal

pub returns-in-Ok-clause-reason : goal.returns-in-Ok-clause-reason
returns-in-Ok-clause-reason g c = asked_reason c.args.asked.now.query.now c.do_mode.result c.do_mode.ensures.asked

pub returns-in-Ok-clause-planned : goal.returns-in-Ok-clause-planned
returns-in-Ok-clause-planned g c = λ plan h.
    subst (λ (x : PlanParts). Grows (g.W.Wire.journal c.args.wire.now) (g.W.Wire.journal c.do_mode.new.wire) (DoesMode c.args.asked.now.mode (asked_by c.args.asked.now) x c.do_mode.result))
    (plan_once c.args.asked.now.query.now c.in-Ok.plan plan c.in-Ok.ensures h) c.do_mode.ensures.does

pub returns-in-Ok-clause-unplanned : goal.returns-in-Ok-clause-unplanned
returns-in-Ok-clause-unplanned g c = λ fault h. absurd (never_both c.args.asked.now.query.now c.in-Ok.plan fault c.in-Ok.ensures h)

pub returns-in-Err-clause-reason : goal.returns-in-Err-clause-reason
returns-in-Err-clause-reason g c = rw c.status_of.ensures (failed_reason c.args.asked.now.query.now c.in-Err.error c.in-Err.ensures)

pub returns-in-Err-clause-planned : goal.returns-in-Err-clause-planned
returns-in-Err-clause-planned g c = λ plan h. rw c.status_of.ensures (Grows-none _ (failed_planned c.args.asked.now.query.now c.in-Err.error c.args.asked.now.mode (asked_by c.args.asked.now) plan c.in-Err.ensures h))

pub returns-in-Err-clause-unplanned : goal.returns-in-Err-clause-unplanned
returns-in-Err-clause-unplanned g c = λ fault h. rw c.status_of.ensures (Grows-none _ (refl, failed_unplanned c.args.asked.now.query.now c.in-Err.error fault c.in-Err.ensures h))
