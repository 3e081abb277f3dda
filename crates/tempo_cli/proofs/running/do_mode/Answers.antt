use Rattle.std.proofs.Common.{sym, subst}
use Rattle.query_plan.specs.Explained.{explained}
use Rattle.query_plan.specs.Told.{cut_text}
use Rattle.wire_lines.specs.Journal.{Grows}
use Rattle.command_line.specs.Words.{asked_by}
use Rattle.command_line.specs.declared.words.Mode.{Mode}
use Rattle.tempo_cli.specs.Jobs.{DoesMode}
use Rattle.tempo_cli.proofs.running.do_mode.Goals as goal

pub returns-in-Explain-clause-does : goal.returns-in-Explain-clause-does
returns-in-Explain-clause-does g c =
    subst (λ (m : Mode). Grows (g.W.Wire.journal c.args.wire.now) (g.W.Wire.journal c.tell.new.wire) (DoesMode m (asked_by c.args.asked.now) c.args.plan c.tell.result))
    (sym c.in-Explain.is) (c.tell.ensures.tells (explained c.args.plan) c.explain.ensures)

pub returns-in-Cut-clause-does : goal.returns-in-Cut-clause-does
returns-in-Cut-clause-does g c =
    subst (λ (m : Mode). Grows (g.W.Wire.journal c.args.wire.now) (g.W.Wire.journal c.tell-in-Cut.new.wire) (DoesMode m (asked_by c.args.asked.now) c.args.plan c.tell-in-Cut.result))
    (sym c.in-Cut.is) (c.tell-in-Cut.ensures.tells (cut_text c.args.plan) c.cut_text.ensures)
