use Rattle.std.proofs.Common.{map}
use Rattle.wire_lines.proofs.Growth.{Grows-none}
use Rattle.tempo_cli.proofs.Jobs.{does_of, memory_job}
use Rattle.command_line.specs.Words.{asked_by}
use Rattle.tempo_cli.proofs.running.run.Goals as goal

pub returns-in-Ok-clause-does : goal.returns-in-Ok-clause-does
returns-in-Ok-clause-does g c = does_of (map (λ w. w.now) c.args.words.now) (asked_by c.in-Ok.asked) c.perform-status.result c.in-Ok.ensures.spelled c.perform-status.ensures.planned c.perform-status.ensures.unplanned

pub returns-in-Err-Memory-clause-does : goal.returns-in-Err-Memory-clause-does
returns-in-Err-Memory-clause-does g c = λ job is. Grows-none _ (memory_job job)
