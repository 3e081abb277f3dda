use Rattle.checkpoint.proofs.Both.{time_both, bound_both, input_both, output_both, text_both, entry_both, part_back}
use Rattle.checkpoint.proofs.line_laws.lines_say_what_was_written.Goals as goal

pub returns-clause-times : goal.returns-clause-times
returns-clause-times c = time_both

pub returns-clause-bounds : goal.returns-clause-bounds
returns-clause-bounds c = bound_both

pub returns-clause-inputs : goal.returns-clause-inputs
returns-clause-inputs c = input_both

pub returns-clause-outputs : goal.returns-clause-outputs
returns-clause-outputs c = output_both

pub returns-clause-texts : goal.returns-clause-texts
returns-clause-texts c = text_both

pub returns-clause-entries : goal.returns-clause-entries
returns-clause-entries c = entry_both

pub returns-clause-parts : goal.returns-clause-parts
returns-clause-parts c = part_back
