use Rattle.checkpoint.proofs.ShortLines.{query_short, options_short, time_line_short, bound_short, input_short, output_short, text_short, entry_short}
use Rattle.checkpoint.proofs.line_laws.each_line_is_short.Goals as goal

pub returns-clause-query : goal.returns-clause-query
returns-clause-query c = query_short

pub returns-clause-options : goal.returns-clause-options
returns-clause-options c = options_short

pub returns-clause-times : goal.returns-clause-times
returns-clause-times c = λ lines last is. time_line_short lines last is.0

pub returns-clause-bounds : goal.returns-clause-bounds
returns-clause-bounds c = bound_short

pub returns-clause-inputs : goal.returns-clause-inputs
returns-clause-inputs c = input_short

pub returns-clause-outputs : goal.returns-clause-outputs
returns-clause-outputs c = output_short

pub returns-clause-texts : goal.returns-clause-texts
returns-clause-texts c = text_short

pub returns-clause-entries : goal.returns-clause-entries
returns-clause-entries c = entry_short
