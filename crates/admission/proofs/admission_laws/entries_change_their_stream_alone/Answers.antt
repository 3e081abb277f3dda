use Rattle.admission.proofs.Apart.{another_bound, another_mark, another_rows}
use Rattle.admission.proofs.admission_laws.entries_change_their_stream_alone.Goals as goal

pub returns-clause-bound : goal.returns-clause-bound
returns-clause-bound c = another_bound

pub returns-clause-mark : goal.returns-clause-mark
returns-clause-mark c = another_mark

pub returns-clause-rows : goal.returns-clause-rows
returns-clause-rows c = another_rows
