use Rattle.wire_lines.proofs.CutsFacts.{Cuts-same}
use Rattle.wire_lines.proofs.laws.pieces_make_no_difference.Goals as goal

pub returns-clause-lines : goal.returns-clause-lines
returns-clause-lines c = λ bytes one other given given' cuts cuts' asked asked'. (Cuts-same bytes one other given given' cuts cuts' asked asked').0

pub returns-clause-rest : goal.returns-clause-rest
returns-clause-rest c = λ bytes one other given given' cuts cuts' asked asked'. (Cuts-same bytes one other given given' cuts cuts' asked asked').1
