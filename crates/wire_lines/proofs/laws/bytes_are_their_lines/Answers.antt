use Rattle.wire_lines.proofs.Cutting.{joined-whole, cut_is_free, whole-joined}
use Rattle.wire_lines.proofs.laws.bytes_are_their_lines.Goals as goal

pub returns-clause-joined : goal.returns-clause-joined
returns-clause-joined c = joined-whole

pub returns-clause-lines : goal.returns-clause-lines
returns-clause-lines c = λ bytes. (cut_is_free bytes).0

pub returns-clause-rest : goal.returns-clause-rest
returns-clause-rest c = λ bytes. (cut_is_free bytes).1

pub returns-clause-alone : goal.returns-clause-alone
returns-clause-alone c = whole-joined
