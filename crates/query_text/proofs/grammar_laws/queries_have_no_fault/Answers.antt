use Rattle.query_text.proofs.Stops.{no_fault}
use Rattle.query_text.proofs.grammar_laws.queries_have_no_fault.Goals as goal

pub returns : goal.returns
returns c = λ tokens rest q. no_fault tokens rest q
