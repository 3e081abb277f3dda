use Rattle.query_text.proofs.Limits.{long_within}
use Rattle.query_text.proofs.fault.first_fault.Goals as goal

pub long_fault-requires-clause-within : goal.long_fault-requires-clause-within
long_fault-requires-clause-within c = long_within c.args.words.now c.long_at.result c.in-Some.index c.long_at.ensures c.in-Some.is
