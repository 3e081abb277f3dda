use Rattle.std.proofs.Common.{arith}
use Rattle.query_text.proofs.Places.{offset_within, offset_behind}
use Rattle.query_text.proofs.fault.offset_of.Goals as goal

pub returns-then-index-words : goal.returns-then-index-words
returns-then-index-words c = offset_within c.args.end c.args.index c.args.words.now _ c.if-index-words.true

pub returns-else-index-words : goal.returns-else-index-words
returns-else-index-words c = offset_behind c.args.end c.args.index c.args.words.now (omega arith)
