use Rattle.query_text.proofs.Limits.{short_query_at, short_syntax_at}
use Rattle.query_text.proofs.fault.short_fault.Goals as goal

pub returns-in_default : goal.returns-in_default
returns-in_default c = short_query_at c.args.text.now c.args.words.now _ c.requires.words c.requires.short c.in_ok-index.ensures c.in_default.is

pub returns : goal.returns
returns c = short_syntax_at c.args.text.now c.args.words.now c.in-Some.index c.offset_of-at.result _ c.requires.words c.requires.short c.in_ok-index.ensures c.in-Some.is c.offset_of-at.ensures
