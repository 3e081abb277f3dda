use Rattle.query_text.proofs.Numbers.{past_whole}
use Rattle.query_text.proofs.lex.decimal_word.Goals as goal

pub returns-in_default : goal.returns-in_default
returns-in_default c = past_whole c.args.whole.now c.args.fraction.now _ c.number_from.ensures c.in_default.is
