use Rattle.std.proofs.Common.{◌∙◌, ap}
use Rattle.query_text.specs.Words.{fraction_length}
use Rattle.query_text.proofs.Skips.{rest_of}
use Rattle.query_text.proofs.Numbers.{decimal_first}
use Rattle.query_text.proofs.lex.numeric_front.Goals as goal

pub returns-clause-which : goal.returns-clause-which
returns-clause-which c = decimal_first c.args.bytes.now c.number_length-n.result c.fraction_length-places.result c.decimal_word.result c.number_length-n.ensures.which (c.fraction_length-places.ensures.which ∙ ap fraction_length (rest_of c.number_length-n.result c.args.bytes.now)) c.if-places-eq0.false c.decimal_word.ensures
