use Rattle.query_text.proofs.Signs.{sign_fits}
use Rattle.query_text.proofs.lex.front.Goals as goal

pub returns-then-first-ne39-clause-fits : goal.returns-then-first-ne39-clause-fits
returns-then-first-ne39-clause-fits c = sign_fits c.args.bytes.now c.sign_word.result c.sign_word.ensures.which c.requires
