use Rattle.query_text.proofs.TokenForm.{tokens_sound}
use Rattle.query_text.proofs.grammar_laws.tokens_are_sound.Goals as goal

pub returns : goal.returns
returns c = tokens_sound
