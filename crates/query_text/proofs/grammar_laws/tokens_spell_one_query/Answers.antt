use Rattle.query_text.proofs.Unique.{query_unique}
use Rattle.query_text.proofs.grammar_laws.tokens_spell_one_query.Goals as goal

pub returns : goal.returns
returns c = query_unique
