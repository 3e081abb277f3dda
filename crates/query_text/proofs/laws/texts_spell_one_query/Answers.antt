use Rattle.query_text.proofs.Spelled.{one_query}
use Rattle.query_text.proofs.laws.texts_spell_one_query.Goals as goal

pub returns : goal.returns
returns c = one_query
