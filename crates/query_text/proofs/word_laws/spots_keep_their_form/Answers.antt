use Rattle.query_text.proofs.Spots.{spots, spots_cut}
use Rattle.query_text.proofs.word_laws.spots_keep_their_form.Goals as goal

pub returns-clause-form : goal.returns-clause-form
returns-clause-form c = spots

pub returns-clause-cut : goal.returns-clause-cut
returns-clause-cut c = spots_cut
