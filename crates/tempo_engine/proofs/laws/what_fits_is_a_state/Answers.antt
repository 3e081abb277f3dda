use Rattle.tempo_engine.proofs.Fitting.{fits_state}
use Rattle.tempo_engine.proofs.laws.what_fits_is_a_state.Goals as goal

pub returns : goal.returns
returns c = λ workers plan policy lines f fits. fits_state workers plan policy lines fits.given fits.lists f fits.by
