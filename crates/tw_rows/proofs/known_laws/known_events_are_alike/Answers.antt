use Rattle.tw_rows.proofs.Knowing.{Known-lower, Known-refl, Known-sym, Known-trans, Known-seen}
use Rattle.tw_rows.proofs.known_laws.known_events_are_alike.Goals as goal

pub returns : goal.returns
returns g c = record { lower = Known-lower; itself = Known-refl; turned = Known-sym; then = Known-trans; seen = Known-seen }
