use Rattle.sweep_laws.proofs.KeptKnown.{sessions_kept, clips_kept, antis_kept}
use Rattle.sweep_laws.proofs.keep_laws.kept_rows_stay_right.Goals as goal

pub returns : goal.returns
returns g c = record { sessions = sessions_kept; clips = clips_kept; antis = antis_kept }
