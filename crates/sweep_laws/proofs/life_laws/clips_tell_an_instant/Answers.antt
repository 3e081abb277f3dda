use Rattle.edge_history.proofs.Retaining.{AreEvents-none_fails}
use Rattle.sweep_laws.proofs.ClipSteps.{clip_step, clips_open, clips_step}
use Rattle.sweep_laws.proofs.life_laws.clips_tell_an_instant.Goals as goal

pub returns : goal.returns
returns c = record { step = clip_step; opens = clips_open; instant = λ meets w t a b valid. clips_step meets w t a b (AreEvents-none_fails a valid) }
