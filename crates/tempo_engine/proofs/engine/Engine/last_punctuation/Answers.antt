use Rattle.std.proofs.Common.{◌≡◌, ◌∙◌}
use Rattle.tempo_engine.proofs.engine.Engine.last_punctuation.Goals as goal

pub returns : goal.returns
returns c = rw (← c.self.view_is) (λ plan policy lines fed. c.released.ensures ∙ fed.by.went.released)
