use Rattle.std.proofs.Common.{◌∙◌, ap}
use Rattle.std.specs.Prelude.{slice_get}
use Rattle.end_queue.proofs.Putting.{time_within, time_shown}
use Rattle.end_queue.proofs.EndQueue.time_at.Goals as goal

pub from_word-requires : goal.from_word-requires
from_word-requires c = time_within c.self.inside.edges.entries c.self.inside.next c.args.i _ c.self.invariant c.entry_at.ensures

pub returns : goal.returns
returns c = λ p h. c.from_word.ensures ∙ time_shown c.self.inside.edges.entries c.args.i _ p c.entry_at.ensures (ap (λ ps. slice_get ps c.args.i) c.self.view_is ∙ h)
