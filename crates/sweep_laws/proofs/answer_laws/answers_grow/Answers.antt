use Rattle.sweep_laws.proofs.Adding.{adds_none, adds_then, adds_bag, adds_weigh}
use Rattle.sweep_laws.proofs.answer_laws.answers_grow.Goals as goal

pub returns : goal.returns
returns c = record { none = adds_none; then = adds_then; bag = adds_bag; weigh = adds_weigh }
