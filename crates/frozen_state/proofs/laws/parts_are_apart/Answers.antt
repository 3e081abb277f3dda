use Rattle.frozen_state.proofs.Names.{parts_apart}
use Rattle.frozen_state.proofs.laws.parts_are_apart.Goals as goal

pub returns : goal.returns
returns c = parts_apart
