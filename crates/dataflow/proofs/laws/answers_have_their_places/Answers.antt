use Rattle.dataflow.proofs.Growing.{flows_placed}
use Rattle.dataflow.proofs.laws.answers_have_their_places.Goals as goal

pub returns : goal.returns
returns c = flows_placed
