use Rattle.query_plan.proofs.Cutting.{parts_cut}
use Rattle.query_plan.proofs.part_laws.parts_have_their_events.Goals as goal

pub returns : goal.returns
returns c = parts_cut
