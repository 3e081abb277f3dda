use Rattle.dataflow.proofs.Bounding.{bounded}
use Rattle.dataflow.proofs.laws.plans_keep_at_most.Goals as goal

pub returns : goal.returns
returns c = λ texts last source given lists d whole distinct flows from i s here. bounded texts distinct d whole last source given lists flows from c.stages_keep_at_most.ensures i s here
