use Rattle.dataflow.proofs.Bounding.{all_stand}
use Rattle.dataflow.proofs.laws.answers_stand.Goals as goal

pub returns : goal.returns
returns c = λ texts last source given lists d whole distinct flows from. all_stand texts distinct d whole last source given lists flows from
