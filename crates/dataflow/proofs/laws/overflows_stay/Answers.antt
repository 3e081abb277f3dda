use Rattle.plan_model.proofs.Closings.{closes_rise}
use Rattle.dataflow.proofs.Slicing.{stays}
use Rattle.dataflow.proofs.laws.overflows_stay.Goals as goal

pub returns : goal.returns
returns c = λ source nodes x p o ordered low within h. stays source nodes x p o (closes_rise nodes ordered x p low within) h
