use Rattle.plan_model.specs.Meaning.{node_closes}
use Rattle.sweep_sides.proofs.Kept.{kept_first, kept_longer, kept_stands}
use Rattle.sweep_sides.proofs.operating.SweptOperator.laws.Goals as goal

pub returns-clause-opens : goal.returns-clause-opens
returns-clause-opens g c = λ o texts new. kept_first o texts new (c.laws.ensures.opens o.sweep new.0)

pub returns-clause-stands : goal.returns-clause-stands
returns-clause-stands g c = λ o texts hl hr out apart k.
    kept_stands o texts hl hr out (c.laws.ensures.plain o.sweep) apart (c.laws.ensures.tells o.sweep (node_closes (g.S.Sweep.node o.sweep) o.left_to o.right_to) hl hr out k.kept) k

pub returns-clause-grows : goal.returns-clause-grows
returns-clause-grows g c = λ o new old hl hr out b k. kept_longer o new old hl hr out b k
