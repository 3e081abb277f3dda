use Rattle.ingress.proofs.Holding.{none_held, put_held, out_held, start_held, same_held}
use Rattle.ingress.proofs.held_laws.held_edges_follow_the_rows.Goals as goal

pub returns-clause-none : goal.returns-clause-none
returns-clause-none c = none_held

pub returns-clause-put : goal.returns-clause-put
returns-clause-put c = λ p given held more edge rows after h bag real late new. put_held p given held rows h more edge after bag real late new

pub returns-clause-taken_out : goal.returns-clause-taken_out
returns-clause-taken_out c = λ p given held fewer cells start rows after early h bag new. out_held p given held rows h fewer cells start after early bag new

pub returns-clause-there : goal.returns-clause-there
returns-clause-there c = λ p given held cells start rows others. start_held p given held cells start rows others

pub returns-clause-same : goal.returns-clause-same
returns-clause-same c = λ p given held alike rows after h bag new. same_held p given held rows h alike after bag new
