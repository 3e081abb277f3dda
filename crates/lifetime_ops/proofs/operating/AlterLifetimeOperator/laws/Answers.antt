use Rattle.plan_laws.proofs.Lives.{lives_opening, lives_rows, lives_longer}
use Rattle.lifetime_ops.specs.Nodes.{node_of, known}
use Rattle.lifetime_ops.proofs.Holding.{held_within}
use Rattle.lifetime_ops.proofs.Saving.{life_stored}
use Rattle.lifetime_ops.proofs.operating.AlterLifetimeOperator.laws.Goals as goal

pub returns-clause-opens : goal.returns-clause-opens
returns-clause-opens c = λ s texts o. lives_opening (node_of s.change) texts s.left_to s.right_to s.carried.edges o.empty o.left o.right

pub returns-clause-stands : goal.returns-clause-stands
returns-clause-stands c = λ s texts hl hr out apart k. lives_rows (node_of s.change) texts s.left_to s.right_to s.carried.edges hl hr out (known s.change) apart k

pub returns-clause-grows : goal.returns-clause-grows
returns-clause-grows c = λ s new old hl hr out b k. lives_longer (node_of s.change) new old s.left_to s.right_to s.carried.edges hl hr out b k

pub returns-clause-bounded : goal.returns-clause-bounded
returns-clause-bounded c = λ s texts hl hr out k. held_within s.change texts s.left_to s.right_to s.carried.edges hl hr out k

pub returns-clause-resumes_sound : goal.returns-clause-resumes_sound
returns-clause-resumes_sound c = λ s saved x y texts hl hr out r. r.sound

pub returns-clause-rows : goal.returns-clause-rows
returns-clause-rows c = λ s saved x y sound. life_stored s saved x sound
