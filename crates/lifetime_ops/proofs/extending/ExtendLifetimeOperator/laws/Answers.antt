use Rattle.std.proofs.Common.{ap}
use Rattle.plan_laws.proofs.Extending.{extended_opening, extended_rows, extended_longer}
use Rattle.edge_stream.specs.Listing.{cells_of}
use Rattle.lifetime_ops.specs.Waiting.{edges_of_pending}
use Rattle.lifetime_ops.proofs.Loading.{extended_held, extend_stored}
use Rattle.lifetime_ops.proofs.extending.ExtendLifetimeOperator.laws.Goals as goal

pub returns-clause-opens : goal.returns-clause-opens
returns-clause-opens c = λ s texts o. extended_opening s.by texts s.left_to s.right_to s.carried.edges (edges_of_pending s.ends) o.empty (ap edges_of_pending o.none) o.left o.right

pub returns-clause-stands : goal.returns-clause-stands
returns-clause-stands c = λ s texts hl hr out apart k. extended_rows s.by texts s.left_to s.right_to s.carried.edges (edges_of_pending s.ends) hl hr out apart k

pub returns-clause-grows : goal.returns-clause-grows
returns-clause-grows c = λ s new old hl hr out b k. extended_longer s.by new old s.left_to s.right_to s.carried.edges (edges_of_pending s.ends) hl hr out b k

pub returns-clause-bounded : goal.returns-clause-bounded
returns-clause-bounded c = λ s texts hl hr out k. extended_held s.by texts s.left_to s.right_to s.carried.edges hl hr out (cells_of s.carried) s.ends s.waiting k

pub returns-clause-resumes_sound : goal.returns-clause-resumes_sound
returns-clause-resumes_sound c = λ s saved x y texts hl hr out r. r.sound

pub returns-clause-rows : goal.returns-clause-rows
returns-clause-rows c = λ s saved x y sound. extend_stored s saved x sound
