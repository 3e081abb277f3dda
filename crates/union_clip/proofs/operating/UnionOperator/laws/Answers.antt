use Rattle.std.proofs.Common.{◌+◌, length, arith}
use Rattle.plan_laws.proofs.Unions.{union_opening, union_rows, union_longer, union_bound}
use Rattle.union_clip.proofs.Saving.{union_stored}
use Rattle.union_clip.proofs.operating.UnionOperator.laws.Goals as goal

pub returns-clause-opens : goal.returns-clause-opens
returns-clause-opens c = λ s texts o. union_opening texts s.left_to s.right_to s.left.edges s.right.edges o.left_empty o.right_empty o.left o.right

pub returns-clause-stands : goal.returns-clause-stands
returns-clause-stands c = λ s texts hl hr out apart k. union_rows texts s.left_to s.right_to s.left.edges s.right.edges hl hr out apart k

pub returns-clause-grows : goal.returns-clause-grows
returns-clause-grows c = λ s new old hl hr out b k. union_longer new old s.left_to s.right_to s.left.edges s.right.edges hl hr out b k

pub returns-clause-bounded : goal.returns-clause-bounded
returns-clause-bounded c = λ s texts hl hr out k. union_bound texts s.left_to s.right_to (length s.left.edges + length s.right.edges) s.left.edges s.right.edges hl hr out (omega arith) k

pub returns-clause-resumes_sound : goal.returns-clause-resumes_sound
returns-clause-resumes_sound c = λ s saved x y texts hl hr out r. r.sound

pub returns-clause-rows : goal.returns-clause-rows
returns-clause-rows c = λ s saved x y sound. union_stored s saved x y sound
