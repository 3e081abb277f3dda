use Rattle.std.proofs.Common.{refl}
use Rattle.session_window.proofs.Answering.{node_stored}
use Rattle.session_window.proofs.Resuming.{session_opens, session_fits, session_tells, session_bound, session_rows_stored}
use Rattle.session_window.proofs.side.SessionSideSweep.laws.Goals as goal

pub returns-clause-opens : goal.returns-clause-opens
returns-clause-opens c = session_opens

pub returns-clause-empty : goal.returns-clause-empty
returns-clause-empty c = λ s l r to e. session_fits s l to e

pub returns-clause-tells : goal.returns-clause-tells
returns-clause-tells c = λ s to hl hr out k. session_tells s to hl hr out k

pub returns-clause-cells : goal.returns-clause-cells
returns-clause-cells c = λ s l r a b h k. node_stored l s.sessions.rows.key s.sessions.timeout a b h

pub returns-clause-plain : goal.returns-clause-plain
returns-clause-plain c = λ s. refl

pub returns-clause-defined : goal.returns-clause-defined
returns-clause-defined c = λ s. refl

pub returns-clause-bounded : goal.returns-clause-bounded
returns-clause-bounded c = λ s x y hl hr out il ir k.
    session_bound s.sessions.rows.key s.sessions.timeout x s.sessions.rows.rows s.sessions.ends s.waiting hl hr out k.positive k.kept

pub returns-clause-rows : goal.returns-clause-rows
returns-clause-rows c = λ s st saved to sound. session_rows_stored st saved to st.left_kinds refl sound
