use Rattle.edge_history.proofs.Waiting.{starts_due, starts_rest}
use Rattle.edge_history.proofs.open_laws.waiting_starts_become_due.Goals as goal

pub returns : goal.returns
returns x = record { due = λ came new waiting due rest c d. starts_due came new waiting due rest c d; rest = λ came new waiting due rest c d. starts_rest came new waiting due rest c d }
