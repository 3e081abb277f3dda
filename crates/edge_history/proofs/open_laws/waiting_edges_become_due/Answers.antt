use Rattle.edge_history.proofs.Waiting.{due_is, pending_then}
use Rattle.edge_history.proofs.open_laws.waiting_edges_become_due.Goals as goal

pub returns : goal.returns
returns c = record { due = λ came new waiting due rest c d. due_is came new waiting due rest c d; rest = λ came new waiting due rest c d. pending_then came new waiting due rest c d }
