-- What is answered by hand of the proof of laws::edges_are_moves.
use Rattle.edge_history.proofs.Retaining.{AreEvents-none_fails}
use Rattle.sweep_laws.proofs.QueueMoves.{edges_move}
use Rattle.sweep_laws.proofs.queue_laws.edges_are_moves.Goals as goal

pub returns : goal.returns
returns c = λ same a t now valid is. edges_move same a t now (AreEvents-none_fails a valid) is
