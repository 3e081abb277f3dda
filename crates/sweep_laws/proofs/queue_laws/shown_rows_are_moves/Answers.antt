-- What is answered by hand of the proof of laws::shown_rows_are_moves.
use Rattle.sweep_laws.proofs.QueueMoves.{shown_move}
use Rattle.sweep_laws.proofs.queue_laws.shown_rows_are_moves.Goals as goal

pub returns : goal.returns
returns c = λ same meets value count t a rows0 rows1 h0 h1 shown0 shown1 lost won s0 s1 moved.
    shown_move same meets value count a t rows0 rows1 h0 h1 shown0 shown1 lost won s0 s1 moved
