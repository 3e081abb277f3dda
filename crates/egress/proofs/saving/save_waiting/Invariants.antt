-- An entry was added for each edge that waited for the instants before.
use Rattle.std.specs.Prelude.{ℕ, ◌≤◌, List}
use Rattle.tw_rows.specs.Instant.{inf}
use Rattle.tw_rows.specs.declared.kind.Kind.{Kind}
use Rattle.edge_history.specs.History.{CellEvent}
use Rattle.synopsis.specs.Kept.{since_at}
use Rattle.egress.specs.Kept.{since_in}
use Rattle.egress.specs.Waiting.{waiting_in, pending_len, Swept, WaitingArePlaced}
use Rattle.egress.specs.Saved.{IsSettled}
use Rattle.egress.proofs.SavedInstants.{EndsSo}
use Rattle.egress.proofs.saving.save_waiting.Given as goal

abbrev pub invariant-instants : goal.invariant-instants
invariant-instants l = (texts : List (List ℕ)) (kinds : List Kind) (events : List CellEvent) (a c : ℕ) (text : List ℕ) → IsSettled texts events c → c ≤ inf →
    Swept texts kinds events a c (since_in texts l.fn.starts) (waiting_in l.fn.waiting) text → WaitingArePlaced texts (waiting_in l.fn.waiting) →
    EndsSo texts kinds events a c (waiting_in l.fn.waiting) l.fn.saved l.saved (since_at l.fn.starts) (since_at l.starts) (waiting_in l.waiting)

abbrev pub decreases-instants : goal.decreases-instants
decreases-instants l = pending_len l.waiting
