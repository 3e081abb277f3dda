use Rattle.std.specs.Prelude.{◌≡◌, ℕ, ◌≤◌, Bool, List}
use Rattle.tw_rows.specs.Event.{AreEvents}
use Rattle.tw_rows.specs.declared.cells.Datum.{Datum}
use Rattle.edge_history.specs.History.{CellEvent}
use Rattle.synopsis.specs.Kept.{EachIsOpen}
use Rattle.egress.specs.Kept.{since_in}
use Rattle.egress.specs.Waiting.{waiting_in, pending_len}
use Rattle.egress.specs.Output.{HasSwept, AllPassed, IsPlacedIn}
use Rattle.egress.proofs.Sweeps.{Going}
use Rattle.egress.proofs.egress.Egress.show_due.Given as goal

abbrev pub invariant-instants : goal.invariant-instants
invariant-instants l = record {
  kinds : l.self.rows.kinds ≡ l.fn.self.rows.kinds;
  failed : l.self.failed ≡ l.fn.self.failed;
  swept : (events : List CellEvent) (a c : ℕ) → AreEvents events → c ≤ l.to → HasSwept l.texts events a c l.fn.self →
      Going l.texts l.fn.self.rows.kinds.items events a l.to (since_in l.texts l.self.rows.starts) (waiting_in l.self.waiting) l.self.rows.lines.items;
  placed : IsPlacedIn l.texts l.self;
  passed : (p : List Datum → Bool) → AllPassed p l.fn.self → AllPassed p l.self;
  kept : EachIsOpen l.fn.self.rows.starts → EachIsOpen l.self.rows.starts;
}

abbrev pub decreases-instants : goal.decreases-instants
decreases-instants l = pending_len l.self.waiting
