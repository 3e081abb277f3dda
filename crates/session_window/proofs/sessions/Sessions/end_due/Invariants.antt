use Rattle.edge_history.specs.Order.{many}
use Rattle.session_window.specs.Kept.{Await, Ends, waits_below}
use Rattle.session_window.specs.Sessions.{IsLike}
use Rattle.session_window.proofs.sessions.Sessions.end_due.Given as goal

abbrev pub decreases-loop-entry : goal.decreases-loop-entry
decreases-loop-entry l = many (waits_below l.below) l.self.ends

abbrev pub invariant-loop-entry : goal.invariant-loop-entry
invariant-loop-entry l = record {
  ended : Ends l.fn.self.timeout l.fn.self.rows.key l.t l.fn.self.rows.rows l.self.rows.rows l.fn.answer.items l.answer.items;
  awaits : Await l.fn.self.timeout l.fn.self.rows.key l.fn.self.rows.rows l.fn.self.ends → Await l.fn.self.timeout l.fn.self.rows.key l.self.rows.rows l.self.ends;
  like : IsLike l.fn.self l.self;
}
