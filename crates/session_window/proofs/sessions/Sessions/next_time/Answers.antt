use Rattle.std.proofs.Common.{◌≡◌, min, rules}
use Rattle.session_window.proofs.Awaiting.{next_some}
use Rattle.session_window.proofs.sessions.Sessions.next_time.Goals as goal

pub returns-in-Some : goal.returns-in-Some
returns-in-Some c =
    next_some c.min.result c.first_time-at.result c.args.rest.now c.args.self.now.ends c.in-Some.edge.now c.in-Some.ensures.lookup.3.0 c.in-Some.ensures.lookup.3.1 (let g : c.min.result ≡ min c.in-Some.edge.now.sync c.first_time-at.result = search rules in g) c.first_time-at.ensures.first c.first_time-at.ensures.found
