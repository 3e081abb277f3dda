use Rattle.std.proofs.Common.{◌∙◌, ap}
use Rattle.session_window.proofs.Awaiting.{entry_put, entry_kept}
use Rattle.session_window.proofs.sessions.Sessions.put_in.Goals as goal

pub returns-then-not-first-clause-ends : goal.returns-then-not-first-clause-ends
returns-then-not-first-clause-ends c = entry_kept c.args.self.now.ends _ c.in_ok-first.first _ (c.in_ok-first.ensures.first) c.if-not-first.true

pub returns-clause-ends : goal.returns-clause-ends
returns-clause-ends c =
    entry_put c.args.self.now.ends c.put.new.self c.args.at c.in_ok-entry.entry _ c.in_ok-first.first _ c.in_ok-put.ensures.ok
    (c.in_ok-entry.ensures ∙ ap (λ k. record { sync = c.args.at; other = c.args.at; cells = k }) (c.key_values.ensures ∙ c.in_ok-first.ensures.values))
    c.in_ok-first.ensures.first c.if-not-first.false
