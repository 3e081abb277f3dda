use Rattle.std.proofs.Common.{◌∙◌, ◌++◌, sym, ap, subst}
use Rattle.edge_history.specs.History.{of}
use Rattle.egress.specs.Kept.{since_in}
use Rattle.egress.specs.Waiting.{waiting_in, Swept}
use Rattle.egress.specs.Print.{punctuation_if}
use Rattle.egress.proofs.Taking.{rendered, swept_anew}
use Rattle.egress.proofs.egress.Egress.render.Goals as goal

pub returns-clause-text : goal.returns-clause-text
returns-clause-text c = λ texts h a start events s stands.
    c.in_ok-push_punctuation_if.ensures
    ∙ ap (λ l. l ++ punctuation_if c.args.punctuation) (ap (λ v. v.items) c.replace-text.ensures.value ∙ rendered texts h a start c.args.self.now events s stands)

pub returns-clause-holds : goal.returns-clause-holds
returns-clause-holds c = λ texts h a start s.
    let rows = c.args.self.now.rows in
    let waits = waiting_in c.args.self.now.waiting in
    record {
      high = s.high;
      history = s.history;
      swept = subst (λ l. Swept texts rows.kinds.items (of h) start start (since_in texts rows.starts) waits l) (sym (ap (λ v. v.items) c.replace-text.ensures.after ∙ c.in_ok-next.ensures.items))
          (swept_anew texts rows.kinds.items (of h) a start (since_in texts rows.starts) waits rows.lines.items s.swept);
      cells = s.cells;
      kept = s.kept;
    }
