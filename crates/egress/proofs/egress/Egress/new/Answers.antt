use Rattle.std.proofs.Common.{refl, sym, ◌∙◌, ap, arith}
use Rattle.edge_history.specs.Order.{failing}
use Rattle.synopsis.specs.Kept.{times_if}
use Rattle.plan_laws.specs.RowCells.{cells_of}
use Rattle.egress.specs.Kept.{since_in}
use Rattle.egress.specs.Waiting.{edges_if, waiting_in}
use Rattle.plan_laws.proofs.Standing.{no_history}
use Rattle.egress.proofs.Taking.{swept_none}
use Rattle.egress.proofs.egress.Egress.new.Goals as goal

pub returns-clause-holds : goal.returns-clause-holds
returns-clause-holds c = λ texts.
    let rows = c.in_ok-new.field-0 in
    let is = c.in_ok-new.ensures in
    record {
      high = omega arith;
      history = no_history;
      swept = swept_none texts rows.kinds.items (since_in texts rows.starts) (waiting_in c.new-2.result) rows.lines.items
          (λ r. ap times_if (is.none (cells_of texts r)))
          (λ t. c.new-2.ensures t)
          is.lines;
      cells = λ p none. record {
        opens = λ cells t rest some. absurd (let z = sym (ap times_if (is.none cells)) ∙ some in cc);
        waits = λ t. ap (λ o. failing (λ e. p e.cells) (edges_if o)) (c.new-2.ensures t);
      };
      kept = λ cells closed. is.none cells;
    }

pub returns-clause-opening : goal.returns-clause-opening
returns-clause-opening c = record {
  closed = c.in_ok-new.ensures.none;
  none = λ t. c.new-2.ensures t;
  empty = c.in_ok-new.ensures.lines;
  works = refl;
}
