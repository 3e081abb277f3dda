use Rattle.std.specs.Prelude.{[], ◌∷◌}
use Rattle.std.proofs.lemmas.List.Elements.{All-nil, All-cons}
use Rattle.tw_rows.specs.Cells.{ArePlaced}
use Rattle.tw_rows.specs.declared.edge.Edge.{Edge}
use Rattle.edge_history.specs.History.{of}
use Rattle.edge_history.proofs.Sums.{failing-parts}
use Rattle.plan_laws.proofs.Standing.{of_valid}
use Rattle.egress.specs.Kept.{since_in}
use Rattle.egress.specs.Waiting.{waiting_in}
use Rattle.egress.proofs.Placing.{put_placed}
use Rattle.egress.proofs.Putting.{single_put}
use Rattle.egress.proofs.Taking.{swept_more, put_passes, one_from}
use Rattle.egress.proofs.egress.Egress.take_one.Goals as goal

pub returns-clause-holds : goal.returns-clause-holds
returns-clause-holds c = λ h a start holds whole low below.
    let texts = c.args.texts.now in
    let new = c.args.edge ∷ [] in
    let due = c.show_due.new.self in
    let is = c.in_ok-show_due.ensures.shown in
    let put = single_put (waiting_in due.waiting) (waiting_in c.put_singles.new.self) c.args.edge c.in_ok-put_singles.ensures in
    record {
      high = is.within;
      history = whole;
      swept = swept_more texts due.rows.kinds.items h new a c.args.due is.within holds.history whole (one_from c.args.due c.args.edge below)
          (since_in texts due.rows.starts) (waiting_in due.waiting) (waiting_in c.put_singles.new.self) due.rows.lines.items put
          (is.swept (of h) a start (of_valid h holds.history) low holds.swept);
      cells = λ p none.
          let parts = failing-parts (λ (e : Edge). p e.cells) h new none in
          let was = is.passed p (holds.cells p parts.0) in
          record {
            opens = was.opens;
            waits = put_passes p (waiting_in due.waiting) (waiting_in c.put_singles.new.self) new put was.waits parts.1;
          };
      kept = is.kept holds.kept;
    }

pub returns-clause-placed : goal.returns-clause-placed
returns-clause-placed c =
    put_placed c.args.texts.now (waiting_in c.show_due.new.self.waiting) (waiting_in c.put_singles.new.self) (c.args.edge ∷ [])
    (single_put (waiting_in c.show_due.new.self.waiting) (waiting_in c.put_singles.new.self) c.args.edge c.in_ok-put_singles.ensures)
    c.in_ok-show_due.ensures.shown.placed (All-cons (λ (e : Edge). ArePlaced c.args.texts.now e.cells) c.args.edge [] c.requires.placed (All-nil (λ (e : Edge). ArePlaced c.args.texts.now e.cells)))
