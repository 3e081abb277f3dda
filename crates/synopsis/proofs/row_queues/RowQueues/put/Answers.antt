use Rattle.std.proofs.Common.{sym, ◌∙◌, ap, ◌++◌}
use Rattle.std.specs.Prelude.{cond, []}
use Rattle.std.specs.Prelude.{◌∷◌}
use Rattle.std.proofs.lemmas.List.{append_assoc}
use Rattle.tw_rows.specs.SameCells.{same_cells}
use Rattle.synopsis.specs.Kept.{since_at}
use Rattle.synopsis.specs.Queued.{queue_of}
use Rattle.synopsis.proofs.OpenRows.{held_is, queue_put}
use Rattle.synopsis.proofs.row_queues.RowQueues.put.Goals as goal

pub returns : goal.returns
returns c = λ q.
    let few = c.self.inside.held.few in
    let old = c.self.inside.held.starts in
    let new = c.open_row.new.starts in
    let more = cond (same_cells c.args.cells.now q) (c.args.start ∷ []) [] in
    held_is few new.entries q c.len-2.ensures.unique
    ∙ (ap (λ l. queue_of few q ++ l) (queue_put (since_at old q) (since_at new q) (same_cells c.args.cells.now q) c.args.start (c.in_ok-open_row.ensures.since q))
    ∙ (sym (append_assoc (queue_of few q) (since_at old q) more)
    ∙ ap (λ l. l ++ more) (sym (held_is few old.entries q c.len.ensures.unique) ∙ ap (λ l. queue_of l q) c.self.view_is)))
