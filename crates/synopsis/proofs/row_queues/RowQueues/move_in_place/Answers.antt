use Rattle.std.proofs.Common.{◌≡◌, List, sym, ◌∙◌, ap, ◌-◌, ◌++◌, drop}
use Rattle.std.specs.Prelude.{replicate}
use Rattle.tw_rows.specs.SameCells.{same_cells}
use Rattle.edge_history.specs.Opens.{bare, ended_rows, started_rows}
use Rattle.key_nodes.specs.Coalesced.{how_often}
use Rattle.tw_rows.specs.declared.cells.Datum.{Datum}
use Rattle.sweep_laws.specs.Queues.{open_starts}
use Rattle.synopsis.specs.Queued.{queue_of}
use Rattle.sweep_laws.proofs.Queueing.{queues_next}
use Rattle.synopsis.specs.Kept.{rows_in}
use Rattle.synopsis.specs.Holding.{since_of}
use Rattle.synopsis.proofs.OpenRows.{held_is, rows_grow}
use Rattle.synopsis.proofs.row_queues.RowQueues.move_in_place.Goals as goal

pub returns-clause-moved : goal.returns-clause-moved
returns-clause-moved c = λ f low moves is.
    let old = c.self.inside.held in
    let new = c.tell_in_place.new.held in
    let since : (q : List Datum) → since_of old q ≡ open_starts same_cells f q c.args.at = λ q. sym (held_is old.few old.starts.entries q c.len.ensures.unique) ∙ (ap (λ l. queue_of l q) c.self.view_is ∙ is q) in (
      λ q. held_is new.few new.starts.entries q c.len-2.ensures.unique
          ∙ (c.in_ok-tell_in_place.ensures.since q
          ∙ queues_next same_cells f c.args.at (λ r. how_often same_cells r (bare (ended_rows c.args.now.now))) (λ r. how_often same_cells r (bare (started_rows c.args.now.now))) moves (since_of old) since q),
      c.in_ok-tell_in_place.ensures.tells f low moves since,
    )

pub returns-clause-rows : goal.returns-clause-rows
returns-clause-rows c = λ w.
    let old = c.self.inside.held in
    let new = c.tell_in_place.new.held in
    rows_grow w c.args.at c.args.self.now (new.few ++ rows_in new.starts.entries) (λ r. how_often same_cells r (bare (ended_rows c.args.now.now))) (bare (started_rows c.args.now.now))
    (λ q. held_is new.few new.starts.entries q c.len-2.ensures.unique
    ∙ (c.in_ok-tell_in_place.ensures.since q
    ∙ ap (λ l. drop (how_often same_cells q (bare (ended_rows c.args.now.now)) - how_often same_cells q (bare (started_rows c.args.now.now))) l ++ replicate (how_often same_cells q (bare (started_rows c.args.now.now)) - how_often same_cells q (bare (ended_rows c.args.now.now))) c.args.at)
    (sym (held_is old.few old.starts.entries q c.len.ensures.unique) ∙ ap (λ l. queue_of l q) c.self.view_is)))
