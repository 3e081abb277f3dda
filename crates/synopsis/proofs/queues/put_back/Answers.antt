-- What is answered by hand of the proof of queues::put_back.
use Rattle.std.specs.Prelude.{Some, cond}
use Rattle.std.proofs.Common.{◌∙◌, ap}
use Rattle.indexmap.specs.IndexMap.{get}
use Rattle.tw_rows.specs.SameCells.{same_cells}
use Rattle.synopsis.proofs.Opened.{set_open}
use Rattle.synopsis.proofs.queues.put_back.Goals as goal

pub returns-clause-since : goal.returns-clause-since
returns-clause-since c = λ q.
    c.in_ok-insert.ensures.updates.0 q
    ∙ ap (λ k. cond (same_cells k q) (Some c.args.since) (get same_cells c.args.starts.now q)) c.in_ok-kept.ensures.cases

pub returns-clause-filled : goal.returns-clause-filled
returns-clause-filled c = λ h. set_open c.args.starts.now c.insert.new.self c.args.cells.now c.args.since c.requires (returns-clause-since c) h
