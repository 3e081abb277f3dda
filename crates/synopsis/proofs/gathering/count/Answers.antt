-- What is answered by hand of the proof of gathering::count.
use Rattle.std.specs.Prelude.{◌+◌, Some, cond}
use Rattle.std.proofs.Common.{◌∙◌, ap}
use Rattle.indexmap.specs.IndexMap.{get}
use Rattle.tw_rows.specs.SameCells.{same_cells}
use Rattle.synopsis.specs.Counted.{ends_if, starts_if}
use Rattle.synopsis.specs.declared.gathering.Counts.{Counts}
use Rattle.synopsis.proofs.Counting.{set_count}
use Rattle.synopsis.proofs.gathering.count.Goals as goal

pub returns-clause-ends : goal.returns-clause-ends
returns-clause-ends c = λ q.
    let old = c.args.counted.now in
    let v : Counts = record { ends = c.in_ok-ends.ends; starts = c.in_ok-starts.starts } in
    set_count ends_if c.args.cells.now q (get same_cells old) (get same_cells c.insert.new.self) v c.args.more.ends
    (λ r. c.in_ok-insert.ensures.updates.0 r ∙ ap (λ k. cond (same_cells k r) (Some v) (get same_cells old r)) c.in_ok-kept.ensures.cases)
    (c.in_ok-ends.ensures ∙ ap (λ n. n + c.args.more.ends) c.counts_of-had.ensures.ends)

pub returns-clause-starts : goal.returns-clause-starts
returns-clause-starts c = λ q.
    let old = c.args.counted.now in
    let v : Counts = record { ends = c.in_ok-ends.ends; starts = c.in_ok-starts.starts } in
    set_count starts_if c.args.cells.now q (get same_cells old) (get same_cells c.insert.new.self) v c.args.more.starts
    (λ r. c.in_ok-insert.ensures.updates.0 r ∙ ap (λ k. cond (same_cells k r) (Some v) (get same_cells old r)) c.in_ok-kept.ensures.cases)
    (c.in_ok-starts.ensures ∙ ap (λ n. n + c.args.more.starts) c.counts_of-had.ensures.starts)
