use Rattle.std.specs.Prelude.{◌+◌, take}
use Rattle.std.proofs.Common.{sym, ◌∙◌}
use Rattle.tw_rows.specs.Cells.{read_cells}
use Rattle.plan_model.specs.Changes.{Ended}
use Rattle.synopsis.proofs.Ending.{next_taken, next_dropped}
use Rattle.egress.proofs.Ending.{mapped_more}
use Rattle.egress.proofs.open_rows.end_first.Goals as goal

pub loop-preserved : goal.loop-preserved
loop-preserved c =
    let xs = c.args.since.now.items in
    let i = c.loop.counter in
    let first = sym c.loop.invariant.0 ∙ c.in-Some.ensures.items in (
      sym (next_dropped i xs _ c.in-Some.start first),
      mapped_more c.args.kinds.now (λ s. Ended c.args.at s (read_cells c.args.texts.now c.args.cells.now)) c.args.lines.now.items c.loop.lines.items c.push_end.new.lines.items
          (take i xs) (take (i + 1) xs) c.in-Some.start (next_taken i xs _ c.in-Some.start first) c.loop.invariant.1 c.in_ok-push_end-in-Some.ensures,
    )
