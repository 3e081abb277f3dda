use Rattle.checkpoint.specs.Lines.{cell_texts}
use Rattle.checkpoint.proofs.Filling.{on_err, then_full, cells_cut}
use Rattle.checkpoint.proofs.entry.push_cells.Goals as goal

pub returns-in_err-push_few_cells-clause-full : goal.returns-in_err-push_few_cells-clause-full
returns-in_err-push_few_cells-clause-full c =
    let few = c.split_at.result.0.now in
    let more = c.split_at.result.1.now in
    let cut = cells_cut c.min.result c.loop-rest.rest.now few more c.split_at.ensures.front c.split_at.ensures.back in
    on_err _ _ (then_full c.args.out.now c.loop-rest.out (cell_texts few) (cell_texts more) (cell_texts c.loop-rest.rest.now) (cell_texts c.args.cells.now) cut
    c.loop-rest.invariant.0 c.loop-rest.invariant.1 c.in_err-push_few_cells.ensures.full)
