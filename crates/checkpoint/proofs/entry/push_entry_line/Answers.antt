use Rattle.std.proofs.Common.{[], ◌++◌, sym, ◌∙◌, ap, append-nil}
use Rattle.checkpoint.specs.Lines.{cell_texts, entry_line}
use Rattle.checkpoint.specs.Pieces.{line_head}
use Rattle.checkpoint.proofs.Filling.{on_err, then_full, head_and_cells, cells_left}
use Rattle.checkpoint.proofs.entry.push_entry_line.Goals as goal

pub returns-clause-ok : goal.returns-clause-ok
returns-clause-ok c =
    let e = c.args.entry.now in
    let head = line_head c.args.owner c.args.shard e in
    let is = ap (λ l. head ++ cell_texts l) c.items.ensures ∙ head_and_cells c.args.owner c.args.shard e in
    c.in_ok-push_cells.ensures.ok ∙ cells_left c.args.out.now.items c.push_line_head.new.out.items head (cell_texts c.items.result.now) _ c.in_ok-push_line_head.ensures.ok is

pub returns-in_err-push_cells-clause-full : goal.returns-in_err-push_cells-clause-full
returns-in_err-push_cells-clause-full c =
    let e = c.args.entry.now in
    let head = line_head c.args.owner c.args.shard e in
    let cells = cell_texts c.items.result.now in
    let all = entry_line c.args.owner c.args.shard e in
    let is = ap (λ l. head ++ cell_texts l) c.items.ensures ∙ head_and_cells c.args.owner c.args.shard e in
    on_err _ _ (then_full c.args.out.now c.push_line_head.new.out cells [] cells all (sym (append-nil cells))
    (cells_left c.args.out.now.items c.push_line_head.new.out.items head cells all c.in_ok-push_line_head.ensures.ok is) c.in_ok-push_line_head.ensures.room c.in_err-push_cells.ensures.full)
