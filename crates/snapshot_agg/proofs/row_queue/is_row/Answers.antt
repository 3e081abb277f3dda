use Rattle.std.proofs.Common.{◌∙◌, sym, ap, ◌&&◌}
use Rattle.tw_rows.specs.SameCells.{same_cells}
use Rattle.tw_rows.proofs.CellEquality.{cells_eq_same}
use Rattle.snapshot_agg.proofs.row_queue.is_row.Goals as goal

pub returns-then-eq : goal.returns-then-eq
returns-then-eq c =
    let cells = c.args.cells.now in
    c.eq-then-eq.ensures ∙ (cells_eq_same c.items.result.now cells ∙ (ap (λ l. same_cells l cells) c.items.ensures
    ∙ ap (λ b. b && same_cells c.args.row.now.cells cells) (sym c.if-eq.true ∙ c.eq.ensures)))
