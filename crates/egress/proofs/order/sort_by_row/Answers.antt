use Rattle.std.proofs.Common.{◌≡◌, rules}
use Rattle.std.specs.Ordering.{is_lt}
use Rattle.std.proofs.lemmas.Fn.{always_returns_same}
use Rattle.std.proofs.lemmas.List.Sorted.{ranks_by}
use Rattle.tw_rows.specs.Cells.{read_cells}
use Rattle.tw_rows.specs.RowOrder.{row_cmp_total}
use Rattle.tw_rows.specs.Rows.{row_cmp}
use Rattle.tw_rows.specs.declared.edge.Edge.{Edge}
use Rattle.egress.proofs.Ordered.{rows_sorted}
use Rattle.egress.proofs.order.sort_by_row.Goals as goal

pub returns-clause-sorted : goal.returns-clause-sorted
returns-clause-sorted c =
    rows_sorted c.args.texts.now _
    (c.sort_unstable_by.ensures.sorted (λ x y. is_lt (row_cmp (read_cells c.args.texts.now x.cells) (read_cells c.args.texts.now y.cells))) (ranks_by row_cmp_total (λ (e : Edge). read_cells c.args.texts.now e.cells))
    (always_returns_same _ (λ a r. is_lt r ≡ is_lt (row_cmp (read_cells c.args.texts.now a.0.now.cells) (read_cells c.args.texts.now a.1.0.now.cells))) _ (λ a r q k. search rules)))
