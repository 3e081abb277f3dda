use Rattle.tw_rows.specs.SameCells.{same_cells-Decides}
use Rattle.std.proofs.Common.{sym, ◌∙◌}
use Rattle.tw_rows.proofs.cells.same_cells.Goals as goal

pub returns-clause-same : goal.returns-clause-same
returns-clause-same c =
    let d = same_cells-Decides c.args.a.now c.args.b.now in
    (λ h. d.0 (sym c.eq.ensures ∙ h), λ h. c.eq.ensures ∙ d.1 h)
