use Rattle.std.proofs.Common.{ap, sym, ◌∙◌}
use Rattle.occupancy.specs.Bits.{test}
use Rattle.occupancy.proofs.Places.{test-zero}
use Rattle.tw_rows.specs.declared.cells.Datum.TheVariants.{Bool as Flag}
use Rattle.lane_expr.proofs.Marks.{test-ones}
use Rattle.lane_expr.proofs.registers.Register.fill.Goals as goal
use Rattle.lane_expr.proofs.registers.Register.fill.Goals.{then-value, else-value}

pub returns-after-value-clause-data : goal.returns-after-value-clause-data
returns-after-value-clause-data c j lt =
    rw c.in-Bool.is (elim c.if-value.branch [
      | then-value w ↦ ap (λ x. Flag (test x j)) w.self-is ∙ ap Flag (test-ones j lt ∙ sym w.if-value.true)
      | else-value w ↦ ap (λ x. Flag (test x j)) w.self-is ∙ ap Flag (test-zero j ∙ sym w.if-value.false)
    ])
