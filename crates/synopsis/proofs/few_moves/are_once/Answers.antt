use Rattle.std.specs.Prelude.{not}
use Rattle.std.specs.List.{list_all}
use Rattle.std.proofs.Common.{sym, ◌∙◌, ap}
use Rattle.tw_rows.specs.SameCells.{same_cells}
use Rattle.synopsis.proofs.Compared.{once_next}
use Rattle.synopsis.proofs.few_moves.are_once.Goals as goal

pub loop-i-preserved : goal.loop-i-preserved
loop-i-preserved c = λ once.
    c.loop-i.invariant
    (once_next c.args.moves.now c.loop-i.i c.index-moves-i.result _ c.loop-i-test.true c.index-moves-i.is (ap (list_all (λ m. not (same_cells c.index-moves-i.result.cells m.cells))) (sym c.rest.ensures) ∙ (sym c.are_others.ensures ∙ c.if-not-are_others.false)) once)
