use Rattle.std.specs.Prelude.{IsTrue}
use Rattle.std.proofs.Common.{sym}
use Rattle.ingress.specs.Held.{edge_with}
use Rattle.ingress.proofs.waiting.goes_last.Goals as goal
use Rattle.ingress.proofs.waiting.goes_last.Goals.{then-is_real, else-is_real}

pub returns-then-is_stored_as-clause-order : goal.returns-then-is_stored_as-clause-order
returns-then-is_stored_as-clause-order c = λ last.
    let both = c.if-is_stored_as.true in
    let real : IsTrue c.is_real.result = elim c.if-is_real.branch [ then-is_real w ↦ w.if-is_real.true | else-is_real w ↦ absurd (let v = w.value-is in cc) ] in
    c.comes_last.ensures last (edge_with c.args.sync c.args.other c.args.cells.now) (sym (c.rank_between.ensures c.args.cells.now)) (c.is_real.ensures real c.args.cells.now)
