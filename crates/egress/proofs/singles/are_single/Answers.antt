use Rattle.std.specs.Prelude.{◌≡◌, true, false}
use Rattle.std.proofs.Common.{◌∙◌, sym, arith}
use Rattle.egress.proofs.EdgeMoves.{single_first, single_next, single_last}
use Rattle.egress.proofs.singles.are_single.Goals as goal

pub loop-i-init : goal.loop-i-init
loop-i-init c = single_first c.args.edges.now

pub loop-i-preserved : goal.loop-i-preserved
loop-i-preserved c =
    single_next c.args.edges.now c.loop-i.i c.index-edges-i.result c.index-edges-i-in-loop-i.result (omega arith) (omega arith) c.index-edges-i.is c.index-edges-i-in-loop-i.is
    (λ e. let z : false ≡ true = sym c.if-same_cells.false ∙ c.same_cells.ensures.same.1 e in absurd (cc)) c.loop-i.invariant

pub returns : goal.returns
returns c = λ t. single_last c.args.edges.now c.loop-i.i (omega arith) c.loop-i.invariant
