use Rattle.std.proofs.Common.{◌+◌, ◌≤◌, ◌∙◌, length, arith, below_more, get_or-set_same, get_or-set_other}
use Rattle.std.proofs.lemmas.List.{length-set}
use Rattle.lane_expr.proofs.Loads.{block_long, block_cell}
use Rattle.lane_expr.proofs.places.load_places.Goals as goal

pub loop-k-preserved : goal.loop-k-preserved
loop-k-preserved c =
    let k = c.loop-k.k in
    let lanes = c.loop-k.into.lanes in
    let i = c.loop-k.invariant in
    record {
      long = length-set lanes k _ ∙ i.long;
      value = below_more _ _ (λ j h. get_or-set_other lanes k j _ 0 (λ s. omega arith) ∙ i.value j h) (get_or-set_same lanes k _ 0 (omega (arith, i.long, c.requires.few)));
    }

pub invariant_of-into : goal.invariant_of-into
invariant_of-into c = record { long = block_long c.args.column.now c.in-Some.block.now c.args.first c.in-Some.ensures.cases }

pub returns-in-Some : goal.returns-in-Some
returns-in-Some c = λ k lt.
    let full = c.if-count-eq-BLOCK.true in
    let le : c.args.first + 64 ≤ length c.args.column.now = omega (arith, full, c.requires.within) in
    block_cell c.args.column.now c.in-Some.block.now c.args.first c.in-Some.ensures.cases le 0 k (omega (arith, full, lt))
