use Rattle.std.proofs.Common.{◌≡◌, ◌+◌, ◌≤◌, ◌∙◌, length, sym, subst, arith, rules, pos, get_or, w64, below_more, get_or-set_same, get_or-set_other}
use Rattle.std.proofs.lemmas.List.{length-set}
use Rattle.std.proofs.lemmas.Int.{to_z-of_z}
use Rattle.std.proofs.lemmas.Simd.{Each1-from_get_or}
use mir.Val.{SFits, to_z, of_z}
use Rattle.lane_expr.proofs.Signed.{whole_put, by_places}
use Rattle.lane_expr.proofs.Loads.{block_long, block_cell}
use Rattle.lane_expr.proofs.numbers.load.Goals as goal

pub loop-k-preserved : goal.loop-k-preserved
loop-k-preserved c =
    let k = c.loop-k.k in
    let lanes = c.loop-k.into.lanes in
    let z = get_or c.args.column.now (c.args.first + k) (pos 0) in
    let f : SFits w64 z = search rules in
    let e : to_z w64 (of_z w64 z) ≡ z = to_z-of_z w64 z f in
    let i = c.loop-k.invariant in
    record {
      long = length-set lanes k _ ∙ i.long;
      value = below_more _ _ (λ j h. get_or-set_other lanes k j _ (pos 0) (λ s. omega arith) ∙ i.value j h) (get_or-set_same lanes k _ (pos 0) (omega (arith, i.long, c.requires.few)) ∙ e);
      whole = whole_put lanes k _ i.whole (subst (SFits w64) (sym e) f);
    }

pub invariant_of-into : goal.invariant_of-into
invariant_of-into c =
    let block = c.in-Some.block.now in
    record {
      long = block_long c.args.column.now block c.args.first c.in-Some.ensures.cases;
      whole = by_places block (Each1-from_get_or (SFits w64) block (pos 0) c.tell_whole.ensures);
    }

pub returns-in-Some : goal.returns-in-Some
returns-in-Some c = λ k lt.
    let full = c.if-count-eq-BLOCK.true in
    let le : c.args.first + 64 ≤ length c.args.column.now = omega (arith, full, c.requires.within) in
    block_cell c.args.column.now c.in-Some.block.now c.args.first c.in-Some.ensures.cases le (pos 0) k (omega (arith, full, lt))
