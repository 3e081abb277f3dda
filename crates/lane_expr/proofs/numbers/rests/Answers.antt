use Rattle.std.proofs.Common.{◌≡◌, ◌∙◌, sym, ap, subst, arith, pos, get_or, w64, below_more, get_or-set_same, get_or-set_other}
use Rattle.std.specs.Int.{int_rem_euclid}
use Rattle.std.proofs.lemmas.List.{length-set}
use Rattle.std.proofs.lemmas.Int.{to_z-of_z}
use mir.Val.{SFits, to_z, of_z}
use Rattle.lane_expr.proofs.Signed.{whole_put}
use Rattle.lane_expr.proofs.numbers.rests.Goals as goal

pub loop-k-preserved : goal.loop-k-preserved
loop-k-preserved c =
    let k = c.loop-k.k in
    let lanes = c.loop-k.into.lanes in
    let z = c.rest.result in
    let f : SFits w64 z = record { sfits = c.rest.type_inv } in
    let e : to_z w64 (of_z w64 z) ≡ z = to_z-of_z w64 z f in
    let d : to_z w64 (of_z w64 (get_or c.args.of.now.lanes k (pos 0))) ≡ get_or c.args.of.now.lanes k (pos 0) = to_z-of_z w64 _ (c.args.of.now.whole k) in
    let i = c.loop-k.invariant in
    record {
      long = length-set lanes k _ ∙ i.long;
      value = below_more _ _ (λ j h. get_or-set_other lanes k j _ (pos 0) (λ s. omega arith) ∙ i.value j h)
          (get_or-set_same lanes k _ (pos 0) (omega (arith, i.long)) ∙ e ∙ c.rest.ensures ∙ ap (λ x. int_rem_euclid x (pos c.args.by.now.by)) d);
      whole = whole_put lanes k _ i.whole (subst (SFits w64) (sym e) f);
    }
