use Rattle.std.proofs.Common.{◌≡◌, ◌<◌, ◌∙◌, length, get_or, ap, sym, subst, arith}
use Rattle.std.proofs.lemmas.List.{get_or-set_other}
use Rattle.shard_apply.specs.Shards.{CanTakeNews, TakesNews}
use Rattle.shard_apply.proofs.Saves.{get_or_same}
use Rattle.shard_apply.proofs.Loads.{at_set, below_other}
use Rattle.shard_apply.proofs.fork.step_in_turn.Goals as goal

pub step-requires-clause-can : goal.step-requires-clause-can
step-requires-clause-can g c κs within =
    let s = c.index-shards-i.result in
    let i = c.loop-i.i in
    let is = c.loop-i.invariant.rest i s (omega arith) in
    subst (CanTakeNews g.O.Operator.standing c.args.cut.now c.args.news.now) (sym is) (c.requires.can i s c.loop-i-test.true)

pub loop-i-preserved : goal.loop-i-preserved
loop-i-preserved g c =
    let now = c.loop-i.shards in
    let was = c.args.shards.now in
    let i = c.loop-i.i in
    let inv = c.loop-i.invariant in
    let s = c.index-shards-i.result in
    let x = c.step.new.self in
    let takes = TakesNews g.O.Operator.standing g.O.Operator.keeps c.args.cut.now c.args.news.now in
    let within : i < length now = omega (arith, c.loop-i-test.true, c.loop-i.auto.shards) in
    let e = c.step.ensures in
    record {
      stepped = λ k d less.
          at_set (λ z. takes k (get_or was k d).operator z.operator z.answer) now i x k d within
          (λ same.
          let at = inv.rest i s (omega arith) ∙ get_or_same was i s d c.loop-i-test.true ∙ ap (λ j. get_or was j d) (sym same) in
          subst (λ n. takes n (get_or was k d).operator x.operator x.answer) (sym same)
          (subst (λ z. takes i z.operator x.operator x.answer) at e.stepped))
          (λ other. inv.stepped k d (below_other k i less other));
      rest = λ k d high. get_or-set_other now i k x d (λ same. absurd (omega (arith, high, same))) ∙ inv.rest k d (omega (arith, high));
      pools = λ k d low.
          at_set (λ z. z.pools.capacity ≡ (get_or was k d).pools.capacity) now i x k d within
          (λ same. e.pools ∙ ap (λ z. z.pools.capacity) (inv.rest i s (omega arith) ∙ get_or_same was i s d c.loop-i-test.true ∙ ap (λ j. get_or was j d) (sym same)))
          (λ other. inv.pools k d low);
    }
