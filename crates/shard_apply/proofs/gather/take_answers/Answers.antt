use Rattle.std.proofs.Common.{◌+◌, ◌∙◌, ◌++◌, ◌∷◌, [], map, take, get_or, ap, sym, subst, arith}
use Rattle.std.specs.Prelude.{IsOk}
use Rattle.std.proofs.lemmas.List.{get_or-set_other, take_more, map-append}
use Rattle.std.proofs.Math.Seq.{map-set_same}
use Rattle.shard_apply.proofs.gather.take_answers.Goals as goal

pub push_answer-requires-clause-ok : goal.push_answer-requires-clause-ok
push_answer-requires-clause-ok g c =
    let i = c.loop-i.i in
    let s = c.index-shards-i.result in
    let is = c.take_answer-answer.ensures.answer ∙ ap (λ x. x.answer) (c.loop-i.invariant.rest i s (omega arith)) in
    subst IsOk (sym is) (c.requires i s c.loop-i-test.true)

pub loop-i-preserved : goal.loop-i-preserved
loop-i-preserved g c =
    let i = c.loop-i.i in
    let s = c.index-shards-i.result in
    let was = c.args.shards.now in
    let inv = c.loop-i.invariant in
    let is = c.take_answer-answer.ensures.answer ∙ ap (λ x. x.answer) (inv.rest i s (omega arith)) in
    record {
      lists = c.push_answer.ensures.lists
          ∙ (λ j. inv.lists j ++ is j ∷ [])
          ∙ sym (map-append (λ x. x.answer) (take i was) (get_or was i s ∷ []))
          ∙ ap (map (λ x. x.answer)) (sym (take_more was i s c.loop-i-test.true));
      rest = λ k d high.
          get_or-set_other c.loop-i.shards i k c.take_answer-answer.new.self d (λ same. absurd (omega (arith, high, same))) ∙ inv.rest k d (omega (arith, high));
      count = c.push_answer.ensures.len ∙ ap (λ n. n + 1) inv.count;
      room = omega (arith, inv.room, c.push_answer.ensures.capacity);
      operators = map-set_same (λ x. x.operator) c.loop-i.shards i c.take_answer-answer.new.self s c.take_answer-answer.ensures.operator ∙ inv.operators;
      capacities = map-set_same (λ x. x.pools.capacity) c.loop-i.shards i c.take_answer-answer.new.self s (ap (λ p. p.capacity) c.take_answer-answer.ensures.pools) ∙ inv.capacities;
    }
