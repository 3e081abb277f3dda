use Rattle.std.proofs.Common.{◌≡◌, ◌<◌, ◌∙◌, ℕ, map, length, get_or, ap, sym, subst, arith}
use Rattle.std.proofs.lemmas.List.{get_or-map, length-map}
use Rattle.shard_apply.specs.declared.shard.Shard.{Shard}
use Rattle.shard_apply.specs.Whole.{side_by_side, standing_in, AreInStep}
use Rattle.shard_apply.proofs.Apart.{on_ok_where, stepped_of, whole_goes_on, written_back}
use Rattle.shard_apply.proofs.sharded.Sharded.step_apart.Goals as goal

pub step_together-answer-requires-clause-capacities : goal.step_together-answer-requires-clause-capacities
step_together-answer-requires-clause-capacities g c κs within k d low =
    let standing = g.O.Operator.standing in
    let shards = c.self.inside.shards.items in
    let view = c.self.view_is in
    let works = ap (λ w. w.failed) view ∙ c.requires.can.works in
    let at = ap (λ l. get_or l k d) c.deref_mut.ensures.value in
    let here : k < length shards = omega (arith, low, ap length c.deref_mut.ensures.value) in
    let room = c.self.invariant.rooms works k d.pools.capacity (omega (arith, here, length-map shards (λ s. s.pools.capacity))) in
    ap (λ s. s.pools.capacity) at
    ∙ sym (get_or-map (λ s. s.pools.capacity) shards k d d.pools.capacity here)
    ∙ room
    ∙ ap (λ w. (standing_in standing w).batch_rows) view
    ∙ sym c.requires.can.own_room

pub returns-clause-stepped : goal.returns-clause-stepped
returns-clause-stepped g c =
    let standing = g.O.Operator.standing in
    let keeps = g.O.Operator.keeps in
    let inside = c.self.inside in
    let operator : Shard g.row.O.Denot → g.row.O.Denot = λ z. z.operator in
    let now = c.step_together-answer.new.shards in
    let view = c.self.view_is in
    let works = ap (λ w. w.failed) view ∙ c.requires.can.works in
    let value = c.deref_mut.ensures.value in
    let long : inside.shards.len ≡ length now = inside.shards.ok.0 ∙ ap length (sym value) ∙ sym c.step_together-answer.auto.shards in
    stepped_of standing keeps (map operator c.deref_mut.result.now) (map operator inside.shards.items) (map operator now) _ c.deref.result.now inside.left_key.items
    c.deref-2.result.now inside.right_key.items _ _ c.args.self.now c.args.left.now.edges c.args.right.now.edges c.args.left_to c.args.right_to c.step_together-answer.result
    (ap (map operator) value) (ap (map operator) (sym (written_back inside.shards.len now _ long))) c.deref.ensures.value c.deref-2.ensures.value
    (sym c.is_err-self-inside.ensures.value) (ap (side_by_side (map operator inside.shards.items) inside.left_key.items inside.right_key.items) (sym works) ∙ view)
    c.step_together-answer.ensures.stepped

pub invariant_of-self : goal.invariant_of-self
invariant_of-self g c =
    let standing = g.O.Operator.standing in
    let inside = c.self.inside in
    let operator : Shard g.row.O.Denot → g.row.O.Denot = λ z. z.operator in
    let capacity : Shard g.row.O.Denot → ℕ = λ z. z.pools.capacity in
    let now = c.step_together-answer.new.shards in
    let view = c.self.view_is in
    let works = ap (λ w. w.failed) view ∙ c.requires.can.works in
    let value = c.deref_mut.ensures.value in
    let long : inside.shards.len ≡ length now = inside.shards.ok.0 ∙ ap length (sym value) ∙ sym c.step_together-answer.auto.shards in
    let back = written_back inside.shards.len now _ long in
    whole_goes_on standing (map operator inside.shards.items) _ (map capacity inside.shards.items) _ inside.left_key.items inside.right_key.items inside.failed c.is_err-self-inside.result
    c.self.invariant works
    (length-map _ operator ∙ ap length back ∙ c.step_together-answer.auto.shards ∙ ap length value ∙ sym (length-map inside.shards.items operator))
    (ap (map capacity) back ∙ c.step_together-answer.ensures.capacities ∙ ap (map capacity) value)
    (λ fine. subst (λ l. AreInStep (map standing (map operator l)) inside.left_key.items inside.right_key.items) (sym back)
    (subst (λ key. AreInStep (map standing (map operator now)) key inside.right_key.items) c.deref.ensures.value
    (subst (λ key. AreInStep (map standing (map operator now)) c.deref.result.now key) c.deref-2.ensures.value
    (on_ok_where c.step_together-answer.result _ c.step_together-answer.ensures.in_step (sym c.is_err-self-inside.ensures.value ∙ fine)))))
    ((returns-clause-stepped g c).like.batch_rows ∙ ap (λ w. (standing_in standing w).batch_rows) (sym view))
