use Rattle.std.proofs.Common.{◌≡◌, ◌<◌, ◌≤◌, ◌∙◌, map, length, get_or, set, ap, sym, subst, refl, arith}
use Rattle.std.specs.Prelude.{List}
use Rattle.std.proofs.lemmas.List.{get_or-map, length-map, length-set, map-set, get_or-set_same}
use Rattle.std.proofs.Math.Seq.{map-set_same}
use Rattle.shard_apply.specs.declared.shard.Shard.{Shard}
use Rattle.shard_apply.specs.Stepping.{HasStepped}
use Rattle.shard_apply.specs.Whole.{side_by_side, standing_in}
use Rattle.shard_apply.proofs.Stepped.{works_where_ok}
use Rattle.shard_apply.proofs.Apart.{alone, alone_goes_on, ok_where, stepped_of, whole_goes_on}
use Rattle.shard_apply.proofs.sharded.Sharded.step_alone.Goals as goal

module _ {O S : Type 0} (operator : S → O) (shards : List S) (one : length (map operator shards) ≡ 1) (s x : S) (is : s ≡ get_or shards 0 s) where
  low : 0 < length shards
  low = omega (arith, one, length-map shards operator)

  old_is : (d : O) → operator s ≡ get_or (map operator shards) 0 d
  old_is d = ap operator is ∙ sym (get_or-map operator shards 0 s d low)

  new_is : (d : O) → operator x ≡ get_or (map operator (set shards 0 x)) 0 d
  new_is d = sym (ap (λ l. get_or l 0 d) (map-set operator shards 0 x) ∙ get_or-set_same (map operator shards) 0 (operator x) d (omega (arith, one)))

  one_now : length (map operator (set shards 0 x)) ≡ 1
  one_now = length-map (set shards 0 x) operator ∙ length-set shards 0 x ∙ sym (length-map shards operator) ∙ one

pub returns-clause-stepped : goal.returns-clause-stepped
returns-clause-stepped g c =
    let standing = g.O.Operator.standing in
    let keeps = g.O.Operator.keeps in
    let inside = c.self.inside in
    let shards = inside.shards.items in
    let operator : Shard g.row.O.Denot → g.row.O.Denot = λ z. z.operator in
    let s = c.index_mut.result.now in
    let x : Shard g.row.O.Denot = record { operator = c.step-answer.new.self; pools = s.pools; answer = s.answer } in
    let view = c.self.view_is in
    let works = ap (λ w. w.failed) view ∙ c.requires.can.works in
    let one = ap (λ w. length w.operators) view ∙ c.requires.one in
    let e = c.step-answer.ensures in
    let own : HasStepped (standing s.operator) (standing c.step-answer.new.self) (keeps s.operator) (keeps c.step-answer.new.self) c.args.left.edges c.args.right.edges
    c.args.left_to c.args.right_to c.step-answer.result = record {
      kept = e.kept;
      between = e.between;
      defined = e.defined;
      overflow = e.overflow;
      group = e.group;
      kinds = e.kinds;
      capacity = e.capacity;
      left_to = e.left_to;
      right_to = e.right_to;
      works = works_where_ok c.step-answer.result (standing c.step-answer.new.self).has_failed e.failed;
      like = e.like;
    } in
    let is = c.index_mut.ensures.value in
    stepped_of standing keeps (map operator shards) (map operator shards) (map operator (set shards 0 x)) (map operator (set shards 0 x)) inside.left_key.items inside.left_key.items
    inside.right_key.items inside.right_key.items _ _ c.args.self.now c.args.left.edges c.args.right.edges c.args.left_to c.args.right_to c.step-answer.result
    refl refl refl refl (sym c.is_err-self-inside.ensures.value) (ap (side_by_side (map operator shards) inside.left_key.items inside.right_key.items) (sym works) ∙ view)
    (alone standing keeps (map operator shards) (map operator (set shards 0 x)) inside.left_key.items inside.right_key.items c.args.left.edges c.args.right.edges
    c.args.left_to c.args.right_to (c.self.invariant.in_step works) one (one_now operator shards one s x is) c.step-answer.result
    (λ d. subst (λ o. HasStepped (standing o) (standing (get_or (map operator (set shards 0 x)) 0 d)) (keeps o) (keeps (get_or (map operator (set shards 0 x)) 0 d)) c.args.left.edges c.args.right.edges
    c.args.left_to c.args.right_to c.step-answer.result) (old_is operator shards one s x is d)
    (subst (λ o. HasStepped (standing s.operator) (standing o) (keeps s.operator) (keeps o) c.args.left.edges c.args.right.edges
    c.args.left_to c.args.right_to c.step-answer.result) (new_is operator shards one s x is d) own))
    (subst (λ w. (standing_in standing w).left_closed ≤ c.args.left_to) (sym view) c.requires.can.left_rises)
    (subst (λ w. (standing_in standing w).right_closed ≤ c.args.right_to) (sym view) c.requires.can.right_rises)
    s.operator c.is_in_order.ensures)

pub invariant_of-self : goal.invariant_of-self
invariant_of-self g c =
    let standing = g.O.Operator.standing in
    let keeps = g.O.Operator.keeps in
    let inside = c.self.inside in
    let shards = inside.shards.items in
    let operator : Shard g.row.O.Denot → g.row.O.Denot = λ z. z.operator in
    let s = c.index_mut.result.now in
    let x : Shard g.row.O.Denot = record { operator = c.step-answer.new.self; pools = s.pools; answer = s.answer } in
    let view = c.self.view_is in
    let works = ap (λ w. w.failed) view ∙ c.requires.can.works in
    let one = ap (λ w. length w.operators) view ∙ c.requires.one in
    let is = c.index_mut.ensures.value in
    let e = c.step-answer.ensures in
    let own : HasStepped (standing s.operator) (standing c.step-answer.new.self) (keeps s.operator) (keeps c.step-answer.new.self) c.args.left.edges c.args.right.edges
    c.args.left_to c.args.right_to c.step-answer.result = record {
      kept = e.kept;
      between = e.between;
      defined = e.defined;
      overflow = e.overflow;
      group = e.group;
      kinds = e.kinds;
      capacity = e.capacity;
      left_to = e.left_to;
      right_to = e.right_to;
      works = works_where_ok c.step-answer.result (standing c.step-answer.new.self).has_failed e.failed;
      like = e.like;
    } in
    whole_goes_on standing (map operator shards) (map operator (set shards 0 x)) (map (λ z. z.pools.capacity) shards) (map (λ z. z.pools.capacity) (set shards 0 x))
    inside.left_key.items inside.right_key.items inside.failed c.is_err-self-inside.result c.self.invariant works
    (one_now operator shards one s x is ∙ sym one)
    (map-set_same (λ z. z.pools.capacity) shards 0 x s (ap (λ z. z.pools.capacity) is))
    (λ fine. alone_goes_on standing keeps (map operator shards) (map operator (set shards 0 x)) inside.left_key.items inside.right_key.items c.args.left.edges c.args.right.edges
    c.args.left_to c.args.right_to (c.self.invariant.in_step works) one (one_now operator shards one s x is) c.step-answer.result
    (λ d. subst (λ o. HasStepped (standing o) (standing (get_or (map operator (set shards 0 x)) 0 d)) (keeps o) (keeps (get_or (map operator (set shards 0 x)) 0 d)) c.args.left.edges c.args.right.edges
    c.args.left_to c.args.right_to c.step-answer.result) (old_is operator shards one s x is d)
    (subst (λ o. HasStepped (standing s.operator) (standing o) (keeps s.operator) (keeps o) c.args.left.edges c.args.right.edges
    c.args.left_to c.args.right_to c.step-answer.result) (new_is operator shards one s x is d) own))
    (subst (λ w. (standing_in standing w).left_closed ≤ c.args.left_to) (sym view) c.requires.can.left_rises)
    (subst (λ w. (standing_in standing w).right_closed ≤ c.args.right_to) (sym view) c.requires.can.right_rises)
    s.operator (ok_where c.step-answer.result (sym c.is_err-self-inside.ensures.value ∙ fine)))
    ((returns-clause-stepped g c).like.batch_rows ∙ ap (λ w. (standing_in standing w).batch_rows) (sym view))
