use Rattle.std.proofs.Common.{rules, ◌≡◌, ◌≤◌, ◌∙◌, ◌++◌, map, min, sym, ap, subst, arith, refl}
use Rattle.std.specs.Prelude.{All}
use Rattle.tw_rows.specs.Cells.{datum_kind}
use Rattle.tw_rows.specs.Kinds.{cell_kind_of}
use Rattle.tw_rows.specs.Instant.{inf}
use Rattle.edge_history.specs.History.{of}
use Rattle.edge_history.specs.Order.{failing, is_from, is_below}
use Rattle.edge_stream.specs.Listing.{cells_of}
use Rattle.edge_stream.proofs.Filling.{batches_given-capacity}
use Rattle.sweep_sides.proofs.GivenBack.{both_given-capacity, both_given-limit}
use Rattle.plan_model.specs.Keys.{paired_row}
use Rattle.sweep_sides.specs.Waiting.{queued}
use Rattle.sweep_sides.proofs.Telling.{from_lesser, list_is, between_parts}
use Rattle.sweep_sides.specs.Answers.{FitsList}
use Rattle.follow_op.specs.States.{AreSides}
use Rattle.sweep_sides.proofs.Paired.{pair_mapped}
use Rattle.follow_op.proofs.KeyRules.{held_back, kept_by}
use Rattle.follow_op.proofs.Resuming.{follow_stepped}
use Rattle.tw_rows.specs.Event.{alive}
use Rattle.plan_laws.specs.Places.{read_of}
use Rattle.plan_model.specs.declared.node.Node.TheVariants.{Follow as FollowNode}
use Rattle.plan_laws.proofs.Undefined.{never_undefined}
use Rattle.follow_op.proofs.operating.FollowOperator.step.Goals as goal

pub returns-clause-kept : goal.returns-clause-kept
returns-clause-kept c = λ texts hl hr out k ml mr.
    let s = c.args.self.now in
    let w = s.working c.requires.works in
    let lk = s.sides.rows.left.key in
    let rk = s.sides.rows.right_key.columns in
    let within = s.sides.rows.within in
    let lc = map cell_kind_of s.left_kinds.items in
    let rc = map cell_kind_of s.right_kinds.items in
    let own = map cell_kind_of s.own_kinds.items in
    let l = c.args.left.edges in
    let r = c.args.right.edges in
    let from = c.min-from.result in
    let to = c.min-to.result in
    let f : from ≡ min s.left_to s.right_to = search rules in
    let e : to ≡ min c.args.left_to c.args.right_to = search rules in
    let xu = c.requires.left_rises in
    let yv = c.requires.right_rises in
    let lu : c.args.left_to ≤ inf = c.word.ensures.within in
    let lv : c.args.right_to ≤ inf = c.word-2.ensures.within in
    let low : min s.left_to s.right_to ≤ to = omega (arith, xu, yv, e) in
    let lx : min s.left_to s.right_to ≤ s.left_to = omega arith in
    let ly : min s.left_to s.right_to ≤ s.right_to = omega arith in
    let t = c.in_ok-told.ensures in
    let told = c.in_ok-told.told.items in
    let new = c.advance.new.self in
    let p = t.kept (min s.left_to s.right_to) hl hr low s.positive
    (record {
      left_timed = w.sides.left.timed;
      right_timed = w.sides.right.timed;
      left_history = k.left_history;
      right_history = k.right_history;
      left_waits = k.left_waits;
      right_waits = k.right_waits;
      now = k.now;
    })
    ml.history mr.history (from_lesser (min s.left_to s.right_to) s.left_to l lx ml.from) (from_lesser (min s.left_to s.right_to) s.right_to r ly mr.from) in
    kept_by s.sides.rows new.rows lc rc texts c.args.left_to c.args.right_to new.rows.left.rows new.rows.queue.items (queued new.left_waiting) (queued new.right_waiting)
    (hl ++ l) (hr ++ r) (out ++ c.in_ok-answer.answer.edges) t.keys
    (follow_stepped lk rk within lc rc own texts s.left_to s.right_to c.args.left_to c.args.right_to to s.sides.rows.left.rows s.sides.rows.queue.items new.rows.left.rows new.rows.queue.items
    (queued s.sides.left_waiting) (queued s.sides.right_waiting) (queued new.left_waiting) (queued new.right_waiting) hl hr l r out told c.in_ok-answer.answer.edges
    (ap (map cell_kind_of) s.own ∙ sym (pair_mapped cell_kind_of rk s.left_kinds.items s.right_kinds.items)) xu yv lu lv e k ml mr
    (subst (λ ks. All (λ x. map datum_kind x.cells ≡ ks) l) c.requires.left_kinds t.left_cells)
    (subst (λ ks. All (λ x. map datum_kind x.cells ≡ ks) r) c.requires.right_kinds t.right_cells)
    p.0.left_waits p.0.right_waits (held_back s.sides.rows new.rows (of (hl ++ l)) (of (hr ++ r)) to to new.rows.left.rows new.rows.queue.items t.keys p.0.now) p.1
    (list_is s.own_kinds.items c.as_slice.result.now (min s.left_to s.right_to) to told c.as_slice-2.result.now c.in_ok-answer.answer.edges c.as_slice.ensures.value c.as_slice-2.ensures.value
    (subst (λ n. FitsList (map cell_kind_of c.as_slice.result.now) n to c.as_slice-2.result.now → c.in_ok-answer.answer.edges ≡ c.as_slice-2.result.now) f c.in_ok-answer.ensures.edges)))

pub invariant_of-self-2-clause-positive : goal.invariant_of-self-2-clause-positive
invariant_of-self-2-clause-positive c =
    let p = c.args.self.now.positive in
    let k = c.in_ok-told.ensures.keys.within in
    omega (arith, p, k)

pub invariant_of-self-2-clause-own : goal.invariant_of-self-2-clause-own
invariant_of-self-2-clause-own c =
    let s = c.args.self.now in
    s.own ∙ ap (λ r. paired_row r s.left_kinds.items s.right_kinds.items) (sym c.in_ok-told.ensures.keys.right)

pub invariant_of-self-2-clause-by_key : goal.invariant_of-self-2-clause-by_key
invariant_of-self-2-clause-by_key c = c.args.self.now.by_key ∙ sym c.in_ok-told.ensures.keys.left

pub invariant_of-self-2-clause-working : goal.invariant_of-self-2-clause-working
invariant_of-self-2-clause-working c = λ _.
    let s = c.args.self.now in
    let w = s.working c.requires.works in
    let lc = map cell_kind_of s.left_kinds.items in
    let rc = map cell_kind_of s.right_kinds.items in
    let from = min s.left_to s.right_to in
    let to = c.min-to.result in
    let e : to ≡ min c.args.left_to c.args.right_to = search rules in
    let xu = c.requires.left_rises in
    let yv = c.requires.right_rises in
    let old : AreSides (cells_of c.args.left) (cells_of c.args.right) from s.sides =
    subst (λ k. AreSides k (cells_of c.args.right) from s.sides) (sym c.requires.left_kinds) (subst (λ k. AreSides lc k from s.sides) (sym c.requires.right_kinds) w.sides) in
    let new = c.in_ok-told.ensures.sides from (omega (arith, xu, yv, e)) old in
    record {
      sides = subst (λ n. AreSides lc rc n c.advance.new.self) e
          (subst (λ k. AreSides k rc to c.advance.new.self) c.requires.left_kinds (subst (λ k. AreSides (cells_of c.args.left) k to c.advance.new.self) c.requires.right_kinds new));
      width = w.width;
      room = w.room;
    }

pub returns-clause-between : goal.returns-clause-between
returns-clause-between c = λ left right.
    let s = c.args.self.now in
    let f : c.min-from.result ≡ min s.left_to s.right_to = search rules in
    let e : c.min-to.result ≡ min c.args.left_to c.args.right_to = search rules in
    let p = between_parts c.min-from.result c.min-to.result c.in_ok-answer.answer.edges c.in_ok-answer.ensures.between in
    record {
      from = subst (λ n. failing (is_from n) c.in_ok-answer.answer.edges ≡ 0) f p.0;
      below = subst (λ n. failing (is_below n) c.in_ok-answer.answer.edges ≡ 0) e p.1;
    }

pub give_back-requires-2 : goal.give_back-requires-2
give_back-requires-2 c =
    ap (λ s. s.capacity) c.give_back.ensures ∙ batches_given-capacity c.args.left.batches c.args.pools.now (cells_of c.args.left)
    ∙ c.requires.capacity ∙ sym c.requires.right_capacity

pub list_of-requires-clause-pools : goal.list_of-requires-clause-pools
list_of-requires-clause-pools c =
    both_given-capacity c.args.left c.args.right c.args.pools.now c.give_back.new.pools c.give_back-2.new.pools c.give_back.ensures c.give_back-2.ensures ∙ c.requires.capacity

pub returns-in_err-answer-clause-pools : goal.returns-in_err-answer-clause-pools
returns-in_err-answer-clause-pools c =
    c.list_of.ensures.pools ∙ both_given-capacity c.args.left c.args.right c.args.pools.now c.give_back.new.pools c.give_back-2.new.pools c.give_back.ensures c.give_back-2.ensures

pub returns-clause-pools : goal.returns-clause-pools
returns-clause-pools c =
    c.list_of.ensures.pools ∙ both_given-capacity c.args.left c.args.right c.args.pools.now c.give_back.new.pools c.give_back-2.new.pools c.give_back.ensures c.give_back-2.ensures

pub returns-in_err-answer-clause-limit : goal.returns-in_err-answer-clause-limit
returns-in_err-answer-clause-limit c =
    c.list_of.ensures.limit ∙ both_given-limit c.args.left c.args.right c.args.pools.now c.give_back.new.pools c.give_back-2.new.pools c.give_back.ensures c.give_back-2.ensures

pub returns-clause-limit : goal.returns-clause-limit
returns-clause-limit c =
    c.list_of.ensures.limit ∙ both_given-limit c.args.left c.args.right c.args.pools.now c.give_back.new.pools c.give_back-2.new.pools c.give_back.ensures c.give_back-2.ensures

pub returns-clause-defined : goal.returns-clause-defined
returns-clause-defined c = λ texts hl hr out apart k ml.
    let rows = c.args.self.now.sides.rows in
    never_undefined (FollowNode 0 1 rows.left.key rows.right_key.columns rows.within) refl (λ t. alive (read_of texts (hl ++ c.args.left.edges)) t) (min c.args.left_to c.args.right_to)
