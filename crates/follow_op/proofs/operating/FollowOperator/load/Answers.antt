use Rattle.std.proofs.Common.{rules, ◌∙◌, map, min, ap, sym, arith}
use Rattle.tw_rows.specs.Kinds.{cell_kind_of}
use Rattle.edge_stream.specs.Entries.{part_of}
use Rattle.plan_model.specs.Keys.{paired_row}
use Rattle.sweep_laws.specs.Saving.{rows_of}
use Rattle.sweep_sides.specs.Waiting.{queued}
use Rattle.follow_op.specs.States.{FollowSound}
use Rattle.follow_op.proofs.Resuming.{follow_loaded}
use Rattle.follow_op.proofs.operating.FollowOperator.load.Goals as goal

pub returns-clause-resumed : goal.returns-clause-resumed
returns-clause-resumed c = λ texts hl hr out r.
    let s = c.args.self.now in
    let old = s.sides.rows in
    let new = c.take_up.new.self in
    let entries = c.args.saved.now in
    let t = c.in_ok-take_up.ensures in
    follow_loaded old.left.key old.right_key.columns old.within (map cell_kind_of s.left_kinds.items) (map cell_kind_of s.right_kinds.items)
    new.rows.left.key new.rows.right_key.columns new.rows.within texts c.args.left_to c.args.right_to
    (rows_of (part_of 0 entries)) new.rows.left.rows r.queue new.rows.queue.items (part_of 1 entries) (part_of 2 entries) (queued new.left_waiting) (queued new.right_waiting) hl hr out
    (t.left_key ∙ (c.as_slice-3.ensures.value ∙ s.by_key)) (ap (λ v. v.columns) t.right_key) t.within t.rows t.queue t.order t.left_waiting t.right_waiting r.keeps

pub invariant_of-self-2-clause-positive : goal.invariant_of-self-2-clause-positive
invariant_of-self-2-clause-positive c =
    let p = c.args.self.now.positive in
    let k = c.in_ok-take_up.ensures.within in
    omega (arith, p, k)

pub invariant_of-self-2-clause-own : goal.invariant_of-self-2-clause-own
invariant_of-self-2-clause-own c =
    let s = c.args.self.now in
    s.own ∙ ap (λ r. paired_row r s.left_kinds.items s.right_kinds.items) (sym (ap (λ v. v.columns) c.in_ok-take_up.ensures.right_key))

pub invariant_of-self-2-clause-by_key : goal.invariant_of-self-2-clause-by_key
invariant_of-self-2-clause-by_key c = sym (c.in_ok-take_up.ensures.left_key ∙ c.as_slice-3.ensures.value)

pub invariant_of-self-2-clause-working : goal.invariant_of-self-2-clause-working
invariant_of-self-2-clause-working c = λ works.
    let s = c.args.self.now in
    let w = s.working works in
    let lc = map cell_kind_of s.left_kinds.items in
    let rc = map cell_kind_of s.right_kinds.items in
    let to = min c.args.left_to c.args.right_to in
    let sound : FollowSound lc rc to c.args.saved.now = search rules in
    record { sides = c.in_ok-take_up.ensures.sides lc rc to sound; width = w.width; room = w.room }
