use Rattle.std.specs.Prelude.{◌≡◌, ◌++◌, true, false}
use Rattle.std.proofs.Common.{sym, ap, subst, refl}
use Rattle.sweep_laws.specs.Sweeps.{SyncsRise}
use Rattle.sweep_laws.proofs.Instants.{syncs_rise}
use Rattle.temporal_join.specs.Few.{Went}
use Rattle.temporal_join.specs.States.{SameColumns}
use Rattle.temporal_join.specs.declared.sides.JoinSides.{JoinSides}
use Rattle.temporal_join.proofs.Steps.{few_stepped, part_stepped, columns_then, both_put, queue_timed, all_read}
use Rattle.temporal_join.proofs.sides.JoinSides.step.Goals as goal

pub returns-then-not-may_go-clause-stepped : goal.returns-then-not-may_go-clause-stepped
returns-then-not-may_go-clause-stepped c = c.in_ok-step_many.ensures.stepped c.args.from

pub returns-then-whole-clause-stepped : goal.returns-then-whole-clause-stepped
returns-then-whole-clause-stepped c = λ tl tr.
    let o = c.args.self.now in
    let few = c.may_go.ensures.few c.if-not-may_go.false in
    let low = c.may_go.ensures.from c.if-not-may_go.false in
    let nl = c.args.left.now.edges in
    let nr = c.args.right.now.edges in
    let kl : c.cursor-l.result.edges ≡ nl = ap (λ u. u.edges) c.cursor-l.ensures.cursor in
    let kr : c.cursor-r.result.edges ≡ nr = ap (λ u. u.edges) c.cursor-r.ensures.cursor in
    let ul = subst (SyncsRise 0) (sym kl) (syncs_rise nl c.cursor-l.ensures.order.rises) in
    let ur = subst (SyncsRise 0) (sym kr) (syncs_rise nr c.cursor-r.ensures.order.rises) in
    let first = c.next_instant-first.ensures in
    let el = c.sweep.new.now_left.items ++ c.sweep.new.left.edges in
    let er = c.sweep.new.now_right.items ++ c.sweep.new.right.edges in
    let a0 = c.args.answer.now.items in
    let a1 = c.sweep.new.answer.items in
    let n : JoinSides = record o { left_waiting = c.put_rest.new.queue; right_waiting = c.put_rest-2.new.queue; left_due = c.put_now.new.now; right_due = c.put_now-2.new.now; few = c.sweep.new.self } in
    let went0 = c.in_ok-whole.ensures.went c.args.from low ul ur (first.left ul) (first.right ur) in
    let went : Went o.few n.few c.args.from c.args.to true nl el nr er a0 a1 =
    subst (λ b. Went o.few n.few c.args.from c.args.to b nl el nr er a0 a1) c.if-whole.true
    (subst (λ l. Went o.few n.few c.args.from c.args.to c.in_ok-whole.whole l el nr er a0 a1) kl (subst (λ l. Went o.few n.few c.args.from c.args.to c.in_ok-whole.whole c.cursor-l.result.edges el l er a0 a1) kr went0)) in
    few_stepped o n c.args.from c.args.to nl el nr er a0 a1 few went refl refl
    (both_put o.left_waiting c.put_now.new.queue c.put_rest.new.queue c.sweep.new.now_left.items c.sweep.new.left.edges c.in_ok-put_now.ensures.put c.in_ok-put_rest.ensures.put)
    (both_put o.right_waiting c.put_now-2.new.queue c.put_rest-2.new.queue c.sweep.new.now_right.items c.sweep.new.right.edges c.in_ok-put_now-2.ensures.put c.in_ok-put_rest-2.ensures.put)
    (c.in_ok-put_rest.ensures.timed (c.in_ok-put_now.ensures.timed (queue_timed o.left_waiting few.none_left))) (c.in_ok-put_rest-2.ensures.timed (c.in_ok-put_now-2.ensures.timed (queue_timed o.right_waiting few.none_right)))

pub returns-then-whole-clause-columns : goal.returns-then-whole-clause-columns
returns-then-whole-clause-columns c =
    let k = c.in_ok-whole.ensures.keys in
    record { left_key = refl; right_key = refl; few_left_key = k.left_key; few_right_key = k.right_key; left = refl; right = refl; few_left = k.left; few_right = k.right }

pub returns-then-whole-clause-left_cells : goal.returns-then-whole-clause-left_cells
returns-then-whole-clause-left_cells c =
    all_read c.cursor-l.result.edges c.args.left.now.edges c.sweep.new.left.edges _ c.cursor-l.result.kinds c.sweep.new.left.kinds (ap (λ u. u.edges) c.cursor-l.ensures.cursor) (ap (λ u. u.kinds) c.cursor-l.ensures.cursor) c.in_ok-whole.ensures.left_kinds
    c.in_ok-whole.ensures.left_cells c.in_ok-put_rest.ensures.cells

pub returns-then-whole-clause-right_cells : goal.returns-then-whole-clause-right_cells
returns-then-whole-clause-right_cells c =
    all_read c.cursor-r.result.edges c.args.right.now.edges c.sweep.new.right.edges _ c.cursor-r.result.kinds c.sweep.new.right.kinds (ap (λ u. u.edges) c.cursor-r.ensures.cursor) (ap (λ u. u.kinds) c.cursor-r.ensures.cursor) c.in_ok-whole.ensures.right_kinds
    c.in_ok-whole.ensures.right_cells c.in_ok-put_rest-2.ensures.cells

pub returns-clause-stepped : goal.returns-clause-stepped
returns-clause-stepped c = λ tl tr.
    let o = c.args.self.now in
    let few = c.may_go.ensures.few c.if-not-may_go.false in
    let low = c.may_go.ensures.from c.if-not-may_go.false in
    let nl = c.args.left.now.edges in
    let nr = c.args.right.now.edges in
    let kl : c.cursor-l.result.edges ≡ nl = ap (λ u. u.edges) c.cursor-l.ensures.cursor in
    let kr : c.cursor-r.result.edges ≡ nr = ap (λ u. u.edges) c.cursor-r.ensures.cursor in
    let ul = subst (SyncsRise 0) (sym kl) (syncs_rise nl c.cursor-l.ensures.order.rises) in
    let ur = subst (SyncsRise 0) (sym kr) (syncs_rise nr c.cursor-r.ensures.order.rises) in
    let first = c.next_instant-first.ensures in
    let el = c.sweep.new.now_left.items ++ c.sweep.new.left.edges in
    let er = c.sweep.new.now_right.items ++ c.sweep.new.right.edges in
    let a0 = c.args.answer.now.items in
    let a1 = c.sweep.new.answer.items in
    let m : JoinSides = record o { left_waiting = c.put_rest.new.queue; right_waiting = c.put_rest-2.new.queue; left_due = c.put_now.new.now; right_due = c.put_now-2.new.now; few = c.sweep.new.self } in
    let k = c.in_ok-whole.ensures.keys in
    let same : SameColumns o m = record { left_key = refl; right_key = refl; few_left_key = k.left_key; few_right_key = k.right_key; left = refl; right = refl; few_left = k.left; few_right = k.right } in
    let went0 = c.in_ok-whole.ensures.went c.args.from low ul ur (first.left ul) (first.right ur) in
    let went : Went o.few m.few c.args.from c.args.to false nl el nr er a0 a1 =
    subst (λ b. Went o.few m.few c.args.from c.args.to b nl el nr er a0 a1) c.if-whole.false
    (subst (λ l. Went o.few m.few c.args.from c.args.to c.in_ok-whole.whole l el nr er a0 a1) kl (subst (λ l. Went o.few m.few c.args.from c.args.to c.in_ok-whole.whole c.cursor-l.result.edges el l er a0 a1) kr went0)) in
    part_stepped o m c.settle_all.new.self c.finish.new.self c.args.from c.args.to nl el nr er a0 a1 c.finish.new.answer.items few went refl refl
    (both_put o.left_waiting c.put_now.new.queue c.put_rest.new.queue c.sweep.new.now_left.items c.sweep.new.left.edges c.in_ok-put_now.ensures.put c.in_ok-put_rest.ensures.put)
    (both_put o.right_waiting c.put_now-2.new.queue c.put_rest-2.new.queue c.sweep.new.now_right.items c.sweep.new.right.edges c.in_ok-put_now-2.ensures.put c.in_ok-put_rest-2.ensures.put)
    (c.in_ok-put_rest.ensures.timed (c.in_ok-put_now.ensures.timed (queue_timed o.left_waiting few.none_left))) (c.in_ok-put_rest-2.ensures.timed (c.in_ok-put_now-2.ensures.timed (queue_timed o.right_waiting few.none_right)))
    (columns_then o m c.settle_all.new.self same c.in_ok-settle_all.ensures.settled.columns) c.in_ok-settle_all.ensures.settled c.in_ok-finish.ensures.finished

pub returns-clause-columns : goal.returns-clause-columns
returns-clause-columns c =
    let o = c.args.self.now in
    let m : JoinSides = record o { left_waiting = c.put_rest.new.queue; right_waiting = c.put_rest-2.new.queue; left_due = c.put_now.new.now; right_due = c.put_now-2.new.now; few = c.sweep.new.self } in
    let k = c.in_ok-whole.ensures.keys in
    let same : SameColumns o m = record { left_key = refl; right_key = refl; few_left_key = k.left_key; few_right_key = k.right_key; left = refl; right = refl; few_left = k.left; few_right = k.right } in
    columns_then o c.settle_all.new.self c.finish.new.self (columns_then o m c.settle_all.new.self same c.in_ok-settle_all.ensures.settled.columns) c.in_ok-finish.ensures.finished.columns

pub returns-clause-left_cells : goal.returns-clause-left_cells
returns-clause-left_cells c =
    all_read c.cursor-l.result.edges c.args.left.now.edges c.sweep.new.left.edges _ c.cursor-l.result.kinds c.sweep.new.left.kinds (ap (λ u. u.edges) c.cursor-l.ensures.cursor) (ap (λ u. u.kinds) c.cursor-l.ensures.cursor) c.in_ok-whole.ensures.left_kinds
    c.in_ok-whole.ensures.left_cells c.in_ok-put_rest.ensures.cells

pub returns-clause-right_cells : goal.returns-clause-right_cells
returns-clause-right_cells c =
    all_read c.cursor-r.result.edges c.args.right.now.edges c.sweep.new.right.edges _ c.cursor-r.result.kinds c.sweep.new.right.kinds (ap (λ u. u.edges) c.cursor-r.ensures.cursor) (ap (λ u. u.kinds) c.cursor-r.ensures.cursor) c.in_ok-whole.ensures.right_kinds
    c.in_ok-whole.ensures.right_cells c.in_ok-put_rest-2.ensures.cells
