use Rattle.std.proofs.Common.{◌∙◌, sym, subst, arith, filter}
use Rattle.tw_rows.specs.Bag.{SameBag}
use Rattle.follow_op.specs.Waits.{StartsRise}
use Rattle.follow_op.proofs.Taken.{over_step, over_fewer, over_filter, rise_rest, all_wait}
use Rattle.follow_op.proofs.rows.drop_over.Goals as goal

pub over-preserved : goal.over-preserved
over-preserved c =
    let k = c.over.invariant in
    let r = c.in-Some.row in
    let g = c.in-Some.ensures.some in
    let f = c.take.ensures in
    let l0 = c.over.left.rows in
    let l1 = c.take.new.self.rows in
    let q0 = c.over.queue.items in
    let q1 = c.pop_over.new.queue.items in
    record {
      rows = λ p same.
          over_step p l0 l1 q1 r c.take.result c.items.result.now c.items.ensures f.taken f.none f.unchanged
          (subst (λ l. SameBag l0 (filter p l)) g.0 (k.rows p same));
      queue = λ up.
          let q = k.queue up in
          (rise_rest r q0 q1 g.0 q.0, over_filter c.args.within c.args.t r q0 q1 g.0 g.1 ∙ q.1);
      fewer = λ w.
          let a = over_fewer l0 l1 (record { cells = c.items.result.now; start = r.start }) c.take.result f.taken f.unchanged w in
          let b = k.fewer w in
          omega (arith, a, b);
      key = f.key ∙ k.key;
    }

pub returns-clause-queue : goal.returns-clause-queue
returns-clause-queue c = λ up.
    let q = c.over.invariant.queue up in
    let e = c.in_default.ensures.none in (
      subst (λ l. StartsRise 0 l) (sym e.0) q.0,
      e.0 ∙ sym (all_wait c.args.within c.args.t c.over.queue.items q.0 e.1) ∙ q.1,
    )
