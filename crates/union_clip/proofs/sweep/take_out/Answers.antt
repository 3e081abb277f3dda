use Rattle.std.proofs.Common.{◌+◌, ◌∙◌, sym, ap, arith, refl}
use Rattle.tw_rows.specs.Bag.{total}
use Rattle.edge_history.specs.Order.{many}
use Rattle.edge_history.specs.Opens.{is_held}
use Rattle.union_clip.proofs.Leaving.{taken_more}
use Rattle.union_clip.proofs.sweep.take_out.Goals as goal

pub loop-end-init : goal.loop-end-init
loop-end-init c = record { taken = λ fit w. (omega arith); key = refl }

pub loop-end-preserved : goal.loop-end-preserved
loop-end-preserved c =
    let x = c.end-item.result in
    let k = c.loop-end.invariant in
    record {
      taken = λ fit w.
          taken_more c.args.ends.now c.loop-end.end-index x c.args.rows.now.rows c.loop-end.rows.rows c.take.new.self.rows c.take.result c.loop-end-test.true c.end-item.is
          (λ h v. c.take.ensures.taken h v ∙ ap (λ l. total v c.take.new.self.rows + v (record { cells = l; start = x.other })) c.items.ensures)
          (λ h. sym (ap (λ l. many (is_held l x.other) c.loop-end.rows.rows) c.items.ensures) ∙ c.take.ensures.none h)
          fit (k.taken fit) w;
      key = c.take.ensures.key ∙ k.key;
    }
