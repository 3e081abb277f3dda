use Rattle.tw_rows.specs.declared.edge.Edge.{Edge}
use Rattle.anti_join.specs.Free.{told_since}
use Rattle.sweep_sides.proofs.Telling.{told_next}
use Rattle.anti_join.proofs.Flips.{told_is}
use Rattle.anti_join.proofs.sweep.tell.Goals as goal

pub loop-row-preserved : goal.loop-row-preserved
loop-row-preserved c =
    let y = c.row-item.result in
    let e : Edge = record { sync = c.args.t; other = c.other_time.result; cells = c.in_ok-clone.field-0 } in
    told_next (told_since c.args.since c.args.t) c.args.rows.now c.loop-row.row-index y e c.args.answer.now.items c.loop-row.answer.items c.push.new.self.items
    c.loop-row-test.true c.row-item.is (told_is c.args.since c.args.t y c.other_time.result c.in_ok-clone.field-0 c.other_time.ensures c.in_ok-clone.ensures.cases) c.loop-row.invariant c.in_ok-push.ensures.items
