use Rattle.std.proofs.Common.{◌≡◌, false}
use Rattle.tw_rows.specs.declared.edge.Edge.{Edge}
use Rattle.sweep_laws.specs.Moves.{told_at}
use Rattle.sweep_sides.proofs.Telling.{told_next}
use Rattle.union_clip.proofs.sweep.tell_ends.Goals as goal

pub loop-row-preserved : goal.loop-row-preserved
loop-row-preserved c =
    let y = c.row-item.result in
    let k = c.in_ok-clone.ensures.cases in
    let e : Edge = record { sync = c.args.t; other = y.start; cells = c.in_ok-clone.field-0 } in
    let it : e ≡ told_at false c.args.t y = λ i. record { sync = c.args.t; other = y.start; cells = k i } in
    told_next (told_at false c.args.t) c.args.rows.now c.loop-row.row-index y e c.args.answer.now.items c.loop-row.answer.items c.push.new.self.items
    c.loop-row-test.true c.row-item.is it c.loop-row.invariant c.in_ok-push.ensures.items
