use Rattle.std.proofs.Common.{◌≡◌, ◌∙◌, ap}
use Rattle.tw_rows.specs.declared.edge.Edge.{Edge}
use Rattle.plan_model.specs.Keys.{paired_row}
use Rattle.follow_op.specs.Followed.{match_told}
use Rattle.sweep_sides.proofs.Telling.{told_next}
use Rattle.follow_op.proofs.rows.tell_rows.Goals as goal

pub loop-row-preserved : goal.loop-row-preserved
loop-row-preserved c =
    let rk = c.args.right_key.now in
    let x = c.row-item.result in
    let e : Edge = record { sync = c.args.t; other = c.plus.result; cells = c.in_ok-pair_cells.field-0 } in
    let right = c.args.right.now in
    let cells = c.in_ok-pair_cells.ensures ∙ ap (λ l. paired_row rk l right) c.items.ensures in
    let is : e ≡ match_told rk c.args.within c.args.t right x = λ i. record { sync = c.args.t; other = c.plus.ensures i; cells = cells i } in
    told_next (match_told rk c.args.within c.args.t right) c.args.rows.now c.loop-row.row-index x e c.args.answer.now.items c.loop-row.answer.items c.push.new.self.items
    c.loop-row-test.true c.row-item.is is c.loop-row.invariant c.in_ok-push.ensures.items
