use Rattle.std.proofs.Common.{◌≡◌, ◌∙◌, ap, cond}
use Rattle.tw_rows.specs.declared.edge.Edge.{Edge}
use Rattle.tw_rows.specs.declared.edge.HeldRow.{HeldRow}
use Rattle.plan_model.specs.Keys.{paired_row}
use Rattle.sweep_laws.specs.Moves.{told_at}
use Rattle.temporal_join.specs.Pairing.{pair_with}
use Rattle.sweep_sides.proofs.Telling.{told_next}
use Rattle.temporal_join.proofs.pairs.Pairing.tell.Goals as goal

pub loop-other-preserved : goal.loop-other-preserved
loop-other-preserved c =
    let p = c.args.self.now in
    let mine = c.args.cells.now in
    let x : HeldRow = record { cells = mine; start = c.args.start } in
    let y = c.other-item.result in
    let f : HeldRow → Edge = λ r. told_at c.args.starts p.at (pair_with p x r) in
    let e : Edge = record { sync = p.at; other = c.other_time.result; cells = c.in_ok-cells.field-0 } in
    let o = c.other_time.ensures in
    let k = c.in_ok-cells.ensures ∙ ap (λ l. cond p.right (paired_row p.right_key.now l mine) (paired_row p.right_key.now mine l)) c.items.ensures in
    let it : e ≡ f y = λ i. record { sync = p.at; other = o i; cells = k i } in
    told_next f c.args.others.now c.loop-other.other-index y e c.args.answer.now.items c.loop-other.answer.items c.push.new.self.items
    c.loop-other-test.true c.other-item.is it c.loop-other.invariant c.in_ok-push.ensures.items
