use Rattle.std.proofs.Common.{ap, arith}
use Rattle.tw_rows.specs.Bag.{total}
use Rattle.edge_history.specs.Order.{failing, is_below}
use Rattle.sweep_sides.proofs.taking.popped.Goals as goal

pub returns-clause-parts : goal.returns-clause-parts
returns-clause-parts c = λ w.
    let a = c.in_ok-pop_before.ensures.parts w in
    let b = ap (λ l. total w l) c.new-due.ensures.items in
    let v = ap (λ l. total w l) c.from_vec.ensures.items in
    omega (arith, a, b, v)

pub returns-clause-early : goal.returns-clause-early
returns-clause-early c = λ t.
    let b = ap (failing (is_below c.args.to)) c.new-due.ensures.items in
    let a = c.in_ok-pop_before.ensures.early c.args.to (omega arith) t b in
    let v = ap (failing (is_below c.args.to)) c.from_vec.ensures.items in
    omega (arith, a, v)
