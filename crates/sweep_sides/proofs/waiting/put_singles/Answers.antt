use Rattle.std.proofs.Common.{◌∙◌, sym, ap, arith}
use Rattle.tw_rows.specs.Bag.{total}
use Rattle.tw_rows.specs.declared.edge.Edge.{Edge}
use Rattle.sweep_laws.proofs.Stored.{one_single, two_singles}
use Rattle.sweep_sides.proofs.waiting.put_singles.Goals as goal

pub returns-then-is_single-clause-put : goal.returns-then-is_single-clause-put
returns-then-is_single-clause-put c = λ w.
    let a = c.in_ok-put_edge.ensures.put w in
    let b = ap (total w) (one_single c.args.edge (sym c.is_single.ensures ∙ c.if-is_single.true)) in
    omega (arith, a, b)

pub returns-clause-put : goal.returns-clause-put
returns-clause-put c = λ w.
    let e = c.args.edge in
    let x : Edge = record { sync = e.sync; other = c.bounds.result.1; cells = e.cells } in
    let y : Edge = record { sync = e.other; other = e.sync; cells = c.in_ok-clone.field-0 } in
    let a = c.in_ok-put_edge-2.ensures.put w in
    let b = c.in_ok-put_edge-3.ensures.put w in
    let begins = ap (λ n. record e { sync = e.sync; other = n; cells = e.cells }) c.bounds.ensures.infinity in
    let ends = ap (λ l. record e { sync = e.other; other = e.sync; cells = l }) c.in_ok-clone.ensures.cases in
    let s = two_singles e x y (sym c.is_single.ensures ∙ c.if-is_single.false) begins ends w in
    omega (arith, a, b, s)
