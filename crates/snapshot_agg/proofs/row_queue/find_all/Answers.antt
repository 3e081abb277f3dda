use Rattle.std.specs.Prelude.{◌≡◌, List, refl}
use Rattle.std.proofs.Common.{ap, arith, rules}
use Rattle.tw_rows.specs.Bag.{total}
use Rattle.tw_rows.specs.declared.cells.Datum.{Datum}
use Rattle.snapshot_agg.proofs.Lined.{first_goes}
use Rattle.snapshot_agg.proofs.row_queue.find_all.Goals as goal

pub loop-row-preserved : goal.loop-row-preserved
loop-row-preserved c = λ w.
    let q = c.loop-row.line in
    let x = c.in-Some.row.now in
    let some = c.in-Some.ensures.variant.0 refl in
    let same : c.in_ok-cells.cells ≡ x.cells = search rules in
    let a = c.in_ok-add.ensures.ok w in
    let b : w (record { cells = c.in_ok-cells.cells; start = x.start }) ≡ w x = ap (λ (l : List Datum). w (record { cells = l; start = x.start })) same in
    let g = first_goes w q.items c.pop_front.new.self.items x (let ok = q.ok in omega (arith, some, ok)) c.in-Some.ensures.lookup c.pop_front.ensures.rest in
    let i = c.loop-row.invariant w in
    omega (arith, a, b, g, i)

pub returns-in_err-add-clause-same : goal.returns-in_err-add-clause-same
returns-in_err-add-clause-same c = λ w.
    let a = ap (total w) c.in_err-add.ensures.err in
    let i = c.loop-row.invariant w in
    omega (arith, a, i)
