use Rattle.std.specs.Prelude.{refl}
use Rattle.std.proofs.Common.{sym, ◌∙◌, arith}
use Rattle.snapshot_agg.proofs.Lined.{first_is}
use Rattle.snapshot_agg.proofs.row_queue.is_first.Goals as goal

pub returns-in-Some : goal.returns-in-Some
returns-in-Some c = λ h.
    let q = c.args.line.now in
    let some = c.in-Some.ensures.variant.0 refl in
    first_is q.items c.in-Some.row.now c.args.cells.now c.args.start (let ok = q.ok in omega (arith, some, ok)) c.in-Some.ensures.lookup (sym c.is_row.ensures ∙ h)
