use Rattle.std.specs.Prelude.{get_or, map, []}
use Rattle.std.proofs.Common.{◌∙◌, ap, arith}
use Rattle.tw_rows.specs.Cells.{datum_kind}
use Rattle.ingress.proofs.Fitting.{put_fits, out_fits, same_fits, edge_fits}
use Rattle.ingress.proofs.held_streams.HeldStreams.end_row.Goals as goal

pub returns-then-is_before-clause-fit : goal.returns-then-is_before-clause-fit
returns-then-is_before-clause-fit c = λ kinds fit is.
    let less = c.is_before.ensures.test.0 c.if-is_before.true in
    let late = c.is_before-then-is_before.ensures.test.0 c.if-not-is_before.false in
    let h = c.infinity.ensures in
    let s = c.args.key.now.stream in
    put_fits kinds s c.args.self.now.waiting.items c.put.new.self.waiting.items c.put.ensures.changed fit c.put.result _ c.put.ensures.ok c.put.ensures.err
    (edge_fits (get_or kinds s []) c.items.result.now c.args.at c.args.state.now.start (omega (arith, late, h)) (omega (arith, less, late, h)) (λ e. omega (arith, e, less))
    (ap (map datum_kind) c.items.ensures ∙ is))

pub returns-then-is_before-2-clause-fit : goal.returns-then-is_before-2-clause-fit
returns-then-is_before-2-clause-fit c = λ kinds fit is.
    out_fits kinds c.args.key.now.stream c.args.self.now.waiting.items c.take_out.new.self.waiting.items c.take_out.ensures.changed fit c.take_out.result _ c.take_out.ensures.taken c.take_out.ensures.kept

pub returns-in_err-put-clause-fit : goal.returns-in_err-put-clause-fit
returns-in_err-put-clause-fit c = λ kinds fit is.
    same_fits kinds c.args.key.now.stream c.args.self.now.waiting.items c.put.new.self.waiting.items c.put.ensures.changed fit c.in_err-put.ensures.err
