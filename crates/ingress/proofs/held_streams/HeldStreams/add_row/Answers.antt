use Rattle.std.specs.Prelude.{get_or, []}
use Rattle.std.proofs.Common.{refl, ap, arith}
use Rattle.key_nodes.specs.Joins.{with_life}
use Rattle.ingress.specs.OpenKeys.{starts_in}
use Rattle.ingress.specs.Keeping.{more_rows}
use Rattle.ingress.proofs.Fitting.{put_fits, same_fits, edge_fits}
use Rattle.ingress.proofs.Keep.{row_comes, alive_life, unchanged}
use Rattle.ingress.proofs.Ranked.{always}
use Rattle.ingress.proofs.held_streams.HeldStreams.add_row.Goals as goal

pub returns-then-is_before-clause-ok : goal.returns-then-is_before-clause-ok
returns-then-is_before-clause-ok c = λ p made opens given late keeps.
    let less = c.is_before.ensures.test.0 c.if-is_before.true in
    row_comes p c.args.self.now.waiting.items c.put.new.self.waiting.items (starts_in c.args.self.now.opens.starts) (starts_in c.put.new.self.opens.starts)
    made (more_rows c.args.stream (with_life c.args.cells.now c.args.start c.args.end) made) opens opens given keeps c.args.stream c.put.ensures.changed
    c.args.cells.now c.args.start c.args.end (ap (λ r. more_rows c.args.stream r made) (alive_life c.args.cells.now c.args.start c.args.end less)) refl
    (ap (λ o. starts_in o.starts) c.put.ensures.opens) less c.is_before.ensures.within late c.in_ok-put.ensures.ok

pub returns-then-is_before-clause-fit : goal.returns-then-is_before-clause-fit
returns-then-is_before-clause-fit c = λ kinds fit is.
    let less = c.is_before.ensures.test.0 c.if-is_before.true in
    let low = c.is_before.ensures.within in
    let s = c.args.stream in
    put_fits kinds s c.args.self.now.waiting.items c.put.new.self.waiting.items c.put.ensures.changed fit c.put.result _ c.put.ensures.ok c.put.ensures.err
    (edge_fits (get_or kinds s []) c.args.cells.now c.args.start c.args.end (omega (arith, less, low)) low (λ e. omega (arith, e, less)) is)

pub returns-in_err-put-clause-fit : goal.returns-in_err-put-clause-fit
returns-in_err-put-clause-fit c = λ kinds fit is.
    same_fits kinds c.args.stream c.args.self.now.waiting.items c.put.new.self.waiting.items c.put.ensures.changed fit c.in_err-put.ensures.err

pub returns-in_err-put-clause-err : goal.returns-in_err-put-clause-err
returns-in_err-put-clause-err c = always c.from_residual.result _ (unchanged c.args.self.now c.put.new.self c.args.stream c.put.ensures.changed c.in_err-put.ensures.err c.put.ensures.opens)
