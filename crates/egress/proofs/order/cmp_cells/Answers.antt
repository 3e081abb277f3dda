use Rattle.std.specs.Ordering.{ordering_then}
use Rattle.std.proofs.Common.{◌+◌, sym, ◌∙◌, ap, arith}
use Rattle.tw_rows.specs.Rows.{row_cmp}
use Rattle.egress.proofs.Ordered.{left, cmp_at, cmp_last}
use Rattle.egress.proofs.order.cmp_cells.Goals as goal

pub loop-i-preserved : goal.loop-i-preserved
loop-i-preserved c =
    cmp_at c.args.texts.now c.args.a.now c.args.b.now c.loop-i.i _ _ c.cmp_data.result _ (omega arith) (omega arith) c.cmp_data.ensures c.loop-i.invariant
    ∙ ap (λ o. ordering_then o (row_cmp (left c.args.texts.now c.args.a.now (c.loop-i.i + 1)) (left c.args.texts.now c.args.b.now (c.loop-i.i + 1)))) c.in-Equal.is

pub returns-in-Less : goal.returns-in-Less
returns-in-Less c =
    sym (cmp_at c.args.texts.now c.args.a.now c.args.b.now c.loop-i.i _ _ c.cmp_data.result _ (omega arith) (omega arith) c.cmp_data.ensures c.loop-i.invariant
    ∙ ap (λ o. ordering_then o (row_cmp (left c.args.texts.now c.args.a.now (c.loop-i.i + 1)) (left c.args.texts.now c.args.b.now (c.loop-i.i + 1)))) c.in-Less.is)

pub returns-in-Greater : goal.returns-in-Greater
returns-in-Greater c =
    sym (cmp_at c.args.texts.now c.args.a.now c.args.b.now c.loop-i.i _ _ c.cmp_data.result _ (omega arith) (omega arith) c.cmp_data.ensures c.loop-i.invariant
    ∙ ap (λ o. ordering_then o (row_cmp (left c.args.texts.now c.args.a.now (c.loop-i.i + 1)) (left c.args.texts.now c.args.b.now (c.loop-i.i + 1)))) c.in-Greater.is)

pub returns : goal.returns
returns c = c.cmp.ensures ∙ sym (c.loop-i.invariant ∙ cmp_last c.args.texts.now c.args.a.now c.args.b.now c.loop-i.i (omega arith))
