use Rattle.std.proofs.Common.{get_or, sym, ap, ◌∙◌, arith}
use Rattle.synopsis.specs.Held.{cell_or_zero}
use Rattle.synopsis.proofs.Together.{lengths_differ, columns_differ, column_more, all_columns}
use Rattle.synopsis.proofs.few.has_key.Goals as goal

pub returns-then-columns-key : goal.returns-then-columns-key
returns-then-columns-key c = sym (lengths_differ c.args.columns.now c.args.key.now c.args.row.now c.if-columns-key.true)

pub returns-then-not-same_datum : goal.returns-then-not-same_datum
returns-then-not-same_datum c =
    let i = c.loop-i.i in
    let columns = c.args.columns.now in
    let cell = c.cell_at.ensures ∙ ap (λ l. cell_or_zero l (get_or columns i 0)) c.items.ensures in
    sym (columns_differ columns c.args.key.now c.args.row.now i 0 _ c.loop-i-test.true (λ e. let t = c.same_datum.ensures.1 (cell ∙ e) in absurd (cc)))

pub loop-i-preserved : goal.loop-i-preserved
loop-i-preserved c =
    let i = c.loop-i.i in
    let columns = c.args.columns.now in
    let cell = c.cell_at.ensures ∙ ap (λ l. cell_or_zero l (get_or columns i 0)) c.items.ensures in
    column_more columns c.args.key.now c.args.row.now.cells i 0 _ c.loop-i-test.true (omega (arith, c.if-columns-key.false, c.loop-i-test.true)) c.loop-i.invariant
    (sym cell ∙ c.same_datum.ensures.0 c.if-not-same_datum.false)

pub returns : goal.returns
returns c = sym (all_columns c.args.columns.now c.args.key.now c.args.row.now c.loop-i.i c.if-columns-key.false (omega (arith, c.loop-i-test.false, c.loop-i.auto.i-end)) c.loop-i.invariant)
