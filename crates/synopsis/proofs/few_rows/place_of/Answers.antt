use Rattle.std.proofs.Common.{sym, ◌∙◌, ap, arith}
use Rattle.std.proofs.lemmas.List.{take_all}
use Rattle.tw_rows.specs.Words.{word_of_cells}
use Rattle.synopsis.specs.Marked.{HasNone}
use Rattle.synopsis.proofs.MarkedRows.{marked_at, none_more, is_first}
use Rattle.std.proofs.Common.{subst}
use Rattle.synopsis.proofs.few_rows.place_of.Goals as goal

pub loop-i-preserved : goal.loop-i-preserved
loop-i-preserved c = λ marked.
    let x = c.index-rows-i.result in
    let m = marked_at c.args.rows.now c.loop-i.i x _ marked c.loop-i-test.true c.index-rows-i.is in
    none_more c.args.cells.now c.args.rows.now c.loop-i.i x _ c.loop-i-test.true c.index-rows-i.is (sym (c.is_row.ensures m (c.mixed_words-word.ensures ∙ ap word_of_cells c.items.ensures)) ∙ c.if-is_row.false) (c.loop-i.invariant marked)

pub returns-then-is_row-clause-first : goal.returns-then-is_row-clause-first
returns-then-is_row-clause-first c = λ marked.
    let x = c.index-rows-i.result in
    let m = marked_at c.args.rows.now c.loop-i.i x _ marked c.loop-i-test.true c.index-rows-i.is in
    is_first c.args.cells.now c.args.rows.now c.loop-i.i x _ c.loop-i-test.true c.index-rows-i.is (c.loop-i.invariant marked) (sym (c.is_row.ensures m (c.mixed_words-word.ensures ∙ ap word_of_cells c.items.ensures)) ∙ c.if-is_row.true)

pub returns-clause-none : goal.returns-clause-none
returns-clause-none c = λ marked.
    subst (HasNone c.args.cells.now) (take_all c.loop-i.i c.args.rows.now (let f = c.loop-i-test.false in omega (arith, f))) (c.loop-i.invariant marked)
