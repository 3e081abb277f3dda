use Rattle.std.proofs.Common.{sym, ◌∙◌}
use Rattle.synopsis.proofs.MarkedRows.{other_word, words_apart}
use Rattle.synopsis.proofs.few_rows.is_row.Goals as goal

pub returns-else-row-word : goal.returns-else-row-word
returns-else-row-word c = λ marked is.
    words_apart c.args.row.now.word c.args.word c.if-row-word.false ∙ sym (other_word c.args.row.now c.args.cells.now c.args.word marked is c.if-row-word.false)
