use Rattle.std.proofs.Common.{sym, ◌∙◌, ap}
use Rattle.tw_rows.specs.Words.{word_of_cells}
use Rattle.synopsis.proofs.MarkedRows.{marked_more}
use Rattle.synopsis.proofs.few_rows.FewRows.push.Goals as goal

pub invariant_of-self-2 : goal.invariant_of-self-2
invariant_of-self-2 c = marked_more c.self.inside.rows.items _ _ c.in_ok-push.ensures.items c.self.invariant (c.mixed_words-word.ensures ∙ ap word_of_cells c.items.ensures ∙ ap word_of_cells (sym c.in_ok-kept.ensures.cases))
