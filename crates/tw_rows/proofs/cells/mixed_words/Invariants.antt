-- The words of the cells before this one are mixed.
use Rattle.std.proofs.Common.{◌≡◌, take}
use Rattle.tw_rows.specs.Words.{word_of_cells}
use Rattle.tw_rows.proofs.cells.mixed_words.Given as goal

abbrev pub invariant-loop-datum : goal.invariant-loop-datum
invariant-loop-datum l = l.words ≡ word_of_cells (take l.datum-index l.cells)
