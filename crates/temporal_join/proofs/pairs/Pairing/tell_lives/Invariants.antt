use Rattle.std.proofs.Common.{◌≡◌, ◌++◌, take, map, filter}
use Rattle.tw_rows.specs.Words.{word_of_cells}
use Rattle.synopsis.specs.Held.{key_of, is_of_key}
use Rattle.sweep_laws.specs.Moves.{told_at}
use Rattle.temporal_join.specs.Lives.{life_rows}
use Rattle.temporal_join.specs.Pairing.{own_key, pair_with}
use Rattle.temporal_join.proofs.pairs.Pairing.tell_lives.Given as goal

abbrev pub invariant-loop-other : goal.invariant-loop-other
invariant-loop-other l =
    l.word ≡ word_of_cells (key_of (own_key l.self) l.cells) →
    l.answer.items ≡ l.fn.answer.items ++ map (λ y. told_at l.starts l.self.at (pair_with l.self (record { cells = l.cells; start = l.start }) y))
    (filter (is_of_key l.others.columns (key_of (own_key l.self) l.cells)) (life_rows (take l.other-index l.lives)))
