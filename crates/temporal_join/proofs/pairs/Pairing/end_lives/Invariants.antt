use Rattle.std.proofs.Common.{◌≡◌, length}
use Rattle.temporal_join.specs.Pairing.{EndsTold}
use Rattle.temporal_join.proofs.pairs.Pairing.end_lives.Given as goal

abbrev pub invariant-loop-life : goal.invariant-loop-life
invariant-loop-life l = record {
  told : EndsTold l.self l.fn.own l.own l.others l.fn.answer.items l.answer.items;
  columns : l.own.columns ≡ l.fn.own.columns;
}

abbrev pub decreases-loop-life : goal.decreases-loop-life
decreases-loop-life l = length l.own.lives
