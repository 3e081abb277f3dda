-- the columns so far, and those by the rest of the number, are the choice; each width that is left is at least 1
use Rattle.std.proofs.Common.{◌≡◌, ◌<◌, ◌++◌, drop}
use Rattle.query_plan.specs.Choices.{choice_count, choice}
use Rattle.query_plan.proofs.choosing.choice.Given as goal

abbrev pub invariant-loop-width : goal.invariant-loop-width
invariant-loop-width l = record {
  some : 0 < choice_count (drop l.width-index l.widths);
  chosen : l.columns.items ++ choice (drop l.width-index l.widths) l.rest ≡ choice l.widths l.number;
}
