use Rattle.std.proofs.Common.{◌∙◌}
use Rattle.synopsis.proofs.Lone.{lone_counted}
use Rattle.synopsis.proofs.gathering.lone_moves.Goals as goal

pub returns-then-won-eq1-clause-starts : goal.returns-then-won-eq1-clause-starts
returns-then-won-eq1-clause-starts c = λ r. lone_counted c.args.won.now c.in_ok-cells.cells _ r c.if-won-eq1.true (c.in_ok-cells.ensures.cases ∙ c.index-won-0.is)

pub returns-then-lost-eq1-clause-ends : goal.returns-then-lost-eq1-clause-ends
returns-then-lost-eq1-clause-ends c = λ r. lone_counted c.args.lost.now c.in_ok-cells-2.cells _ r c.if-lost-eq1.true (c.in_ok-cells-2.ensures.cases ∙ c.index-lost-0.is)
