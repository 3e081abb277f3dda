use Rattle.std.proofs.Common.{arith, sym}
use Rattle.query_text.proofs.GrammarSteps.{stops_here, goes_on, ends_well, ends_early}
use Rattle.query_text.proofs.fault.stop.Goals as goal

pub returns-then-not-can_come : goal.returns-then-not-can_come
returns-then-not-can_come c = stops_here c.words.stack _ c.of.result c.args.words.now c.words.at _ _ c.in_ok-can_come.can_come c.words-test.true c.of.ensures c.if-not-can_come.true c.in_ok-can_come.ensures c.words.invariant.whole

pub words-preserved : goal.words-preserved
words-preserved c = record { within = omega arith; whole = goes_on c.words.stack _ c.of.result c.args.words.now c.words.at _ _ c.in_ok-can_come.can_come c.words-test.true c.of.ensures c.if-not-can_come.false c.in_ok-can_come.ensures c.words.invariant.whole }

pub returns-then-ends : goal.returns-then-ends
returns-then-ends c = ends_well c.words.stack c.args.words.now c.words.at _ (omega arith) (sym c.if-ends.ensures) c.words.invariant.whole

pub returns : goal.returns
returns c = ends_early c.words.stack c.args.words.now c.words.at _ (omega arith) (sym c.if-ends.ensures) c.words.invariant.whole
