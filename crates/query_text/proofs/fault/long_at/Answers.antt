use Rattle.std.proofs.Common.{arith, ap, ◌∙◌}
use Rattle.query_text.specs.Parsing.{run_after}
use Rattle.query_text.proofs.GrammarSteps.{long_here, long_on, long_end}
use Rattle.query_text.proofs.fault.long_at.Goals as goal

pub returns-then-run-gt-LONGEST : goal.returns-then-run-gt-LONGEST
returns-then-run-gt-LONGEST c = long_here c.words.run c.run_after-run.result c.args.words.now c.words.at _ _ c.words-test.true (c.run_after-run.ensures ∙ ap (run_after c.words.run) c.of.ensures) c.if-run-gt-LONGEST.true c.words.invariant.whole

pub words-preserved : goal.words-preserved
words-preserved c = record {
  within = omega arith;
  short = omega arith;
  whole = long_on c.words.run c.run_after-run.result c.args.words.now c.words.at _ _ c.words-test.true (c.run_after-run.ensures ∙ ap (run_after c.words.run) c.of.ensures) (omega arith) c.words.invariant.whole;
}

pub returns : goal.returns
returns c = long_end c.words.run c.args.words.now c.words.at _ (omega arith) c.words.invariant.whole
