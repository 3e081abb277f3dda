use Rattle.std.proofs.Common.{◌∙◌, arith}
use Rattle.checkpoint.proofs.Left.{entry_fed, past_all}
use Rattle.checkpoint.proofs.writing.write_entries.Goals as goal

pub rest-preserved : goal.rest-preserved
rest-preserved c =
    let p = c.in-Some.of.now in
    let step = entry_fed c.args.frozen.now _ _ c.in-Entries.part c.rest.at p c.index-entries-at.result _ _ _ c.parts.ensures c.entries-entries.ensures
    c.in-Some.ensures.lookup.3.0 c.in-Some.ensures.lookup.1 c.rest-test.true c.index-entries-at.is c.in_ok-push_entry_line.ensures.ok c.in_ok-push.ensures.items in
    (step.0 ∙ c.rest.invariant.0, omega (arith, step.1, c.rest.invariant.1))

pub returns : goal.returns
returns c = rw c.in-Entries.is (record {
  bytes = λ form. c.rest.invariant.0;
  fewer = λ form. c.rest.invariant.1;
  past = past_all c.args.frozen.now _ _ c.in-Entries.part c.in-Entries.entry c.rest.at c.in-Some.of.now c.parts.ensures c.entries-entries.ensures c.in-Some.ensures.lookup.3.0 c.in-Some.ensures.lookup.1 c.rest-test.false;
})
