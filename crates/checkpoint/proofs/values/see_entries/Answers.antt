use Rattle.checkpoint.specs.Values.{IsEntryValue}
use Rattle.checkpoint.proofs.Valued.{all_more, all_of}
use Rattle.checkpoint.proofs.values.see_entries.Goals as goal

pub loop-entry-preserved : goal.loop-entry-preserved
loop-entry-preserved c = all_more IsEntryValue c.args.entries.now c.loop-entry.entry-index c.entry-item.result c.loop-entry-test.true c.entry-item.is c.see_entry.ensures c.loop-entry.invariant

pub returns : goal.returns
returns c = all_of IsEntryValue c.args.entries.now c.loop-entry.entry-index c.loop-entry-test.false c.loop-entry.invariant
