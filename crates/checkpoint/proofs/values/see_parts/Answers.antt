use Rattle.checkpoint.specs.Values.{IsPartValue}
use Rattle.checkpoint.proofs.Valued.{all_more, all_of}
use Rattle.checkpoint.proofs.values.see_parts.Goals as goal

pub loop-part-preserved : goal.loop-part-preserved
loop-part-preserved c = all_more IsPartValue c.args.parts.now c.loop-part.part-index c.part-item.result c.loop-part-test.true c.part-item.is c.see_part.ensures c.loop-part.invariant

pub returns : goal.returns
returns c = all_of IsPartValue c.args.parts.now c.loop-part.part-index c.loop-part-test.false c.loop-part.invariant
