use Rattle.std.proofs.Common.{subst}
use Rattle.std.specs.Str.{IsUtf8}
use Rattle.checkpoint.proofs.Valued.{all_more, all_of}
use Rattle.checkpoint.proofs.values.see_texts.Goals as goal

pub loop-text-preserved : goal.loop-text-preserved
loop-text-preserved c = all_more IsUtf8 c.args.texts.now c.loop-text.text-index c.text-item.result c.loop-text-test.true c.text-item.is (subst IsUtf8 c.as_str.ensures c.see_text.ensures) c.loop-text.invariant

pub returns : goal.returns
returns c = all_of IsUtf8 c.args.texts.now c.loop-text.text-index c.loop-text-test.false c.loop-text.invariant
