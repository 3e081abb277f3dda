use Rattle.std.proofs.Common.{arith}
use Rattle.row_reader.proofs.Units.{zeros_more}
use Rattle.row_reader.proofs.number_text.push_pointed.Goals as goal

pub loop-preserved : goal.loop-preserved
loop-preserved c = record {
  from = omega arith;
  items = zeros_more _ _ _ c.loop.counter _ c.loop.invariant.from c.loop.invariant.items c.in_ok-push.ensures.items;
}
