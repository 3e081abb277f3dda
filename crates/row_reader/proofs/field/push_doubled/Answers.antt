use Rattle.row_reader.proofs.Begin.{Begins-trans, Begins-more}
use Rattle.row_reader.proofs.Quoted.{doubled_more, doubled_all}
use Rattle.row_reader.proofs.field.push_doubled.Goals as goal

pub loop-byte-preserved : goal.loop-byte-preserved
loop-byte-preserved c = record {
  items = doubled_more _ _ _ _ c.loop-byte.byte-index c.loop-byte-test.true c.loop-byte.invariant.items c.in_ok-push_doubled_byte.ensures.ok;
  begins = Begins-trans _ _ _ c.loop-byte.invariant.begins (Begins-more _ _ _ c.in_ok-push_doubled_byte.ensures.ok);
}

pub returns-clause-ok : goal.returns-clause-ok
returns-clause-ok c = doubled_all _ _ _ c.loop-byte.byte-index c.loop-byte-test.false c.loop-byte.invariant.items
