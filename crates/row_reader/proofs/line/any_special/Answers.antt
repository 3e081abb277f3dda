use Rattle.row_reader.proofs.Lines.{simple_from, both_false}
use Rattle.row_reader.proofs.line.any_special.Goals as goal

pub loop-byte-preserved : goal.loop-byte-preserved
loop-byte-preserved c = λ off more.
    let both = both_false c.loop-byte.found c.is_special-found.result off in
    c.loop-byte.invariant both.0 (simple_from c.args.bytes.now c.loop-byte.byte-index c.loop-byte-test.true (c.is_special-found.ensures both.1) more)
