use Rattle.std.proofs.Common.{ap, sym, ◌∙◌}
use Rattle.row_reader.specs.Number.{same_text}
use Rattle.row_reader.proofs.Reading.{named-past, named-here, named-end}
use Rattle.row_reader.proofs.read.find_stream.Goals as goal

pub returns-then-eq : goal.returns-then-eq
returns-then-eq c = c.loop-i.invariant ∙ named-here _ c.loop-i.i c.loop-i.i _ c.index-streams-i.result c.loop-i-test.true c.index-streams-i.is
    (ap (λ n. same_text n c.args.name.now) (sym (c.as_bytes.ensures.value ∙ c.as_str.ensures)) ∙ sym c.if-eq.ensures)

pub loop-i-preserved : goal.loop-i-preserved
loop-i-preserved c = c.loop-i.invariant ∙ named-past _ c.loop-i.i c.loop-i.i _ c.index-streams-i.result c.loop-i-test.true c.index-streams-i.is
    (ap (λ n. same_text n c.args.name.now) (sym (c.as_bytes.ensures.value ∙ c.as_str.ensures)) ∙ sym c.if-eq.ensures)

pub returns : goal.returns
returns c = c.loop-i.invariant ∙ named-end _ c.loop-i.i c.loop-i.i _ c.loop-i-test.false
