use Rattle.std.proofs.Common.{◌++◌, ◌∙◌, Ok, sym, ap}
use Rattle.std.proofs.lemmas.Result.{err_from_is_err_and}
use Rattle.wire_lines.specs.Lines.{whole}
use Rattle.tempo_cli.proofs.ReadBack.{goes_on, begins, ended_as, taken_as, line_refused, none_left}
use Rattle.tempo_cli.proofs.reading.read_frozen.Goals as goal

pub lines-init : goal.lines-init
lines-init c = (c.in_ok-reader.ensures.form, c.in_ok-reader.ensures.going, ap (λ x. x ++ whole c.args.bytes.now) (sym c.in_ok-reader.ensures.taken))

pub returns-in_err-frozen-clause-read : goal.returns-in_err-frozen-clause-read
returns-in_err-frozen-clause-read c = let p = err_from_is_err_and c.from_residual-in_err-frozen.result c.from_residual-in_err-frozen.ensures.1 in rw (p.1, p.2) (λ f is e.
    taken_as c.args.form f c.lines.reader c.in-Some.line.now (whole c.lines.rest.now) (whole c.in-Some.more.now) (sym e ∙ c.lines.invariant.2) c.in-Some.ensures.some.0 c.lines.invariant.0 is _ c.in_err-frozen.field-0.0 c.take_line.new.reader c.in_err-frozen.ensures.takes)

pub returns-in-Some-2-clause-read : goal.returns-in-Some-2-clause-read
returns-in-Some-2-clause-read c = λ f is e.
    let h = (rw c.in-Some-2.is at c.in_ok-frozen.ensures.takes) in
    ended_as c.args.form f c.lines.reader c.in-Some.line.now (whole c.lines.rest.now) (whole c.in-Some.more.now) (sym e ∙ c.lines.invariant.2) c.in-Some.ensures.some.0 c.lines.invariant.0 is c.requires c.in-Some-2.frozen h.0 h.1

pub lines-preserved : goal.lines-preserved
lines-preserved c =
    let h = (rw c.in_default-2.is at c.in_ok-frozen.ensures.takes) in (
      h.2 ∙ c.lines.invariant.0,
      c.in_ok-frozen.ensures.going (ap Ok c.in_default-2.is),
      goes_on (whole c.args.bytes.now) c.lines.reader c.in-Some.line.now (whole c.lines.rest.now) (whole c.in-Some.more.now) c.lines.invariant.2 c.in-Some.ensures.some.0 c.take_line.new.reader h.0,
    )

pub returns-clause-read : goal.returns-clause-read
returns-clause-read c = λ f is e. absurd (none_left c.args.form f c.lines.reader (whole c.lines.rest.now) (sym e ∙ c.lines.invariant.2) c.in_default.ensures.none c.lines.invariant.0 is c.goes_on-2.ensures)

pub returns-in_err-frozen-clause-refused : goal.returns-in_err-frozen-clause-refused
returns-in_err-frozen-clause-refused c = let p = err_from_is_err_and c.from_residual-in_err-frozen.result c.from_residual-in_err-frozen.ensures.1 in rw (p.1, p.2)
    (line_refused c.lines.reader _ c.in-Some.line.now c.in_err-frozen.field-0.0 c.take_line.new.reader c.in_err-frozen.ensures.takes)

pub returns-in-Some-2-clause-begins : goal.returns-in-Some-2-clause-begins
returns-in-Some-2-clause-begins c =
    let h = (rw c.in-Some-2.is at c.in_ok-frozen.ensures.takes) in
    begins (whole c.args.bytes.now) c.lines.reader c.in-Some.line.now (whole c.lines.rest.now) (whole c.in-Some.more.now) c.lines.invariant.2 c.in-Some.ensures.some.0 c.args.form c.in-Some-2.frozen c.lines.invariant.0 h.0 h.1
