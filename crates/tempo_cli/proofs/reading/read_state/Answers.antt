use Rattle.std.proofs.Common.{◌∷◌}
use Rattle.wire_lines.specs.Lines.{whole}
use Rattle.checkpoint.specs.Text.{checkpoint_lines}
use Rattle.checkpoint.specs.Lines.{output_line}
use Rattle.tempo_cli.proofs.ReadBack.{input_read, output_read, none_read, some_read, state_begins}
use Rattle.tempo_cli.proofs.reading.read_state.Goals as goal

pub returns-in_default-read_input_line-clause-read : goal.returns-in_default-read_input_line-clause-read
returns-in_default-read_input_line-clause-read c = λ places f is low e.
    let i = input_read c.in-Some.first.now (whole c.args.bytes.now) (whole c.in-Some.rest.now) (output_line places.output ∷ checkpoint_lines c.args.form.head f) places.input c.in-Some.ensures.some.0 e low.0 in
    absurd (none_read _ places.input c.in_default-read_input_line.ensures i.0)

pub returns-in_default-read_output_line-clause-read : goal.returns-in_default-read_output_line-clause-read
returns-in_default-read_output_line-clause-read c = λ places f is low e.
    let i = input_read c.in-Some.first.now (whole c.args.bytes.now) (whole c.in-Some.rest.now) (output_line places.output ∷ checkpoint_lines c.args.form.head f) places.input c.in-Some.ensures.some.0 e low.0 in
    let o = output_read c.in-Some-first_line.second.now (whole c.in-Some.rest.now) (whole c.in-Some-first_line.rest.now) (checkpoint_lines c.args.form.head f) places.output c.in-Some-first_line.ensures.some.0 i.1 low.1 in
    absurd (none_read _ places.output c.in_default-read_output_line.ensures o.0)

pub returns-clause-read : goal.returns-clause-read
returns-clause-read c = λ places f is low e.
    let i = input_read c.in-Some.first.now (whole c.args.bytes.now) (whole c.in-Some.rest.now) (output_line places.output ∷ checkpoint_lines c.args.form.head f) places.input c.in-Some.ensures.some.0 e low.0 in
    let o = output_read c.in-Some-first_line.second.now (whole c.in-Some.rest.now) (whole c.in-Some-first_line.rest.now) (checkpoint_lines c.args.form.head f) places.output c.in-Some-first_line.ensures.some.0 i.1 low.1 in
    (c.in_ok-frozen.ensures.read f is o.1, some_read _ _ places.input c.in-Some-read_input_line.ensures i.0, some_read _ _ places.output c.in-Some-read_output_line.ensures o.0)

pub returns-clause-begins : goal.returns-clause-begins
returns-clause-begins c =
    state_begins c.args.form _ c.in-Some.first.now c.in-Some-first_line.second.now (whole c.args.bytes.now) (whole c.in-Some.rest.now) (whole c.in-Some-first_line.rest.now)
    c.in-Some.ensures.some.0 c.in-Some-first_line.ensures.some.0 c.in-Some-read_input_line.ensures c.in-Some-read_output_line.ensures c.in_ok-frozen.ensures.begins
