use Rattle.std.proofs.Common.{Err, sym, ◌∙◌, ap, length, arith}
use Rattle.row_reader.specs.declared.entry.BadLine.{BadLine}
use Rattle.row_reader.proofs.Steps.{bad_read, heads, wanted_is, event_no_form, event_odd, event_bad_time, event_bad_life, event_ok, event_memory, event_err}
use Rattle.row_reader.proofs.TextFields.{texts_behind}
use Rattle.row_reader.proofs.read.read_event.Goals as goal

pub returns-in_default-clause-entry : goal.returns-in_default-clause-entry
returns-in_default-clause-entry c = λ all w l. bad_read _ _ _ _ (event_no_form c.args.stream c.args.schema.now all _ w (sym c.read_form.ensures ∙ c.in_default.is))

pub returns-in_default-next_field-clause-entry : goal.returns-in_default-next_field-clause-entry
returns-in_default-next_field-clause-entry c = λ all w l.
    bad_read _ _ _ _ (event_odd c.args.stream c.args.schema.now all _ _ c.in-Some.form w l (sym c.read_form.ensures ∙ c.in-Some.is) (omega (arith, ap (λ l. length l) c.in_default-next_field.ensures.none.0)))

pub returns-in_default-next_field-2-clause-entry : goal.returns-in_default-next_field-2-clause-entry
returns-in_default-next_field-2-clause-entry c = λ all w l.
    bad_read _ _ _ _ (event_odd c.args.stream c.args.schema.now all _ _ c.in-Some.form w l (sym c.read_form.ensures ∙ c.in-Some.is)
    (omega (arith, ap (λ l. length l) c.in-Some-next_field.ensures.some, ap (λ l. length l) c.in_default-next_field-2.ensures.none.0)))

pub returns-in_default-read_times-clause-entry : goal.returns-in_default-read_times-clause-entry
returns-in_default-read_times-clause-entry c = λ all w l.
    let h = heads all _ _ _ _ _ _ c.in-Some.form w l (sym c.read_form.ensures ∙ c.in-Some.is) c.in-Some-next_field.ensures.some c.in-Some-next_field-2.ensures.some in
    bad_read _ _ _ _ (event_bad_time c.args.stream c.args.schema.now all _ c.in-Some.form _ _ h (sym c.read_times.ensures ∙ c.in_default-read_times.is)
    ∙ ap (λ (b : BadLine). Err b) (wanted_is _ _ _ _ _ c.items-columns.ensures c.unless_wrong_fields-cause.ensures))

pub returns-then-not-has_life-clause-entry : goal.returns-then-not-has_life-clause-entry
returns-then-not-has_life-clause-entry c = λ all w l.
    let h = heads all _ _ _ _ _ _ c.in-Some.form w l (sym c.read_form.ensures ∙ c.in-Some.is) c.in-Some-next_field.ensures.some c.in-Some-next_field-2.ensures.some in
    bad_read _ _ _ _ (event_bad_life c.args.stream c.args.schema.now all _ c.in-Some.form _ _ _ _ h (sym c.read_times.ensures ∙ c.in-Some-read_times.is) (sym c.has_life.ensures ∙ c.if-not-has_life.true)
    ∙ ap (λ (b : BadLine). Err b) (wanted_is _ _ _ _ _ c.items-columns.ensures c.unless_wrong_fields-cause-then-not-has_life.ensures))

pub place_texts-requires : goal.place_texts-requires
place_texts-requires c = texts_behind _ _ _ (texts_behind _ _ _ c.requires c.in-Some-next_field.ensures.some) c.in-Some-next_field-2.ensures.some

pub returns-in-Err-clause-entry : goal.returns-in-Err-clause-entry
returns-in-Err-clause-entry c = λ all w l.
    let h = heads all _ _ _ _ _ _ c.in-Some.form w l (sym c.read_form.ensures ∙ c.in-Some.is) c.in-Some-next_field.ensures.some c.in-Some-next_field-2.ensures.some in
    event_err c.args.texts.now c.read_values.new.row.items c.args.stream c.args.schema.now all _ c.in-Some.form _ _ _ _ c.in-Err.fault h (sym c.read_times.ensures ∙ c.in-Some-read_times.is) (sym c.has_life.ensures ∙ c.if-not-has_life.false) c.in-Err.ensures.cause

pub returns-in-Ok-place_texts-clause-entry : goal.returns-in-Ok-place_texts-clause-entry
returns-in-Ok-place_texts-clause-entry c = λ all w l.
    let h = heads all _ _ _ _ _ _ c.in-Some.form w l (sym c.read_form.ensures ∙ c.in-Some.is) c.in-Some-next_field.ensures.some c.in-Some-next_field-2.ensures.some in
    event_ok c.args.texts.now c.place_texts.new.texts c.args.stream c.args.schema.now all _ c.in-Some.form _ _ _ _ _ c.place_texts.new.row.items h (sym c.read_times.ensures ∙ c.in-Some-read_times.is) (sym c.has_life.ensures ∙ c.if-not-has_life.false)
    c.in-Ok.ensures.values c.in-Ok-place_texts.ensures.read c.in-Ok-place_texts.ensures.placed c.in-Ok-place_texts.ensures.table

pub returns-in-Err-place_texts-clause-entry : goal.returns-in-Err-place_texts-clause-entry
returns-in-Err-place_texts-clause-entry c = λ all w l.
    let h = heads all _ _ _ _ _ _ c.in-Some.form w l (sym c.read_form.ensures ∙ c.in-Some.is) c.in-Some-next_field.ensures.some c.in-Some-next_field-2.ensures.some in
    event_memory c.args.texts.now c.place_texts.new.texts c.place_texts.new.row.items c.args.stream c.args.schema.now all _ c.in-Some.form _ _ _ _ _ h (sym c.read_times.ensures ∙ c.in-Some-read_times.is) (sym c.has_life.ensures ∙ c.if-not-has_life.false)
    c.in-Ok.ensures.values c.in-Err-place_texts.ensures.err
