use Rattle.std.proofs.Common.{◌≡◌, ◌<◌, ◌≤◌, ◌+◌, Err, ℕ, List, length, drop, get_or, ap, sym, subst, ◌∙◌, arith}
use Rattle.std.specs.Prelude.{option_map}
use Rattle.tw_rows.specs.declared.schema.ColumnDef.{ColumnDef}
use Rattle.row_reader.specs.Fields.{left}
use Rattle.row_reader.specs.Drafted.{value_in}
use Rattle.row_reader.proofs.Drafting.{row_in-none, pushed, left_behind}
use Rattle.row_reader.specs.Values.{value_of}
use Rattle.row_reader.specs.declared.entry.BadLine.{BadLine}
use Rattle.row_reader.proofs.Reading.{AreRead-none, AreRead-next, AreRead-bad, AreRead-end}
use Rattle.row_reader.proofs.Steps.{taken_off, values_short, values_bad, values_read, as_many}
use Rattle.row_reader.proofs.read.read_values.Goals as goal

item_of : (xs columns : List ColumnDef) (n : ℕ) (d : ColumnDef) → xs ≡ columns → d ≡ get_or xs n d → d ≡ get_or columns n d
item_of xs columns n d same h = h ∙ ap (λ l. get_or l n d) same

pub loop-i-init : goal.loop-i-init
loop-i-init c =
    let none = c.clear.ensures.items in
    record {
      read = AreRead-none (left c.args.fields) c.args.schema.now _ (row_in-none (left c.args.fields) _ none);
      behind = ap (λ l. drop (length l) (left c.args.fields)) (sym none);
      many = omega arith;
    }

pub returns-in_default-clause-cause : goal.returns-in_default-clause-cause
returns-in_default-clause-cause c = values_short c.args.schema.now _ (λ e.
    omega (arith, e, c.loop-i.invariant.many, ap (λ l. length l) c.in_default.ensures.none.0, c.loop-i-test.true, ap (λ l. length l) c.items-columns.ensures))

pub returns-in-None-clause-cause : goal.returns-in-None-clause-cause
returns-in-None-clause-cause c =
    let same = c.items-columns.ensures in
    let off = taken_off _ _ _ c.in-Some.ensures.some in
    let bad = AreRead-bad _ _ _ c.loop-i.i c.index-columns-i.result (option_map (value_in c.in-Some.field.now) c.read_value.result) _ c.loop-i.invariant.read (subst (λ l. c.loop-i.i < length l) same c.loop-i-test.true)
    (item_of _ _ _ _ same c.index-columns-i.is) (c.read_value.ensures ∙ ap (value_of c.index-columns-i.result.kind) off.0) (ap (option_map (value_in c.in-Some.field.now)) c.in-None.is) in
    let many = c.loop-i.invariant.many in
    let one = ap (λ l. length l) c.in-Some.ensures.some in
    let all = ap (λ l. length l) same in
    values_bad c.args.schema.now _ _ (c.loop-i.i + 1) _ bad (as_many _ _ _ _ (λ e. omega (arith, e, many, one, all, c.loop-i-test.true)) (λ e. omega (arith, e, many, one, all, c.loop-i-test.true)))
    ∙ ap (λ (b : BadLine). Err b) (sym c.unless_wrong_fields.ensures)

pub loop-i-preserved : goal.loop-i-preserved
loop-i-preserved c =
    let same = c.items-columns.ensures in
    let off = taken_off _ _ _ c.in-Some.ensures.some in record {
      read = AreRead-next _ _ _ _ c.loop-i.i c.index-columns-i.result (value_in c.in-Some.field.now c.in-Some-read_value.datum) (option_map (value_in c.in-Some.field.now) c.read_value.result) _ _ c.loop-i.invariant.read (subst (λ l. c.loop-i.i < length l) same c.loop-i-test.true)
          (item_of _ _ _ _ same c.index-columns-i.is) (c.read_value.ensures ∙ ap (value_of c.index-columns-i.result.kind) off.0) (ap (option_map (value_in c.in-Some.field.now)) c.in-Some-read_value.is)
          (pushed _ _ c.loop-i.row.items _ c.in-Some-read_value.datum _ c.in_ok-push-in-Some-read_value.ensures.items c.loop-i.invariant.behind off.0) off.1;
      behind = left_behind _ _ _ c.loop-i.row.items _ c.in-Some-read_value.datum c.in_ok-push-in-Some-read_value.ensures.items c.loop-i.invariant.behind off.1;
      many = omega (arith, c.loop-i.invariant.many, ap (λ l. length l) c.in-Some.ensures.some);
    }

pub returns-in-Some-next_field-clause-cause : goal.returns-in-Some-next_field-clause-cause
returns-in-Some-next_field-clause-cause c = values_short c.args.schema.now _ (λ e.
    omega (arith, e, c.loop-i.invariant.many, ap (λ l. length l) c.in-Some-next_field.ensures.some, c.loop-i-test.false, ap (λ l. length l) c.items-columns.ensures))

pub returns-in-None-next_field-clause-values : goal.returns-in-None-next_field-clause-values
returns-in-None-next_field-clause-values c =
    let same = c.items-columns.ensures in
    values_read c.args.schema.now _ _ (omega (arith, c.loop-i.invariant.many, ap (λ l. length l) c.in-None-next_field.ensures.none.0, c.loop-i.auto.i-end, c.loop-i-test.false, ap (λ l. length l) same))
    (AreRead-end _ _ _ c.loop-i.i _ c.loop-i.invariant.read (subst (λ l. length l ≤ c.loop-i.i) same c.loop-i-test.false))
