use Rattle.std.proofs.Common.{◌≡◌, true, Some, length, drop, refl, ap, subst, sym, ◌∙◌, arith}
use Rattle.csv.specs.Records.{AllText}
use Rattle.tw_rows.specs.declared.schema.ColumnDef.{ColumnDef}
use Rattle.row_reader.specs.Fields.{left}
use Rattle.row_reader.specs.declared.fields.Fields.TheVariants.{Plain}
use Rattle.row_reader.specs.Drafted.{value_in}
use Rattle.row_reader.specs.Values.{value_of}
use Rattle.row_reader.proofs.Drafting.{row_in-none, pushed, left_behind}
use Rattle.row_reader.proofs.OnePass.{known_none, known_more, both_true}
use Rattle.row_reader.proofs.Reading.{AreRead-none, AreRead-next, AreRead-end}
use Rattle.row_reader.proofs.Steps.{taken_off, values_read}
use Rattle.row_reader.proofs.TextFields.{texts_behind}
use Rattle.row_reader.proofs.intervals.read_short_values.Goals as goal

pub loop-i-init : goal.loop-i-init
loop-i-init c =
    let fields = left (Plain c.args.values) in
    let none = c.clear.ensures.items in
    record {
      read = AreRead-none fields c.args.columns.now _ (row_in-none fields _ none);
      behind = ap (λ l. drop (length l) fields) (sym none);
      many = omega arith;
      are_known = λ _. known_none _ fields _ none;
      all_text = c.requires;
    }

pub split_value-requires : goal.split_value-requires
split_value-requires c = subst AllText (ap (λ r. left (Plain r)) c.in-Some.is) c.loop-i.invariant.all_text

pub loop-i-preserved : goal.loop-i-preserved
loop-i-preserved c =
    let first = c.in-Some-split_value.ensures in
    let datum = c.in-Some-split_value.first.datum in
    let here = ap (λ r. left (Plain r)) c.in-Some.is ∙ first.first in
    let off = taken_off _ _ _ here in
    let more = c.in-Ok.ensures.items in
    record {
      read = AreRead-next _ _ _ _ c.loop-i.i c.index-columns-i.result (value_in first.field datum) (Some (value_in first.field datum)) _ _ c.loop-i.invariant.read c.loop-i-test.true
          c.index-columns-i.is (sym first.spells ∙ ap (λ (k : ColumnDef). value_of k.kind first.field) (sym c.index-columns-i.is) ∙ ap (value_of c.index-columns-i.result.kind) off.0) refl (pushed _ _ c.loop-i.row.items _ datum _ more c.loop-i.invariant.behind off.0) off.1;
      behind = left_behind _ _ _ c.loop-i.row.items _ datum more c.loop-i.invariant.behind off.1;
      many = omega (arith, c.loop-i.invariant.many, ap (λ l. length l) here);
      are_known = λ known.
          let both = both_true _ _ known in
          known_more _ _ _ c.loop-i.row.items _ datum _ more c.loop-i.invariant.behind off.0 (c.loop-i.invariant.are_known both.0) (first.is_known both.1);
      all_text = texts_behind _ _ _ c.loop-i.invariant.all_text here;
    }

pub returns-in-None-clause-read : goal.returns-in-None-clause-read
returns-in-None-clause-read c =
    let none = ap (λ r. left (Plain r)) c.in-None.is in
    values_read c.args.columns.now _ _ (omega (arith, c.loop-i.invariant.many, ap (λ l. length l) none, c.loop-i.auto.i-end, c.loop-i-test.false)) (AreRead-end _ _ _ c.loop-i.i _ c.loop-i.invariant.read c.loop-i-test.false)

pub returns-in-None-clause-known : goal.returns-in-None-clause-known
returns-in-None-clause-known c = λ e. let known : c.loop-i.known ≡ true = cc in c.loop-i.invariant.are_known known
