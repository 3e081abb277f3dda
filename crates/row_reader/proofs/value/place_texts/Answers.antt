use Rattle.std.proofs.Common.{ℕ, ◌+◌, ◌<◌, ◌≡◌, List, length, get_or, sym, ◌∙◌, subst, take, drop, ap, arith}
use Rattle.std.proofs.lemmas.List.{take_more_set, drop-set-lt, length-set, get_or-drop}
use Rattle.tw_rows.specs.Rows.{Row}
use Rattle.tw_rows.specs.Texts.{BeginsWith}
use Rattle.tw_rows.specs.Cells.{with_row}
use Rattle.tw_rows.specs.declared.cells.Datum.{Datum}
use Rattle.tw_rows.proofs.CellReads.{IsTaken, IsTaken-next, BeginsWith-with_row}
use Rattle.row_reader.specs.Fields.{left}
use Rattle.row_reader.specs.Record.{field_of}
use Rattle.row_reader.specs.Drafted.{value_in, row_in, HaveNoText}
use Rattle.row_reader.proofs.TextFields.{text_here, texts_left}
use Rattle.row_reader.proofs.Drafting.{row_in-length, row_in-at, row_taken}
use Rattle.row_reader.proofs.Steps.{drop_again}
use Rattle.row_reader.proofs.value.place_texts.Goals as goal

begins : (new old : List (List ℕ)) (row : Row) (n : ℕ) → new ≡ with_row old (take n row) → BeginsWith new old
begins new old row n h = subst (λ t. BeginsWith t old) (sym h) (BeginsWith-with_row old (take n row))

-- what was read of the field at hand is the value of that number
value_at : (fields at : List (List ℕ)) (old row : List Datum) (n : ℕ) (d : Datum) (f : List ℕ) → n < length old → at ≡ drop n fields → f ≡ field_of at 0 → drop n row ≡ drop n old → d ≡ get_or row n d →
    value_in f d ≡ get_or (row_in fields old) n (value_in f d)
value_at fields at old row n d f low behind here rest is =
    let here_is : n + 0 ≡ n = omega arith in
    let same : d ≡ get_or old n d = is ∙ ap (λ k. get_or row k d) (sym here_is) ∙ sym (get_or-drop n row 0 d) ∙ ap (λ l. get_or l 0 d) rest ∙ get_or-drop n old 0 d ∙ ap (λ k. get_or old k d) here_is in
    ap (λ g. value_in g d) (here ∙ ap (λ l. field_of l 0) behind) ∙ ap (value_in (field_of (drop n fields) 0)) same ∙ row_in-at fields old n d (value_in f d) low

rest_behind : (row old : List Datum) (n : ℕ) → drop n row ≡ drop n old → drop (n + 1) row ≡ drop (n + 1) old
rest_behind row old n e = sym (drop_again n row) ∙ ap (drop 1) e ∙ drop_again n old

none_behind : (old items : List Datum) (n m : ℕ) → items ≡ old → n ≡ m → HaveNoText (drop m items) → HaveNoText (drop n old)
none_behind old items n m same at h = subst HaveNoText (ap (λ l. drop m l) same ∙ ap (λ k. drop k old) (sym at)) h

pub place_value-requires : goal.place_value-requires
place_value-requires c = text_here _ _ c.loop-i.invariant.texts_left c.take_field.ensures.field

pub returns-in_err-row-clause-begins : goal.returns-in_err-row-clause-begins
returns-in_err-row-clause-begins c = begins _ _ _ c.loop-i.i (c.in_err-row.ensures.err ∙ c.loop-i.invariant.taken.table)

pub loop-i-preserved : goal.loop-i-preserved
loop-i-preserved c =
    let before = c.loop-i.invariant in
    let fields = left c.args.fields in
    let old = c.args.row.now.items in
    let row = c.loop-i.row.items in
    let n = c.loop-i.i in
    let d = c.in_ok-row.field-0 in
    let told = c.in_ok-row.ensures in
    let low : n < length old = omega (arith, c.loop-i-test.true, c.texts_end-i-end.ensures.within, ap (λ l. length l) c.as_slice.ensures.value) in
    let here : n < length row = omega (arith, low, before.long) in
    let at = value_at fields (left c.loop-i.fields) old row n c.index.result.now c.take_field.result.now low before.behind c.take_field.ensures.field before.rest c.index.ensures in
    record {
      taken = subst (λ l. IsTaken c.args.texts.now (row_in fields old) (n + 1) c.place_value.new.texts l) (sym (take_more_set row n d here))
          (IsTaken-next c.args.texts.now (row_in fields old) n c.loop-i.texts c.place_value.new.texts (take n row) _ d before.taken (omega (arith, low, row_in-length fields old)) at told.table told.read told.placed);
      rest = drop-set-lt (n + 1) row n d (omega arith) ∙ rest_behind row old n before.rest;
      long = length-set row n d ∙ before.long;
      behind = c.take_field.ensures.left ∙ ap (drop 1) before.behind ∙ drop_again n fields;
      texts_left = texts_left _ _ before.texts_left c.take_field.ensures.left;
    }

pub returns-clause-read : goal.returns-clause-read
returns-clause-read c = (row_taken c.args.texts.now c.loop-i.texts (left c.args.fields) c.args.row.now.items c.loop-i.row.items c.loop-i.i c.loop-i.invariant.taken c.loop-i.invariant.rest (none_behind c.args.row.now.items c.as_slice.result.now _ _ c.as_slice.ensures.value (omega (arith, c.loop-i-test.false, c.loop-i.auto.i-end)) c.texts_end-i-end.ensures.rest)).0

pub returns-clause-placed : goal.returns-clause-placed
returns-clause-placed c = (row_taken c.args.texts.now c.loop-i.texts (left c.args.fields) c.args.row.now.items c.loop-i.row.items c.loop-i.i c.loop-i.invariant.taken c.loop-i.invariant.rest (none_behind c.args.row.now.items c.as_slice.result.now _ _ c.as_slice.ensures.value (omega (arith, c.loop-i-test.false, c.loop-i.auto.i-end)) c.texts_end-i-end.ensures.rest)).1

pub returns-clause-table : goal.returns-clause-table
returns-clause-table c = (row_taken c.args.texts.now c.loop-i.texts (left c.args.fields) c.args.row.now.items c.loop-i.row.items c.loop-i.i c.loop-i.invariant.taken c.loop-i.invariant.rest (none_behind c.args.row.now.items c.as_slice.result.now _ _ c.as_slice.ensures.value (omega (arith, c.loop-i-test.false, c.loop-i.auto.i-end)) c.texts_end-i-end.ensures.rest)).2

pub returns-clause-begins : goal.returns-clause-begins
returns-clause-begins c = begins _ _ _ c.loop-i.i c.loop-i.invariant.taken.table
