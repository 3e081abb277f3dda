use Rattle.std.proofs.Common.{refl, subst, sym, ◌∙◌, ap, Err}
use Rattle.std.proofs.lemmas.Result.{err_from_is_err_and}
use Rattle.csv.specs.Records.{AllText}
use Rattle.row_reader.specs.Entry.{record_entry}
use Rattle.row_reader.specs.Interned.{IsReadIn}
use Rattle.row_reader.specs.TextRead.{ReadsText}
use Rattle.row_reader.proofs.TextFields.{record_of-AllText}
use Rattle.row_reader.proofs.Steps.{refused, out_of_memory, no_fault, text_is}
use Rattle.row_reader.proofs.read.read_quoted.Goals as goal

pub returns-then-has_odd_quotes : goal.returns-then-has_odd_quotes
returns-then-has_odd_quotes c =
    let odd = sym c.has_odd_quotes.ensures ∙ c.if-has_odd_quotes.true in
    refused _ _ _ _ _ (text_is c.args.streams.now c.args.text.now c.requires.some c.requires.utf8 c.requires.no_return ∙ rw odd refl)

pub returns-then-has_byte_order_mark : goal.returns-then-has_byte_order_mark
returns-then-has_byte_order_mark c =
    let even = sym c.has_odd_quotes.ensures ∙ c.if-has_odd_quotes.false in
    let marked = sym c.has_byte_order_mark.ensures.value ∙ c.if-has_byte_order_mark.true in
    refused _ _ _ _ _ (text_is c.args.streams.now c.args.text.now c.requires.some c.requires.utf8 c.requires.no_return ∙ rw (even, marked) refl)

pub returns-in_err-record : goal.returns-in_err-record
returns-in_err-record c =
    let text = c.args.text.now in
    let even = sym c.has_odd_quotes.ensures ∙ c.if-has_odd_quotes.false in
    let unmarked = sym c.has_byte_order_mark.ensures.value ∙ c.if-has_byte_order_mark.false in
    let memory = err_from_is_err_and c.from_residual.result c.from_residual.ensures.1 in
    subst (ReadsText c.args.streams.now text c.args.texts.now c.args.texts.now c.args.row.now.items) (sym (memory.1 ∙ ap Err memory.2))
    (out_of_memory _ _ _ _ (no_fault text c.requires.utf8 c.requires.no_return even unmarked))

pub read_entry-requires : goal.read_entry-requires
read_entry-requires c =
    subst AllText (sym c.in_ok-record.ensures) (record_of-AllText c.args.text.now c.requires.some c.requires.no_return c.requires.no_feed c.requires.utf8)

pub returns : goal.returns
returns c =
    let text = c.args.text.now in
    let even = sym c.has_odd_quotes.ensures ∙ c.if-has_odd_quotes.false in
    let unmarked = sym c.has_byte_order_mark.ensures.value ∙ c.if-has_byte_order_mark.false in
    let is = text_is c.args.streams.now text c.requires.some c.requires.utf8 c.requires.no_return ∙ rw (even, unmarked) refl
    ∙ ap (record_entry c.args.streams.now) (sym c.in_ok-record.ensures) in
    record {
      entry = subst (IsReadIn c.args.texts.now c.read_entry.new.texts c.read_entry.new.row.items c.read_entry.result) (sym is) c.read_entry.ensures.entry;
      begins = c.read_entry.ensures.begins;
      memory = λ _. no_fault text c.requires.utf8 c.requires.no_return even unmarked;
    }
