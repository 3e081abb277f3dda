use Rattle.std.proofs.Common.{refl, subst, sym, ◌∙◌, ap}
use Rattle.csv.specs.Records.{AllText}
use Rattle.row_reader.specs.Entry.{record_entry}
use Rattle.row_reader.specs.Interned.{IsReadIn}
use Rattle.row_reader.proofs.Commas.{even_without, record_of_commas}
use Rattle.row_reader.proofs.TextFields.{record_of-AllText}
use Rattle.row_reader.proofs.Steps.{refused, no_fault, text_is}
use Rattle.row_reader.proofs.read.read_plain.Goals as goal

pub returns-then-has_byte_order_mark : goal.returns-then-has_byte_order_mark
returns-then-has_byte_order_mark c =
    let text = c.args.text.now in
    let marked = sym c.has_byte_order_mark.ensures.value ∙ c.if-has_byte_order_mark.true in
    refused _ _ _ _ _ (text_is c.args.streams.now text c.requires.some c.requires.utf8 c.requires.no_return ∙ rw (even_without text c.requires.no_quote, marked) refl)

pub read_entry-requires : goal.read_entry-requires
read_entry-requires c =
    let text = c.args.text.now in
    subst AllText (record_of_commas text c.requires.some c.requires.no_quote c.requires.no_return c.requires.no_feed) (record_of-AllText text c.requires.some c.requires.no_return c.requires.no_feed c.requires.utf8)

pub returns : goal.returns
returns c =
    let text = c.args.text.now in
    let even = even_without text c.requires.no_quote in
    let unmarked = sym c.has_byte_order_mark.ensures.value ∙ c.if-has_byte_order_mark.false in
    let is = text_is c.args.streams.now text c.requires.some c.requires.utf8 c.requires.no_return ∙ rw (even, unmarked) refl
    ∙ ap (record_entry c.args.streams.now) (record_of_commas text c.requires.some c.requires.no_quote c.requires.no_return c.requires.no_feed) in
    record {
      entry = subst (IsReadIn c.args.texts.now c.read_entry.new.texts c.read_entry.new.row.items c.read_entry.result) (sym is) c.read_entry.ensures.entry;
      begins = c.read_entry.ensures.begins;
      memory = λ _. no_fault text c.requires.utf8 c.requires.no_return even unmarked;
    }
