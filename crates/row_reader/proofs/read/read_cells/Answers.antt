use Rattle.std.proofs.Common.{◌≡◌, ℕ, true, false, subst, sym, ◌∙◌, ap, inl, inr}
use Rattle.std.specs.Prelude.{◌≢◌, ◌==◌}
use Rattle.std.specs.List.{All}
use Rattle.std.proofs.lemmas.Bool.Decides.{eqb_tells}
use Rattle.std.proofs.lemmas.Str.{IsUtf8-from_ascii}
use Rattle.tw_rows.specs.Cells.{with_row}
use Rattle.row_reader.specs.Entry.{Read, text_entry, text_fault}
use Rattle.row_reader.specs.Interned.{row_read}
use Rattle.row_reader.proofs.Lines.{without_text_of, simple_ascii, simple_no_return, simple_no_quote}
use Rattle.row_reader.proofs.Steps.{empty_text}
use Rattle.row_reader.proofs.read.read_cells.Goals as goal

is_zero : (n : ℕ) → true ≡ (n == 0) → n ≡ 0
is_zero n h = elim (eqb_tells n 0) [ inl t ↦ t.1 | inr t ↦ absurd (let f : (n == 0) ≡ false = t.0 in cc) ]

pub returns-then-is_empty-clause-entry : goal.returns-then-is_empty-clause-entry
returns-then-is_empty-clause-entry c = (
  ap (text_entry c.args.streams.now) (sym c.text_of_line-bytes.ensures) ∙ empty_text c.args.streams.now c.text_of_line-bytes.result.now (is_zero _ c.if-is_empty.ensures),
  tt,
)

pub read_special-requires-clause-no_feed : goal.read_special-requires-clause-no_feed
read_special-requires-clause-no_feed c = subst (λ l. All (λ b. b ≢ 10) l) (sym c.text_of_line-bytes.ensures) (without_text_of 10 c.args.first c.args.line.now c.requires.no_feed)

pub read_plain-requires-clause-utf8 : goal.read_plain-requires-clause-utf8
read_plain-requires-clause-utf8 c = IsUtf8-from_ascii _ (simple_ascii _ (c.has_special.ensures c.if-has_special.false))

pub read_plain-requires-clause-no_quote : goal.read_plain-requires-clause-no_quote
read_plain-requires-clause-no_quote c = simple_no_quote _ (c.has_special.ensures c.if-has_special.false)

pub read_plain-requires-clause-no_return : goal.read_plain-requires-clause-no_return
read_plain-requires-clause-no_return c = simple_no_return _ (c.has_special.ensures c.if-has_special.false)

pub read_plain-requires-clause-no_feed : goal.read_plain-requires-clause-no_feed
read_plain-requires-clause-no_feed c = subst (λ l. All (λ b. b ≢ 10) l) (sym c.text_of_line-bytes.ensures) (without_text_of 10 c.args.first c.args.line.now c.requires.no_feed)

pub returns-then-is_empty-clause-texts : goal.returns-then-is_empty-clause-texts
returns-then-is_empty-clause-texts c =
    let is = ap (text_entry c.args.streams.now) (sym c.text_of_line-bytes.ensures) ∙ empty_text c.args.streams.now c.text_of_line-bytes.result.now (is_zero _ c.if-is_empty.ensures) in
    ap (λ (r : Read). with_row c.args.texts.now (row_read r)) (sym is)

pub returns-else-has_special-clause-memory : goal.returns-else-has_special-clause-memory
returns-else-has_special-clause-memory c = λ is. ap text_fault (sym c.text_of_line-bytes.ensures) ∙ c.read_plain.ensures.memory is
