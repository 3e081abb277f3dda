use Rattle.std.proofs.Common.{sym, ◌∙◌, arith}
use Rattle.std.proofs.lemmas.Str.{IsUtf8-from_is_utf8}
use Rattle.row_reader.proofs.Steps.{refused, no_text, return_left}
use Rattle.row_reader.proofs.read.read_special.Goals as goal

pub returns-then-not-is_text : goal.returns-then-not-is_text
returns-then-not-is_text c = refused _ _ _ _ _ (no_text c.args.streams.now c.args.bytes.now (λ e. omega (arith, e, c.requires.some)) (sym c.is_text.ensures ∙ c.if-not-is_text.true))

pub returns-then-contains : goal.returns-then-contains
returns-then-contains c =
    refused _ _ _ _ _ (return_left c.args.streams.now c.args.bytes.now (λ e. omega (arith, e, c.requires.some)) (sym c.is_text.ensures ∙ c.if-not-is_text.false) (sym c.contains.ensures.value ∙ c.if-contains.true))

pub read_quoted-requires-clause-utf8 : goal.read_quoted-requires-clause-utf8
read_quoted-requires-clause-utf8 c = IsUtf8-from_is_utf8 _ (sym c.is_text.ensures ∙ c.if-not-is_text.false)

pub read_plain-requires-clause-utf8 : goal.read_plain-requires-clause-utf8
read_plain-requires-clause-utf8 c = IsUtf8-from_is_utf8 _ (sym c.is_text.ensures ∙ c.if-not-is_text.false)
