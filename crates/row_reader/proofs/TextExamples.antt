-- Worked cases: numbers, and the bytes of lines.
use Rattle.std.proofs.Common.{◌≡◌, [], ◌∷◌, refl, true}
use Rattle.std.specs.Prelude.{codes, pos, negsuc}
use Rattle.std.specs.Fmt.{digits}
use Rattle.csv.specs.Writing.{escaped, fields_text, is_blank}
use Rattle.tw_rows.specs.declared.kind.Kind.TheVariants.{Int, Bool as Flag, Text, Dec}
use Rattle.tw_rows.specs.declared.row.Value.TheVariants as values
use Rattle.row_reader.specs.NumberTexts.{fraction, number_text}
use Rattle.row_reader.specs.FieldTexts.{row_texts}
use Rattle.row_reader.specs.RecordTexts.{record_text}

pub one_and_a_half : number_text 2 (pos 150) ≡ codes "1.50"
unfolding fraction digits
one_and_a_half = refl

pub five_hundredths_less : number_text 2 (negsuc 4) ≡ codes "-0.05"
unfolding fraction digits
five_hundredths_less = refl

pub least : number_text 2 (negsuc 9223372036854775807) ≡ codes "-92233720368547758.08"
unfolding fraction digits
least = refl

pub whole : number_text 0 (negsuc 4) ≡ codes "-5"
unfolding fraction digits
whole = refl

-- the same number by the kinds of two columns, a truth value and a text
pub by_kind : row_texts (Int ∷ Dec 2 ∷ Flag ∷ Text ∷ []) (values.Int (pos 150) ∷ values.Int (pos 150) ∷ values.Bool true ∷ values.Text (codes "a") ∷ []) ≡ codes "150" ∷ codes "1.50" ∷ codes "true" ∷ codes "a" ∷ []
unfolding fraction digits
by_kind = refl

pub quoted : record_text (codes "out" ∷ codes "a,b" ∷ codes "c\"d" ∷ [] ∷ []) ≡ codes "out,\"a,b\",\"c\"\"d\",\n"
unfolding escaped fields_text is_blank
quoted = refl
