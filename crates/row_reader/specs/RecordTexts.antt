-- The bytes of a record.
use Rattle.std.specs.Prelude.{◌≡◌, ◌++◌, ◌∷◌, [], ℕ, List}
use Rattle.csv.specs.Writing.{default_writer, row_text, fields_text}
use Rattle.tw_rows.specs.Rows.{Row}
use Rattle.tw_rows.specs.declared.kind.Kind.{Kind}
use Rattle.row_reader.specs.FieldTexts.{row_texts}

-- a record of CSV: commas between the fields and a line feed at the end. A field with a comma, a quote, a line feed or a
-- carriage return stands in quotes, each quote in it doubled, and any other field stands as it is: `out`, `a,b`, `c"d`
-- and an empty field give `out,"a,b","c""d",` and the line feed
abbrev pub record_text : List (List ℕ) → List ℕ
record_text fields = row_text default_writer fields

-- what was there before stands at the front
pub record Begins (before after : List ℕ) : Type 0 where
  pub more : List ℕ
  pub is : after ≡ before ++ more

-- the values of a row came, a comma before each, and a line feed. Of a row of 7 and `a` these are `,7,a` and the line feed
abbrev pub EndsLine : List Kind → Row → List ℕ → List ℕ → Type 0
EndsLine kinds row before after = after ≡ before ++ (fields_text default_writer (row_texts kinds row) ++ 10 ∷ [])
