-- The bytes of change lines, each value by the kind of its column.
use Rattle.std.specs.Prelude.{ℕ, Option, None, Some, List, [], codes, flat_map}
use Rattle.tw_rows.specs.declared.kind.Kind.{Kind}
use Rattle.row_reader.specs.FieldTexts.{start_fields, end_fields, punctuation_fields}
use Rattle.row_reader.specs.RecordTexts.{record_text}
use Rattle.plan_model.specs.Changes.{Line, Started, Ended}

-- a start line is `out`, `start`, the time, `inf` and the values; an end line is `out`, `end`, the time, the time of the
-- start line that it names, and the values
abbrev pub line_fields : List Kind → Line → List (List ℕ)
line_fields kinds (Started t row) = start_fields kinds t row
line_fields kinds (Ended t s row) = end_fields kinds t s row

-- a change line: `out,end,7,3,"a,b",1.50` and a line feed, of a row of a text and a decimal of two places
abbrev pub line_text : List Kind → Line → List ℕ
line_text kinds line = record_text (line_fields kinds line)

-- the lines, one after the other
abbrev pub print : List Kind → List Line → List ℕ
print kinds lines = flat_map (line_text kinds) lines

-- a punctuation line `*,punct,7` where there is a time, and else nothing
abbrev pub punctuation_if : Option ℕ → List ℕ
punctuation_if None = []
punctuation_if (Some t) = record_text (punctuation_fields (codes "*") t)
