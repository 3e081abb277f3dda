-- Which lines spell which event, and which punctuation.
use Rattle.std.specs.Prelude.{◌≡◌, ◌≢◌, ℕ, List, false, Option, Some, None, codes}
use Rattle.std.specs.List.{All}
use Rattle.std.specs.Str.{IsUtf8}
use Rattle.tw_rows.specs.Rows.{Row}
use Rattle.tw_rows.specs.declared.schema.StreamDef.{StreamDef}
use Rattle.row_reader.specs.FieldTexts.{event_fields, punctuation_fields}
use Rattle.row_reader.specs.declared.form.Form.{Form}
use Rattle.row_reader.specs.Line.{has_mark}
use Rattle.row_reader.specs.Spelled.{SpellsFields}
use Rattle.row_reader.specs.Printed.{kinds_of, IsRowOf, AreTimes, IsEnd}
use Rattle.row_reader.specs.Entry.{named}

-- the text spells these fields: it is UTF-8 without CR, no byte order mark stands before it, and it has the fields, each
-- as it stands or between double quotes, joined by commas
pub record SpellsText (text : List ℕ) (fields : List (List ℕ)) : Type 0 where
  pub is_text : IsUtf8 text
  pub no_return : All (λ b. b ≢ 13) text
  pub no_mark : has_mark text ≡ false
  pub spelled : SpellsFields text fields

-- the text spells the fields that are printed of the event: with a stream s of the columns k text and p dec(2),
-- `s,"interval",1,5,a,0.50` spells the interval from 1 to 5 of the row (a, 50). The stream is the first of its name, which is
-- not `*`
pub record SpellsEvent (streams : List StreamDef) (text : List ℕ) (stream : ℕ) (form : Form) (sync other : ℕ)
    (row : Row) : Type 0 where
  pub name : List ℕ
  pub definition : StreamDef
  pub named_is : named 0 streams name ≡ Some (stream, definition)
  pub no_star : name ≢ codes "*"
  pub is_text : SpellsText text (event_fields (kinds_of definition.schema) name form sync other row)
  pub row_is : IsRowOf definition.schema row
  pub times : AreTimes form sync other

-- the name of the streams that a punctuation speaks of: `*` for all, and else that of the stream, which is not `*`
abbrev pub IsPunctuated : List StreamDef → Option ℕ → List ℕ → Type 0
IsPunctuated streams None name = name ≡ codes "*"
IsPunctuated streams (Some stream) name = (name ≢ codes "*") × ((definition : StreamDef) × (named 0 streams name ≡ Some (stream, definition)))

-- the text spells the fields that are printed of the punctuation: `*,punct,7` and `"s",punct,inf`
pub record SpellsPunctuation (streams : List StreamDef) (text : List ℕ) (stream : Option ℕ) (time : ℕ) : Type 0 where
  pub name : List ℕ
  pub punctuated : IsPunctuated streams stream name
  pub is_text : SpellsText text (punctuation_fields name time)
  pub is_time : IsEnd time
