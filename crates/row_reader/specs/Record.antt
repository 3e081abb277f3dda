-- The record of a line: its fields, as csv reads them.
use Rattle.std.specs.Prelude.{◌≡◌, ◌∷◌, ℕ, List, [], Option, Some, None, unwrap_or}
use Rattle.csv.specs.Machine.{Read, next_record}
use Rattle.csv.specs.Reading.{default_config}
use Rattle.csv.specs.Records.{field_at}
use Rattle.csv.specs.declared.parser.State.{State}
use Rattle.csv.specs.declared.parser.State.TheVariants as st
use Rattle.row_reader.specs.declared.quotes.Place.{Place}
use Rattle.row_reader.specs.declared.quotes.Place.TheVariants.{Start, Plain, Quoted, Closed}

abbrev pub fields_read : Option Read → List (List ℕ)
fields_read None = []
fields_read (Some p) = p.0

-- the first record of the text. The text `a,"b,c"` has the fields `a` and `b,c`
unfoldable pub record_of : List ℕ → List (List ℕ)
record_of text = fields_read (next_record default_config st.StartRecord [] [] text)

-- the field of that number, counted from 0, or nothing where there is none
unfoldable pub field_of : List (List ℕ) → ℕ → List ℕ
field_of fields n = unwrap_or (field_at fields n) []

-- the state of csv's reader at a place of a line
abbrev pub state_at : Place → State
state_at Start = st.StartField
state_at Plain = st.InField
state_at Quoted = st.InQuoted
state_at Closed = st.AfterQuote

-- with these fields and these bytes of the field at hand, and with this byte next, csv reads on as it does behind the byte
-- with those fields and those bytes
abbrev pub ReadsOn : Place → ℕ → List (List ℕ) → List ℕ → Place → List (List ℕ) → List ℕ → Type 0
ReadsOn place b fields field place' fields' field' = (more : List ℕ) →
    next_record default_config (state_at place) fields field (b ∷ more) ≡ next_record default_config (state_at place') fields' field' more
