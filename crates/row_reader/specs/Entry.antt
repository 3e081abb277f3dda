-- What a line says, or the first cause for which it is bad.
use Rattle.std.specs.Prelude.{ℕ, suc, ◌+◌, ◌∷◌, Bool, not, List, [], Option, Some, None, Result, Ok, Err, if◌then◌else◌, ◌==◌, length, drop, codes}
use Rattle.std.specs.List.{list_any}
use Rattle.std.specs.Str.{is_utf8}
use Rattle.tw_rows.specs.Rows.{Row}
use Rattle.tw_rows.specs.declared.row.Value.{Value}
use Rattle.tw_rows.specs.declared.schema.ColumnDef.{ColumnDef}
use Rattle.tw_rows.specs.declared.schema.StreamDef.{StreamDef}
use Rattle.row_reader.specs.Number.{same_text}
use Rattle.row_reader.specs.Line.{text_of, has_mark}
use Rattle.row_reader.specs.Quotes.{odd_quotes}
use Rattle.row_reader.specs.Record.{record_of, field_of}
use Rattle.row_reader.specs.Values.{end_of, form_of, times_of, is_alive, value_of}
use Rattle.row_reader.specs.declared.entry.Entry.{Entry}
use Rattle.row_reader.specs.declared.entry.Entry.TheVariants.{Skip, Punct, Event}
use Rattle.row_reader.specs.declared.entry.BadLine.{BadLine}
use Rattle.row_reader.specs.declared.entry.BadLine.TheVariants.{NotUtf8, StrayReturn, OddQuotes, UnknownStream, UnknownKind, WrongFields, BadTime, BadLife, BadValue}

-- an entry, or why there is none
abbrev pub Read : Type 0
Read = Result Entry BadLine

-- what follows from a part of the line that is there; where it is not, the line is bad for this cause
abbrev pub or_bad : {A : Type 0} → BadLine → Option A → (A → Read) → Read
or_bad cause None more = Err cause
or_bad cause (Some x) more = more x

-- NotUtf8: the bytes are the UTF-8 of no text
abbrev pub not_utf8 : List ℕ → Bool
not_utf8 text = not (is_utf8 text)

-- StrayReturn: a CR is left
abbrev pub stray_return : List ℕ → Bool
stray_return text = list_any (λ b. b == 13) text

-- the first cause that the bytes give before any field is looked at. A byte order mark is part of no stream's name
unfoldable pub text_fault : List ℕ → Option BadLine
text_fault text =
    if not_utf8 text then Some NotUtf8
    else if stray_return text then Some StrayReturn
    else if odd_quotes text then Some OddQuotes
    else if has_mark text then Some UnknownStream
    else None

-- the first stream of that name, with its number where the first of the list has number n
unfoldable pub named : ℕ → List StreamDef → List ℕ → Option (ℕ × StreamDef)
named n [] name = None
named n (s ∷ streams) name = if same_text s.name name then Some (n, s) else named (suc n) streams name

-- BadValue: the number of the column, where the value is not of its kind
abbrev pub with_value : ℕ → Option Value → Result Row ℕ → Result Row ℕ
with_value n None row = Err n
with_value n (Some v) (Ok row) = Ok (v ∷ row)
with_value n (Some v) (Err m) = Err m

-- the values that the fields spell, one for each column, or the number of the first column that is bad, where the first column has number n
unfoldable pub row_of : ℕ → List ColumnDef → List (List ℕ) → Result Row ℕ
row_of n [] fields = Ok []
row_of n (c ∷ columns) fields = with_value n (value_of c.kind (field_of fields 0)) (row_of (suc n) columns (drop 1 fields))

abbrev pub with_row : Result Row ℕ → (Row → Read) → Read
with_row (Err n) more = Err (BadValue n)
with_row (Ok row) more = more row

-- behind a stream's name: the form FORM,TIME,TIME,VALUE.. with a value for each column
unfoldable pub event : ℕ → List ColumnDef → List (List ℕ) → Read
event stream columns fields =
    or_bad UnknownKind (form_of (field_of fields 0)) (λ form.
    if not (length fields == length columns + 3) then Err WrongFields else
    or_bad BadTime (times_of form (field_of fields 1) (field_of fields 2)) (λ times.
    if not (is_alive form times.0 times.1) then Err BadLife else
    with_row (row_of 1 columns (drop 3 fields)) (λ row. Ok (Event stream form times.0 times.1 row))))

-- behind the name of that stream, or `*`: the form punct,TIME
unfoldable pub punctuation : Option ℕ → List (List ℕ) → Read
punctuation stream fields =
    if not (length fields == 2) then Err WrongFields
    else or_bad BadTime (end_of (field_of fields 1)) (λ time. Ok (Punct stream time))

abbrev pub is_punct : List (List ℕ) → Bool
is_punct fields = same_text (field_of fields 0) (codes "punct")

-- what the fields behind `*` say
abbrev pub of_all : List (List ℕ) → Read
of_all fields = if is_punct fields then punctuation None fields else Err UnknownKind

-- what the fields behind a stream's name say
abbrev pub of_stream : ℕ → List ColumnDef → List (List ℕ) → Read
of_stream stream columns fields = if is_punct fields then punctuation (Some stream) fields else event stream columns fields

-- what the fields of a line say
unfoldable pub record_entry : List StreamDef → List (List ℕ) → Read
record_entry streams fields =
    if same_text (field_of fields 0) (codes "*") then of_all (drop 1 fields)
    else or_bad UnknownStream (named 0 streams (field_of fields 0)) (λ found. of_stream found.0 found.1.schema (drop 1 fields))

abbrev pub unless_bad : Option BadLine → Read → Read
unless_bad (Some cause) read = Err cause
unless_bad None read = read

-- what the bytes of a line say, once a CR at their end and a byte order mark are dropped
unfoldable pub text_entry : List StreamDef → List ℕ → Read
text_entry streams text = if length text == 0 then Ok Skip else unless_bad (text_fault text) (record_entry streams (record_of text))

-- what a line says, which is the first of the input or a later one
abbrev pub entry : List StreamDef → Bool → List ℕ → Read
entry streams first line = text_entry streams (text_of first line)
