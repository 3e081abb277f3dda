-- How answers of the code stand to what a line says.
use Rattle.std.specs.Prelude.{◌≡◌, ℕ, List, Option, Some, None, Result, Ok, Err, if◌then◌else◌, ◌==◌, length}
use Rattle.std.specs.Borrow.{Bor}
use Rattle.tw_rows.specs.Rows.{Row}
use Rattle.tw_rows.specs.declared.cells.Datum.{Datum}
use Rattle.tw_rows.specs.declared.schema.StreamDef.{StreamDef}
use Rattle.tw_rows.specs.declared.schema.ColumnDef.{ColumnDef}
use Rattle.row_reader.specs.Entry.{Read, row_of}
use Rattle.row_reader.specs.Celled.{entry_in, IsPlacedIn}
use Rattle.row_reader.specs.declared.entry.Entry.{Entry}
use Rattle.row_reader.specs.declared.entry.Said.{Said}
use Rattle.row_reader.specs.declared.entry.BadLine.{BadLine}
use Rattle.row_reader.specs.declared.entry.BadLine.TheVariants.{WrongFields, BadValue}
use Rattle.row_reader.specs.declared.entry.RowFault.{RowFault}
use Rattle.row_reader.specs.declared.entry.RowFault.TheVariants.{Bad, Memory}

-- the entry, or the cause, unless there was no memory
abbrev pub Answers : Result Entry RowFault → Read → Type 0
Answers (Ok entry) read = read ≡ Ok entry
Answers (Err (Bad cause)) read = read ≡ Err cause
Answers (Err Memory) read = Unit {0}

-- the same with a row of data: its places are those of texts of the table, in which the entry is the one that is told
abbrev pub AnswersIn : List (List ℕ) → List Datum → Result Said RowFault → Read → Type 0
AnswersIn texts row (Ok said) read = (read ≡ Ok (entry_in texts said row)) × IsPlacedIn texts said row
AnswersIn texts row (Err (Bad cause)) read = read ≡ Err cause
AnswersIn texts row (Err Memory) read = Unit {0}

-- the fault is the cause for which there are no values, unless there was no memory
abbrev pub IsCause : RowFault → Result Row BadLine → Type 0
IsCause (Bad cause) read = read ≡ Err cause
IsCause Memory read = Unit {0}

-- the cause, where so many fields are left as are wanted
abbrev pub unless_wrong : ℕ → List (List ℕ) → BadLine → BadLine
unless_wrong wanted fields cause = if length fields == wanted then cause else WrongFields

abbrev pub bad_value : Result Row ℕ → Result Row BadLine
bad_value (Ok row) = Ok row
bad_value (Err n) = Err (BadValue n)

-- the values that the fields behind the times of an event spell: where the only column is an int, `7` gives the row of 7, `7,8` is
-- WrongFields and `a` is BadValue 1
abbrev pub values_of : List ColumnDef → List (List ℕ) → Result Row BadLine
values_of columns fields = if length fields == length columns then bad_value (row_of 1 columns fields) else Err WrongFields

-- a stream that was found, as the code gives it
abbrev pub IsNamed : Option (ℕ × Bor StreamDef) → Option (ℕ × StreamDef) → Type 0
IsNamed None found = found ≡ None
IsNamed (Some p) found = found ≡ Some (p.0, p.1.now)
