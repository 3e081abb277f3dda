-- Which texts a line puts into the table.
use Rattle.std.specs.Prelude.{◌≡◌, ℕ, List, [], Result, Ok, Err, take}
use Rattle.tw_rows.specs.Rows.{Row}
use Rattle.tw_rows.specs.declared.cells.Datum.{Datum}
use Rattle.tw_rows.specs.Cells.{with_row}
use Rattle.row_reader.specs.Entry.{Read}
use Rattle.row_reader.specs.Answers.{AnswersIn}
use Rattle.row_reader.specs.declared.entry.Entry.TheVariants.{Skip, Punct, Event}
use Rattle.row_reader.specs.declared.entry.Said.{Said}
use Rattle.row_reader.specs.declared.entry.RowFault.{RowFault}
use Rattle.row_reader.specs.declared.entry.RowFault.TheVariants.{Bad, Memory}

-- the row of a line that says an event, and no value where it says another entry or is bad
abbrev pub row_read : Read → Row
row_read (Ok Skip) = []
row_read (Ok (Punct stream time)) = []
row_read (Ok (Event stream form sync other row)) = row
row_read (Err cause) = []

-- the table once a line was read: the texts of its row came in, in order. A bad line leaves it as it was, and where there was no
-- more memory the texts of the first values of the row came in. With the texts `a` and `b`, a row of `b` and `c` leaves `a`, `b`, `c`
abbrev pub Interns : List (List ℕ) → List (List ℕ) → Result Said RowFault → Read → Type 0
Interns old new (Ok said) read = new ≡ with_row old (row_read read)
Interns old new (Err (Bad cause)) read = new ≡ old
Interns old new (Err Memory) read = (n : ℕ) × (new ≡ with_row old (take n (row_read read)))

-- both: the answer, and the table
pub record IsReadIn (old new : List (List ℕ)) (row : List Datum) (result : Result Said RowFault) (read : Read) : Type 0 where
  pub entry : AnswersIn new row result read
  pub texts : Interns old new result read
