-- What is said and what it stands for.
use Rattle.std.specs.Prelude.{ℕ, List, Err}
use Rattle.tw_rows.specs.Texts.{BeginsWith}
use Rattle.tw_rows.specs.declared.cells.Datum.{Datum}
use Rattle.tw_rows.proofs.TextTables.{BeginsWith-refl}
use Rattle.row_reader.specs.Entry.{Read}
use Rattle.row_reader.specs.Answers.{Answers, AnswersIn}
use Rattle.row_reader.specs.declared.entry.RowFault.{RowFault}
use Rattle.row_reader.specs.declared.entry.RowFault.TheVariants.{Bad, Memory}

-- a fault is told alike, with a row of data or not
pub fault_told : (texts : List (List ℕ)) (row : List Datum) (fault : RowFault) (read : Read) → AnswersIn texts row (Err fault) read → Answers (Err fault) read
fault_told texts row (Bad cause) read h = h
fault_told texts row Memory read h = tt

-- a table that is as it was
pub same_table : (texts : List (List ℕ)) → BeginsWith texts texts
same_table texts = BeginsWith-refl texts
