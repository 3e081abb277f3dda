-- What reading a text leaves.
use Rattle.std.specs.Prelude.{◌≡◌, ℕ, List, None, Result, Err}
use Rattle.tw_rows.specs.Texts.{BeginsWith}
use Rattle.tw_rows.specs.declared.cells.Datum.{Datum}
use Rattle.tw_rows.specs.declared.schema.StreamDef.{StreamDef}
use Rattle.row_reader.specs.Entry.{text_entry, text_fault}
use Rattle.row_reader.specs.Interned.{IsReadIn}
use Rattle.row_reader.specs.declared.entry.Said.{Said}
use Rattle.row_reader.specs.declared.entry.RowFault.{RowFault}
use Rattle.row_reader.specs.declared.entry.RowFault.TheVariants.{Memory}

-- the entry of the text is read, texts only came to the table, and it is out of memory only where the text has no fault as a whole
pub record ReadsText (streams : List StreamDef) (text : List ℕ) (old new : List (List ℕ)) (row : List Datum) (result : Result Said RowFault) : Type 0 where
  pub entry : IsReadIn old new row result (text_entry streams text)
  pub begins : BeginsWith new old
  pub memory : result ≡ Err Memory → text_fault text ≡ None
