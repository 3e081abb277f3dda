-- Entries whose values stand in a row of data.
use Rattle.std.specs.Prelude.{ℕ, List}
use Rattle.tw_rows.specs.Cells.{ArePlaced, read_cells}
use Rattle.tw_rows.specs.declared.cells.Datum.{Datum}
use Rattle.row_reader.specs.declared.entry.Entry.{Entry}
use Rattle.row_reader.specs.declared.entry.Entry.TheVariants as entries
use Rattle.row_reader.specs.declared.entry.Said.{Said}
use Rattle.row_reader.specs.declared.entry.Said.TheVariants.{Skip, Punct, Event}

-- the entry that is said, with the row that an event has: with the text `a` at place 0, an event and the row of the place 0 stand for an
-- event of `a`
abbrev pub entry_in : List (List ℕ) → Said → List Datum → Entry
entry_in texts Skip row = entries.Skip
entry_in texts (Punct stream time) row = entries.Punct stream time
entry_in texts (Event stream form sync other) row = entries.Event stream form sync other (read_cells texts row)

-- each place in the row of an event is that of a text of the table
abbrev pub IsPlacedIn : List (List ℕ) → Said → List Datum → Type 0
IsPlacedIn texts Skip row = Unit {0}
IsPlacedIn texts (Punct stream time) row = Unit {0}
IsPlacedIn texts (Event stream form sync other) row = ArePlaced texts row
