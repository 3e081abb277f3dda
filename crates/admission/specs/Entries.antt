-- Lines as they are read, and what every entry keeps.
use Rattle.std.specs.Prelude.{ℕ, ◌<◌, ◌≤◌, IfSome, Ok, Err, List, [], ◌∷◌}
use Rattle.tw_rows.specs.Instant.{inf}
use Rattle.row_reader.specs.Entry.{Read}
use Rattle.row_reader.specs.declared.entry.Entry.{Entry}
use Rattle.row_reader.specs.declared.entry.Entry.TheVariants.{Skip, Punct, Event}

-- a line by its number, and what it says or the cause for which it is bad
pub record Told : Type 0 where
  pub number : ℕ
  pub read : Read

-- the stream is one of so many, and the times are instants or infinity. Of two streams, a start of stream 1 at 3 is an entry
abbrev pub IsEntry : ℕ → Entry → Type 0
IsEntry streams Skip = Unit {0}
IsEntry streams (Punct stream time) = IfSome stream (λ s. s < streams) × (time ≤ inf)
IsEntry streams (Event stream form sync other row) = (stream < streams) × (sync ≤ inf) × (other ≤ inf)

abbrev pub AreEntries : ℕ → List Entry → Type 0
AreEntries streams [] = Unit {0}
AreEntries streams (e ∷ es) = IsEntry streams e × AreEntries streams es

abbrev pub IsRead : ℕ → Read → Type 0
IsRead streams (Ok entry) = IsEntry streams entry
IsRead streams (Err cause) = Unit {0}

-- whatever the lines say is an entry
abbrev pub AreRead : ℕ → List Told → Type 0
AreRead streams [] = Unit {0}
AreRead streams (line ∷ lines) = IsRead streams line.read × AreRead streams lines
