-- How lists change, in whatever order.
use Rattle.std.specs.Prelude.{◌≡◌, ℕ, ◌+◌, List}
use Rattle.tw_rows.specs.Bag.{total}
use Rattle.tw_rows.specs.declared.cells.Datum.{Datum}
use Rattle.tw_rows.specs.declared.edge.HeldRow.{HeldRow}

-- the list has one item more, somewhere. With 4, the list 3, 5 becomes 3, 4, 5
abbrev pub Gains : {X : Type 0} → List X → List X → X → Type 0
Gains {X} old new x = (w : X → ℕ) → total w new ≡ total w old + w x

-- items go from one list to the other at most. Of 3 and 5, 7 the 5 may go: 3, 5 and 7
abbrev pub StayTogether : {X : Type 0} → List X → List X → List X → List X → Type 0
StayTogether {X} old other new other2 = (w : X → ℕ) → total w new + total w other2 ≡ total w old + total w other

-- and one item more is in one of them; or these items more
abbrev pub GainTogether : {X : Type 0} → List X → List X → List X → List X → X → Type 0
GainTogether {X} old other new other2 x = (w : X → ℕ) → total w new + total w other2 ≡ (total w old + total w other) + w x

abbrev pub TakeTogether : {X : Type 0} → List X → List X → List X → List X → List X → Type 0
TakeTogether {X} old other new other2 xs = (w : X → ℕ) → total w new + total w other2 ≡ (total w old + total w other) + total w xs

-- the row of these cells that began then
abbrev pub row_since : List Datum → ℕ → HeldRow
row_since cells start = record { cells = cells; start = start }
