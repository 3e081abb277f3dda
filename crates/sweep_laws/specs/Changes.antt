-- How lists of rows change, in whatever order.
use Rattle.std.specs.Prelude.{◌≡◌, ℕ, ◌+◌, ◌≤◌, List}
use Rattle.tw_rows.specs.Bag.{total}

-- the new items are the old ones and these. From 3, 5 with 4, 5: 3, 4, 5, 5
abbrev pub TakeIn : {X : Type 0} → List X → List X → List X → Type 0
TakeIn {X} old new items = (w : X → ℕ) → total w new ≡ total w old + total w items

-- the old items are the new ones and these. From 3, 4, 5, 5 without 4, 5: 3, 5
abbrev pub GiveUp : {X : Type 0} → List X → List X → List X → Type 0
GiveUp {X} old new items = (w : X → ℕ) → total w old ≡ total w new + total w items

-- no item is among the new ones more often than among the old ones. From 3, 5, 5: 3, 5
abbrev pub NoMore : {X : Type 0} → List X → List X → Type 0
NoMore {X} old new = (w : X → ℕ) → total w new ≤ total w old

-- nor than among the old ones and these
abbrev pub TakeAtMost : {X : Type 0} → List X → List X → List X → Type 0
TakeAtMost {X} old new items = (w : X → ℕ) → total w new ≤ total w old + total w items
