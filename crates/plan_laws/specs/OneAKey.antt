-- Rows of which no two have the same key.
use Rattle.std.specs.Prelude.{ℕ, ◌≤◌, List, length}
use Rattle.plan_model.specs.RowOps.{RowOps, rows_of_key_in}

-- for each key at most one of the rows has it. Of (7, 2) and (8, 2): so by column 0, and not by column 1
abbrev pub HasOneAKey : {X : Type 0} → RowOps X → List ℕ → List (List X) → Type 0
HasOneAKey {X} ops key rows = (values : List X) → length (rows_of_key_in ops key values rows) ≤ 1
