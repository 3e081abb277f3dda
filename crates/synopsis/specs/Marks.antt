-- How much an index of rows holds.
use Rattle.std.specs.Prelude.{◌≡◌, ◌≤◌, ℕ}

-- how many places are marked, and how many hashes are counted
pub record MarkCount : Type 0 where
  pub places : ℕ
  pub hashes : ℕ

-- the index is that of so many rows: of 40 rows 40 marks, and at most 40 hashes
pub record Fits (rows : ℕ) (m : MarkCount) : Type 0 where
  pub marked : m.places ≡ rows
  pub few : m.hashes ≤ rows
