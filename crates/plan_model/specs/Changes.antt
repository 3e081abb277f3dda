-- The changes of rows that come and go: a line for each start and each end of a row.
use Rattle.std.specs.Prelude.{ℕ, List, [], ◌∷◌, ◌++◌, map, flat_map, replicate}
use Rattle.std.specs.declared.cmp.Ordering.{Ordering}
use Rattle.std.specs.declared.cmp.Ordering.TheVariants.{Less, Equal, Greater}
use Rattle.tw_rows.specs.Instant.{instants}
use Rattle.tw_rows.specs.Rows.{Row, row_cmp}
use Rattle.plan_model.specs.Opens.{before, rise, named_at}

-- a row started at a time; or it ended at a time, and the line names the time of a start line of that row
pub data Line : Type 0 where
  Started : (at : ℕ) → (row : Row) → Line
  Ended : (at : ℕ) → (start : ℕ) → (row : Row) → Line

abbrev pub place : Ordering → List Row → List Row → List Row → List Row
place Less first here after = first
place Equal first here after = here
place Greater first here after = after

-- the row in its place among rows in order, unless it stands there
abbrev pub insert_row : Row → List Row → List Row
insert_row r [] = r ∷ []
insert_row r (x ∷ xs) = place (row_cmp r x) (r ∷ x ∷ xs) (x ∷ xs) (x ∷ insert_row r xs)

-- the rows of a list, each once, in row order. Of 7, 4, 7: 4 and 7
abbrev pub in_row_order : List Row → List Row
in_row_order [] = []
in_row_order (r ∷ rows) = insert_row r (in_row_order rows)

-- the end lines and the start lines of a row at an instant
abbrev pub row_ends : (ℕ → List Row) → ℕ → Row → List Line
row_ends rows t r = map (λ s. Ended t s r) (named_at rows r t)

abbrev pub row_starts : (ℕ → List Row) → ℕ → Row → List Line
row_starts rows t r = replicate (rise rows r t) (Started t r)

-- the lines of an instant: all end lines before all start lines, each in row order
unfoldable pub changes_at : (ℕ → List Row) → ℕ → List Line
changes_at rows t = flat_map (row_ends rows t) (in_row_order (before rows t)) ++ flat_map (row_starts rows t) (in_row_order (rows t))

-- the lines of the n instants from a on
unfoldable pub changes : (ℕ → List Row) → ℕ → ℕ → List Line
changes rows a n = flat_map (changes_at rows) (instants a n)
