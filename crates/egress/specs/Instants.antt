-- What an instant shows of rows that come and go, by how often each row ends and begins there.
use Rattle.std.specs.Prelude.{◌≡◌, ℕ, ◌+◌, ◌-◌, false, List, ◌++◌, take, drop, map, flat_map, replicate}
use Rattle.std.specs.List.{list_any}
use Rattle.std.specs.List.Sorted.{IsStrictlySortedBy}
use Rattle.std.specs.Ordering.{eq_by_cmp}
use Rattle.tw_rows.specs.Rows.{Row, row_cmp}
use Rattle.plan_model.specs.Opens.{how_often, before, open_before}
use Rattle.plan_model.specs.Changes.{Line, Started, Ended}

-- the end lines of a row at t: one for each end by which its ends are more than its starts, for its first open starts.
-- Of two ends and one start of a row that is open since 3 and 4: the end of the one since 3
abbrev pub end_lines : (Row → ℕ) → (Row → ℕ) → ℕ → (Row → List ℕ) → Row → List Line
end_lines ends starts t since r = map (λ s. Ended t s r) (take (ends r - starts r) (since r))

-- the start lines of a row at t: one for each start by which its starts are more than its ends
abbrev pub start_lines : (Row → ℕ) → (Row → ℕ) → ℕ → Row → List Line
start_lines ends starts t r = replicate (starts r - ends r) (Started t r)

-- the lines of an instant: all end lines before all start lines, each in the order of the rows that are gone over
unfoldable pub instant_lines : (Row → ℕ) → (Row → ℕ) → ℕ → (Row → List ℕ) → List Row → List Line
instant_lines ends starts t since touched =
    flat_map (end_lines ends starts t since) touched ++ flat_map (start_lines ends starts t) touched

-- the open starts of a row after t: the first are ended, and the new ones come last. After two ends and one start at 7
-- of a row that was open since 3 and 4: 4
abbrev pub open_after : (Row → ℕ) → (Row → ℕ) → ℕ → (Row → List ℕ) → Row → List ℕ
open_after ends starts t since r = drop (ends r - starts r) (since r) ++ replicate (starts r - ends r) t

-- so often each row ends and starts at t: with its ends it stands there as often as just before with its starts. Where a
-- row stands twice after it stood once, it may have one start, or two and one end
abbrev pub AreMoves : (ℕ → List Row) → ℕ → (Row → ℕ) → (Row → ℕ) → Type 0
AreMoves rows t ends starts = (r : Row) → how_often r (rows t) + ends r ≡ how_often r (before rows t) + starts r

-- these are the open starts of each row just before t
abbrev pub AreOpen : (ℕ → List Row) → ℕ → (Row → List ℕ) → Type 0
AreOpen rows t since = (r : Row) → since r ≡ open_before rows r t

-- the rows stand in row order, each once, and each other row ends as often as it starts
pub record AreTouched (ends starts : Row → ℕ) (touched : List Row) : Type 0 where
  pub order : IsStrictlySortedBy row_cmp touched
  pub others : (r : Row) → list_any (eq_by_cmp row_cmp r) touched ≡ false → ends r ≡ starts r
