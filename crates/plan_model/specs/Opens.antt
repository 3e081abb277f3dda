-- Rows that come and go: how often each stands among the rows of an instant, and which of its start lines are open.
use Rattle.std.specs.Prelude.{ℕ, zero, suc, ◌+◌, ◌-◌, cond, List, [], ◌++◌, take, drop, replicate}
use Rattle.std.specs.Ordering.{eq_by_cmp}
use Rattle.tw_rows.specs.Bag.{total}
use Rattle.tw_rows.specs.Rows.{Row, row_cmp}

-- how often a row stands in a list
abbrev pub how_often : Row → List Row → ℕ
how_often r rows = total (λ x. cond (eq_by_cmp row_cmp r x) 1 0) rows

-- the rows just before an instant: none before the first
abbrev pub before : (ℕ → List Row) → ℕ → List Row
before rows zero = []
before rows (suc t) = rows t

-- by how much the multiplicity of a row rises at an instant. Where it stands once and then three times it rises by 2
abbrev pub rise : (ℕ → List Row) → Row → ℕ → ℕ
rise rows r t = how_often r (rows t) - how_often r (before rows t)

-- and by how much it falls. Where it rises it falls by 0
abbrev pub fall : (ℕ → List Row) → Row → ℕ → ℕ
fall rows r t = how_often r (before rows t) - how_often r (rows t)

-- the times of a row's start lines before an instant, in order: one line for each by which it rises
abbrev pub starts_before : (ℕ → List Row) → Row → ℕ → List ℕ
starts_before rows r zero = []
starts_before rows r (suc t) = starts_before rows r t ++ replicate (rise rows r t) t

-- how many end lines a row has before an instant: one for each by which it falls
abbrev pub ends_before : (ℕ → List Row) → Row → ℕ → ℕ
ends_before rows r zero = 0
ends_before rows r (suc t) = ends_before rows r t + fall rows r t

-- the times of the start lines that have no end line before an instant. After starts at 1, 3 and 4 and one end: 3 and 4
abbrev pub open_before : (ℕ → List Row) → Row → ℕ → List ℕ
open_before rows r t = drop (ends_before rows r t) (starts_before rows r t)

-- the times that a row's end lines at an instant name: the j-th end line of a row names the time of its j-th start line
abbrev pub named_at : (ℕ → List Row) → Row → ℕ → List ℕ
named_at rows r t = take (fall rows r t) (open_before rows r t)
