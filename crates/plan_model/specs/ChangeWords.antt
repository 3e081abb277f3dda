-- Words in which the laws of changes are stated.
use Rattle.std.specs.Prelude.{◌≡◌, ◌<◌, ℕ, cond, List, [], ◌∷◌, ◌++◌, flat_map}
use Rattle.std.specs.Ordering.{nat_cmp, eq_by_cmp, on, then_cmp}
use Rattle.std.specs.declared.cmp.Ordering.{Ordering}
use Rattle.tw_rows.specs.Rows.{Row, row_cmp}
use Rattle.plan_model.specs.Changes.{Line, Started, Ended}

-- the instant at which a line stands
abbrev pub time_of : Line → ℕ
time_of (Started t r) = t
time_of (Ended t s r) = t

abbrev pub row_of : Line → Row
row_of (Started t r) = r
row_of (Ended t s r) = r

-- end lines before start lines
abbrev pub kind_of : Line → ℕ
kind_of (Ended t s r) = 0
kind_of (Started t r) = 1

-- by instant, at one instant ends before starts, and within each in row order
abbrev pub line_cmp : Line → Line → Ordering
line_cmp = then_cmp (on time_of nat_cmp) (then_cmp (on kind_of nat_cmp) (on row_of row_cmp))

abbrev pub start_time : Row → Line → List ℕ
start_time r (Started t q) = cond (eq_by_cmp row_cmp r q) (t ∷ []) []
start_time r (Ended t s q) = []

abbrev pub named_time : Row → Line → List ℕ
named_time r (Started t q) = []
named_time r (Ended t s q) = cond (eq_by_cmp row_cmp r q) (s ∷ []) []

-- the times of a row's start lines, one for each line
abbrev pub start_times : Row → List Line → List ℕ
start_times r lines = flat_map (start_time r) lines

-- the times that a row's end lines name, one for each line
abbrev pub named_times : Row → List Line → List ℕ
named_times r lines = flat_map (named_time r) lines

-- s is the first of a row's start times in these lines that none of its end lines there names, taken in order; and it is before t
pub record IsFirstOpen (r : Row) (lines : List Line) (t s : ℕ) : Type 0 where
  pub rest : List ℕ
  pub first : start_times r lines ≡ named_times r lines ++ s ∷ rest
  pub earlier : s < t
