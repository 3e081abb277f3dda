-- The rows of a part.
use Rattle.std.specs.Prelude.{◌≡◌, ℕ, ◌<◌, nat_eq, Bool, true, List, length, filter, slice_index_or}
use Rattle.tw_rows.specs.Event.{Event}
use Rattle.tw_rows.specs.Rows.{Row}
use Rattle.tw_rows.specs.declared.row.Value.{Value}
use Rattle.plan_model.specs.Expr.{zero_value}
use Rattle.plan_model.specs.IsPlan.{PlanParts, IsPlan}
use Rattle.plan_model.specs.Meaning.{Sources}
use Rattle.plan_laws.specs.Widths.{FitStreams}
use Rattle.query_plan.specs.Cuts.{is_among, cut_places}

-- the row's value in a column passes the test. Of the row 5, 6 and the column 1 that is asked of 6
abbrev pub passes_at : (Value → Bool) → ℕ → Row → Bool
passes_at test place row = test (slice_index_or row place zero_value)

-- the events whose rows pass
abbrev pub passing_events : (Value → Bool) → ℕ → List (Event Row) → List (Event Row)
passing_events test place es = filter (λ e. passes_at test place e.row) es

-- the events of each stream whose value in the stream's column of the list passes the test
abbrev pub passing_sources : (Value → Bool) → List ℕ → Sources → Sources
passing_sources test columns source s = passing_events test (slice_index_or columns s 0) (source s)

-- the values of the part k, where each value is given the number of a part
abbrev pub in_part : (Value → ℕ) → ℕ → Value → Bool
in_part part k value = nat_eq (part value) k

-- the events of part k of each stream, where each value of its column is given the number of a part
abbrev pub part_of : (Value → ℕ) → ℕ → List ℕ → Sources → Sources
part_of part k columns source = passing_sources (in_part part k) columns source

-- the part of a row, by its value in that column
abbrev pub part_at : (Value → ℕ) → ℕ → Row → ℕ
part_at part place row = part (slice_index_or row place zero_value)

-- the rows of the node of number i are cut by that column of it, where those of the sources are by the columns of the list
pub record IsCutBy (plan : PlanParts) (source : Sources) (columns : List ℕ) (i place : ℕ) : Type 0 where
  pub kept : IsPlan plan
  pub fits : FitStreams plan.streams source
  pub low : i < length plan.nodes
  pub cut : is_among (cut_places plan columns i) place ≡ true
