-- The text of the cuts of a plan.
use Rattle.std.specs.Prelude.{ℕ, zero, suc, max, nat_lt, cond, Option, Some, None, List, [], ◌∷◌, ◌++◌, map, flat_map, slice_index_or, codes, decimal}
use Rattle.tw_rows.specs.declared.schema.StreamDef.{StreamDef}
use Rattle.plan_model.specs.IsPlan.{PlanParts}
use Rattle.query_plan.specs.Cuts.{stream_widths, first_uncut}
use Rattle.query_plan.specs.Choices.{choice_count, choice, cuts, most_choices}

-- a stream with its column of a choice, as trades by sym
abbrev pub stream_cut : StreamDef → ℕ → List ℕ
stream_cut stream column = stream.name ++ codes " by " ++ slice_index_or (map (λ c. c.name) stream.schema) column []

-- the streams, of which the first has that number, each with its column: of the number 0 trades by sym, quotes by sym
abbrev pub stream_cuts : ℕ → List StreamDef → List ℕ → List ℕ
stream_cuts i [] columns = []
stream_cuts i (stream ∷ streams) columns =
    cond (nat_lt 0 i) (codes ", ") [] ++ stream_cut stream (slice_index_or columns i 0) ++ stream_cuts (suc i) streams columns

-- the line of a choice
abbrev pub cut_line : PlanParts → List ℕ → List ℕ
cut_line plan columns = stream_cuts 0 plan.streams columns ++ codes "\n"

-- the number of the node, and 0 where there is none
abbrev pub or_zero : Option ℕ → ℕ
or_zero None = 0
or_zero (Some i) = i

-- the greatest of the nodes at which the first n choices end
abbrev pub furthest_below : PlanParts → ℕ → ℕ
furthest_below plan zero = 0
furthest_below plan (suc n) =
    max (furthest_below plan n) (or_zero (first_uncut plan (choice (stream_widths plan.streams) n)))

-- the line of a plan that no choice cuts: the node that none gets past
abbrev pub no_way : PlanParts → List ℕ
no_way plan = codes "no way: node " ++ decimal (furthest_below plan (choice_count (stream_widths plan.streams)))
    ++ codes " has no column by which its rows are cut\n"

-- the lines of the choices, or the one that says why there are none
abbrev pub lines_or : PlanParts → List (List ℕ) → List ℕ
lines_or plan [] = no_way plan
lines_or plan (columns ∷ more) = flat_map (cut_line plan) (columns ∷ more)

-- the text of the cuts of a plan. Of a group by sym of trades(sym text, qty int):
-- trades by sym
abbrev pub cut_text : PlanParts → List ℕ
cut_text plan = cond (nat_lt most_choices (choice_count (stream_widths plan.streams))) (codes "too many choices\n")
    (lines_or plan (cuts plan))
