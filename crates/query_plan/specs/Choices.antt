-- The choices of a column for each stream by which a plan may be cut.
use Rattle.std.specs.Prelude.{ℕ, zero, suc, ◌+◌, ◌*◌, ◌/◌, ◌%◌, ◌^◌, cond, List, [], ◌∷◌, ◌++◌}
use Rattle.plan_model.specs.IsPlan.{PlanParts}
use Rattle.query_plan.specs.Cuts.{stream_widths, may_be_cut}

-- how many choices there are of a number below each of these. Below 2 and 3: 6
abbrev pub choice_count : List ℕ → ℕ
choice_count [] = 1
choice_count (width ∷ widths) = width * choice_count widths

-- the choice of that number; the first of its columns changes fastest. Below 2 and 3 the choice 5: 1, 2
abbrev pub choice : List ℕ → ℕ → List ℕ
choice [] number = []
choice (width ∷ widths) number = number % width ∷ choice widths (number / width)

-- the number of a choice below these
abbrev pub number_of : List ℕ → List ℕ → ℕ
number_of [] columns = 0
number_of (width ∷ widths) [] = 0
number_of (width ∷ widths) (column ∷ columns) = number_of widths columns * width + column

-- of the first n choices those by which the plan may be cut, in order
abbrev pub cuts_below : PlanParts → ℕ → List (List ℕ)
cuts_below plan zero = []
cuts_below plan (suc n) = cuts_below plan n
    ++ cond (may_be_cut plan (choice (stream_widths plan.streams) n)) (choice (stream_widths plan.streams) n ∷ []) []

-- the choices of a column for each stream by which the plan may be cut, in order
abbrev pub cuts : PlanParts → List (List ℕ)
cuts plan = cuts_below plan (choice_count (stream_widths plan.streams))

-- as many choices as are tried
abbrev pub most_choices : ℕ
most_choices = 2 ^ 16
