-- How many values rows have.
use Rattle.std.specs.Prelude.{◌≡◌, ℕ, List, length, All}
use Rattle.tw_rows.specs.Event.{Event}
use Rattle.tw_rows.specs.declared.schema.StreamDef.{StreamDef}
use Rattle.plan_model.specs.IsPlan.{kinds_of_stream}
use Rattle.plan_model.specs.Meaning.{Sources}

-- the row of each event has so many values
abbrev pub AreWide : {X : Type 0} → ℕ → List (Event (List X)) → Type 0
AreWide width es = All (λ e. length e.row ≡ width) es

-- the rows of each stream have as many values as its schema has columns; those of a number that is no stream's have none
abbrev pub FitStreams : List StreamDef → Sources → Type 0
FitStreams streams source = (s : ℕ) → AreWide (length (kinds_of_stream streams s)) (source s)
