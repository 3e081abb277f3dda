-- Which rows and times a line may say.
use Rattle.std.specs.Prelude.{◌≡◌, ◌<◌, ◌^◌, ◌⊎◌, ℕ, true, List, [], ◌∷◌, map}
use Rattle.tw_rows.specs.Instant.{inf}
use Rattle.tw_rows.specs.Rows.{Row}
use Rattle.tw_rows.specs.Kinds.{FitsKind}
use Rattle.tw_rows.specs.declared.kind.Kind.{Kind}
use Rattle.tw_rows.specs.declared.row.Value.{Value}
use Rattle.tw_rows.specs.declared.row.Value.TheVariants.{Int, Bool as Flag, Text}
use Rattle.tw_rows.specs.declared.schema.ColumnDef.{ColumnDef}
use Rattle.row_reader.specs.declared.form.Form.{Form}
use Rattle.row_reader.specs.declared.form.Form.TheVariants as forms
use Rattle.row_reader.specs.Number.{fits_i64}

abbrev pub kinds_of : List ColumnDef → List Kind
kinds_of columns = map (λ c. c.kind) columns

-- a number has 64 bits with a sign
abbrev pub IsValue : Value → Type 0
IsValue (Int x) = fits_i64 x ≡ true
IsValue (Flag b) = Unit {0}
IsValue (Text t) = Unit {0}

-- for each column a value that fits its kind
abbrev pub IsRowOf : List ColumnDef → Row → Type 0
IsRowOf [] [] = Unit {0}
IsRowOf [] (v ∷ vs) = ⊥
IsRowOf (c ∷ cs) [] = ⊥
IsRowOf (c ∷ cs) (v ∷ vs) = FitsKind v c.kind × IsValue v × IsRowOf cs vs

-- an event time or infinity
abbrev pub IsEnd : ℕ → Type 0
IsEnd t = (t < 2 ^ 60) ⊎ (t ≡ inf)

-- event times, the start below the end; an interval may end at infinity, and a start always does
abbrev pub AreTimes : Form → ℕ → ℕ → Type 0
AreTimes forms.Interval start end = (start < 2 ^ 60) × IsEnd end × (start < end)
AreTimes forms.Start start end = (start < 2 ^ 60) × (end ≡ inf)
AreTimes forms.End end start = (end < 2 ^ 60) × (start < end)
