-- The times, values and words that fields spell.
use Rattle.std.specs.Prelude.{◌^◌, ℕ, Bool, true, false, List, Option, Some, None, if◌then◌else◌, nat_lt, option_map, codes}
use Rattle.tw_rows.specs.Instant.{inf}
use Rattle.tw_rows.specs.declared.kind.Kind.{Kind}
use Rattle.tw_rows.specs.declared.kind.Kind.TheVariants as kinds
use Rattle.tw_rows.specs.declared.row.Value.{Value}
use Rattle.tw_rows.specs.declared.row.Value.TheVariants.{Int, Bool as Flag, Text}
use Rattle.row_reader.specs.Number.{number_of, units_of, same_text}
use Rattle.row_reader.specs.declared.form.Form.{Form}
use Rattle.row_reader.specs.declared.form.Form.TheVariants as forms

-- a time that an event may have: below 2 ^ 60
abbrev pub time_of : List ℕ → Option ℕ
time_of text = number_of (2 ^ 60) text

-- infinity, written inf
unfoldable pub inf_of : List ℕ → Option ℕ
inf_of text = if same_text text (codes "inf") then Some inf else None

-- such a time or infinity
unfoldable pub end_of : List ℕ → Option ℕ
end_of text = if same_text text (codes "inf") then Some inf else time_of text

-- what the second field of an event line says
unfoldable pub form_of : List ℕ → Option Form
form_of text =
    if same_text text (codes "interval") then Some forms.Interval
    else if same_text text (codes "start") then Some forms.Start
    else if same_text text (codes "end") then Some forms.End
    else None

abbrev pub both : Option ℕ → Option ℕ → Option (ℕ × ℕ)
both None b = None
both (Some a) None = None
both (Some a) (Some b) = Some (a, b)

-- the third and fourth field of an event line: start and end of an interval, start and inf, or end and start
unfoldable pub times_of : Form → List ℕ → List ℕ → Option (ℕ × ℕ)
times_of forms.Interval start end = both (time_of start) (end_of end)
times_of forms.Start start end = both (time_of start) (inf_of end)
times_of forms.End end start = both (time_of end) (time_of start)

-- whether the event starts before it ends
abbrev pub is_alive : Form → ℕ → ℕ → Bool
is_alive forms.Interval start end = nat_lt start end
is_alive forms.Start start end = nat_lt start end
is_alive forms.End end start = nat_lt start end

-- the value of a kind that a text spells: `-3`, `true`, any text, or `-0.05` in a column dec(2)
unfoldable pub value_of : Kind → List ℕ → Option Value
value_of kinds.Int text = option_map Int (units_of 0 text)
value_of (kinds.Dec k) text = option_map Int (units_of k text)
value_of kinds.Bool text =
    if same_text text (codes "true") then Some (Flag true) else if same_text text (codes "false") then Some (Flag false) else None
value_of kinds.Text text = Some (Text text)
