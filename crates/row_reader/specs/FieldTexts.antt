-- The fields of lines.
use Rattle.std.specs.Prelude.{ℕ, nat_lt, true, false, cond, List, [], ◌∷◌, codes, decimal}
use Rattle.tw_rows.specs.Instant.{inf}
use Rattle.tw_rows.specs.Rows.{Row}
use Rattle.tw_rows.specs.declared.kind.Kind.{Kind}
use Rattle.tw_rows.specs.declared.kind.Kind.TheVariants as kinds
use Rattle.tw_rows.specs.declared.row.Value.{Value}
use Rattle.tw_rows.specs.declared.row.Value.TheVariants.{Int, Bool as Flag, Text}
use Rattle.row_reader.specs.NumberTexts.{number_text}
use Rattle.row_reader.specs.declared.form.Form.{Form}
use Rattle.row_reader.specs.declared.form.Form.TheVariants as forms

-- the places of a column's numbers: 2 for dec(2), and 0 where it is no decimal
abbrev pub places_of : Kind → ℕ
places_of kinds.Int = 0
places_of kinds.Bool = 0
places_of kinds.Text = 0
places_of (kinds.Dec k) = k

-- a value in a column of a kind: a number with the places of the kind, a truth value by its name, a text as it stands.
-- In a column dec(2) the number 150 is `1.50`, and in a column int it is `150`
abbrev pub value_text : Kind → Value → List ℕ
value_text kind (Int x) = number_text (places_of kind) x
value_text kind (Flag true) = codes "true"
value_text kind (Flag false) = codes "false"
value_text kind (Text t) = t

-- the values of a row, each by the kind of its column
abbrev pub row_texts : List Kind → List Value → List (List ℕ)
row_texts [] values = []
row_texts (k ∷ ks) [] = []
row_texts (k ∷ ks) (v ∷ vs) = value_text k v ∷ row_texts ks vs

-- an instant as its decimal, and infinity as `inf`
abbrev pub time_text : ℕ → List ℕ
time_text t = cond (nat_lt t inf) (decimal t) (codes "inf")

abbrev pub form_text : Form → List ℕ
form_text forms.Interval = codes "interval"
form_text forms.Start = codes "start"
form_text forms.End = codes "end"

-- of an event: the stream's name, the form, both times, and then the values
abbrev pub event_fields : List Kind → List ℕ → Form → ℕ → ℕ → Row → List (List ℕ)
event_fields kinds name form sync other row = name ∷ form_text form ∷ time_text sync ∷ time_text other ∷ row_texts kinds row

-- of the output: the start of a row, whose end is not known yet, and the end of one that began at `start`. A row of 7 that
-- starts at 3 and ends at 9 gives `out,start,3,inf,7` and `out,end,9,3,7`
abbrev pub start_fields : List Kind → ℕ → Row → List (List ℕ)
start_fields kinds at row = event_fields kinds (codes "out") forms.Start at inf row

abbrev pub end_fields : List Kind → ℕ → ℕ → Row → List (List ℕ)
end_fields kinds at start row = event_fields kinds (codes "out") forms.End at start row

-- of a punctuation: the stream's name, or `*`, then `punct` and the time
abbrev pub punctuation_fields : List ℕ → ℕ → List (List ℕ)
punctuation_fields name time = name ∷ codes "punct" ∷ time_text time ∷ []
