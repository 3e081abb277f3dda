-- How a reader goes from line to line.
use Rattle.std.specs.Prelude.{ℕ, ◌+◌, nat_lt, Option, Some, None, option_map, option_and_then, List, [], ◌∷◌, ◌++◌, length, map, drop, slice_get, if◌then◌else◌}
use Rattle.std.specs.List.{position_from}
use Rattle.tw_rows.specs.declared.kind.CellKind.{CellKind}
use Rattle.row_reader.specs.Number.{same_text}
use Rattle.row_reader.specs.Fields.{commas}
use Rattle.frozen_state.specs.declared.frozen.FrozenPart.{FrozenPart}
use Rattle.frozen_state.specs.Frozen.{FrozenView, with_entry}
use Rattle.frozen_state.specs.Forms.{PartFormView, is_form_of}
use Rattle.checkpoint.specs.declared.owner.EntryPart.{EntryPart}
use Rattle.checkpoint.specs.Lines.{end_line}
use Rattle.checkpoint.specs.Reading.{time_of, bound_of, text_of, part_of, entry_of}
use Rattle.checkpoint.specs.declared.reading.ReadingStage.{ReadingStage}
use Rattle.checkpoint.specs.declared.reading.ReadingStage.TheVariants.{Head, Texts, Entries, Ended}
use Rattle.checkpoint.specs.Form.{FormView}

-- where a reader stands, and what it read
pub record State : Type 0 where
  pub stage : ReadingStage
  pub frozen : FrozenView

abbrev pub standing : ReadingStage → FrozenView → State
standing stage f = record { stage = stage; frozen = f }

-- parts without entries
abbrev pub empty_parts : List PartFormView → List FrozenPart
empty_parts parts = map (λ g. record { owner = g.owner; shard = g.shard; saved = [] }) parts

-- before the first line
abbrev pub opening : FormView → FrozenView
opening form = record { lines = 0; last = 0; bounds = []; marks = []; texts = []; parts = empty_parts form.parts }

-- once n of the first lines were read: the line is the next one of them, or tells the times behind them
abbrev pub head_step : FrozenView → ℕ → List ℕ → Option (List ℕ) → Option State
head_step f n line (Some first) = if same_text line first then Some (standing (Head (n + 1)) f) else None
head_step f n line None = option_map (λ t. standing Texts (record f { lines = t.0; last = t.1 })) (time_of line)

-- it tells of a stream
abbrev pub bound_step : FrozenView → List ℕ → Option State
bound_step f line = option_map (λ t. standing Texts (record f { bounds = f.bounds ++ t.0 ∷ []; marks = f.marks ++ t.1 ∷ [] })) (bound_of line)

-- how the cells are stored in that part of the part of number k
abbrev pub kinds_in : List PartFormView → ℕ → ℕ → Option (List CellKind)
kinds_in parts k part = option_and_then (λ g. slice_get g.rows part) (slice_get parts k)

-- it tells an entry of the part of number k, with cells of these kinds
abbrev pub cells_step : FrozenView → ℕ → List ℕ → List CellKind → Option State
cells_step f k line kinds = option_map (λ x. standing (Entries k) (record f { parts = with_entry k x.entry f.parts })) (entry_of kinds line)

abbrev pub placed_step : FormView → FrozenView → List ℕ → EntryPart → ℕ → Option State
placed_step form f line p k = option_and_then (cells_step f k line) (kinds_in form.parts k p.part)

-- the number of the first part of that owner and shard, from a number on
abbrev pub place_of : List PartFormView → ℕ → EntryPart → Option ℕ
place_of parts from p = position_from (is_form_of p.owner p.shard) from (drop from parts)

-- it tells an entry of one of the parts from a number on
abbrev pub entry_step : FormView → FrozenView → ℕ → List ℕ → Option State
entry_step form f from line = option_and_then (λ p. option_and_then (placed_step form f line p) (place_of form.parts from p)) (part_of (commas line))

-- it tells a text, or the first entry
abbrev pub text_step : FormView → FrozenView → List ℕ → Option (List ℕ) → Option State
text_step form f line (Some text) = Some (standing Texts (record f { texts = f.texts ++ text ∷ [] }))
text_step form f line None = entry_step form f 0 line

-- one line more: None where no text of this form goes on so
abbrev pub step_at : FormView → FrozenView → List ℕ → ReadingStage → Option State
step_at form f line (Head n) = head_step f n line (slice_get form.head n)
step_at form f line Texts =
    if nat_lt (length f.bounds) form.streams then bound_step f line
    else (if same_text line end_line then Some (standing Ended f) else text_step form f line (text_of line))
step_at form f line (Entries from) = if same_text line end_line then Some (standing Ended f) else entry_step form f from line
step_at form f line Ended = None

abbrev pub step : FormView → List ℕ → State → Option State
step form line s = step_at form s.frozen line s.stage

-- one line after the other
abbrev pub reads : FormView → Option State → List (List ℕ) → Option State
reads form s [] = s
reads form s (line ∷ lines) = reads form (option_and_then (step form line) s) lines
