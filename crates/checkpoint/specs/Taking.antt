-- What a reader took.
use Rattle.std.specs.Prelude.{◌≡◌, ◌<◌, ◌≤◌, ℕ, ◌+◌, Some, List, [], ◌∷◌, ◌++◌, length, take, drop}
use Rattle.frozen_state.specs.Frozen.{FrozenView}
use Rattle.frozen_state.specs.Forms.{AreApart}
use Rattle.checkpoint.specs.declared.reading.ReadingStage.{ReadingStage}
use Rattle.checkpoint.specs.declared.reading.ReadingStage.TheVariants.{Head, Texts, Entries, Ended}
use Rattle.checkpoint.specs.declared.reader.Taken.{Taken}
use Rattle.checkpoint.specs.declared.reader.Taken.TheVariants.{More, Whole}
use Rattle.checkpoint.specs.Form.{FormView}
use Rattle.checkpoint.specs.Text.{body_lines, checkpoint_lines, entry_lines, IsReadSoFar, IsOfForm, BeginsText}
use Rattle.checkpoint.specs.Steps.{standing, empty_parts, opening, reads}

-- what contracts see of a reader: the form, where it stands, and what it read so far
pub record ReaderView : Type 0 where
  pub form : FormView
  pub stage : ReadingStage
  pub frozen : FrozenView

-- the lines that lead to it
abbrev pub lines_at : FormView → FrozenView → ReadingStage → List (List ℕ)
lines_at form f (Head n) = take n form.head
lines_at form f Texts = body_lines form.head f
lines_at form f (Entries k) = body_lines form.head f
lines_at form f Ended = checkpoint_lines form.head f

-- the lines that a reader took
abbrev pub lines_taken : ReaderView → List (List ℕ)
lines_taken r = lines_at r.form r.frozen r.stage

-- behind the texts no entry was read
pub record IsBeforeEntries (form : FormView) (f : FrozenView) : Type 0 where
  pub read : IsReadSoFar form f
  pub no_text : length f.bounds < form.streams → f.texts ≡ []
  pub no_entry : f.parts ≡ empty_parts form.parts

-- the last entry is of the part of number k
pub record IsAmongEntries (form : FormView) (f : FrozenView) (k : ℕ) : Type 0 where
  pub of_form : IsOfForm form f
  pub none_behind : entry_lines (drop (k + 1) f.parts) ≡ []

-- what was read can stand so
abbrev pub IsAt : FormView → FrozenView → ReadingStage → Type 0
IsAt form f (Head n) = (n ≤ length form.head) × (f ≡ opening form)
IsAt form f Texts = IsBeforeEntries form f
IsAt form f (Entries k) = IsAmongEntries form f k
IsAt form f Ended = IsOfForm form f

-- the lines that lead to it do so
pub record IsTaking (form : FormView) (f : FrozenView) (stage : ReadingStage) : Type 0 where
  pub apart : AreApart form.parts
  pub stands : IsAt form f stage
  pub led : reads form (Some (standing (Head 0) (opening form))) (lines_at form f stage) ≡ Some (standing stage f)

-- a reader that has not given all can go on
abbrev pub CanTake : FormView → FrozenView → ReadingStage → Type 0
CanTake form f (Head n) = IsTaking form f (Head n)
CanTake form f Texts = IsTaking form f Texts
CanTake form f (Entries k) = IsTaking form f (Entries k)
CanTake form f Ended = Unit {0}

-- More: it took the line, and with it the lines begin a text of the form. Whole: they are the text of what it gives
abbrev pub HasTaken : ReaderView → List ℕ → Taken → ReaderView → Type 0
HasTaken old line More new = (lines_taken new ≡ lines_taken old ++ line ∷ []) × BeginsText old.form (lines_taken new)
HasTaken old line (Whole f) new = (checkpoint_lines old.form.head f ≡ lines_taken old ++ line ∷ []) × IsOfForm old.form f
