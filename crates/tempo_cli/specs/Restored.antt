-- What private contracts say of a checkpoint that is being read.
use Rattle.std.specs.Prelude.{◌≡◌, ◌≤◌, ◌<◌, ◌+◌, ℕ, Bool, true, false, Option, Some, None, Result, Ok, Err, List, [], ◌∷◌, ◌++◌, take, length, All}
use Rattle.wire_lines.specs.Journal.{Entry, IsOut, ins, outs, ended}
use Rattle.wire_lines.specs.Cutter.{CutterState}
use Rattle.wire_lines.specs.Lines.{lines, whole, rest}
use Rattle.plan_model.specs.IsPlan.{PlanParts, IsPlan}
use Rattle.admission.specs.Entries.{Told, AreRead}
use Rattle.admission.specs.Progress.{fault}
use Rattle.admission.specs.declared.policy.Policy.{Policy}
use Rattle.frozen_state.specs.Frozen.{FrozenView}
use Rattle.frozen_state.specs.Forms.{AreApart}
use Rattle.checkpoint.specs.Form.{FormView}
use Rattle.checkpoint.specs.Text.{checkpoint_lines, IsOfForm, BeginsText, IsUnfinished}
use Rattle.checkpoint.specs.Taking.{ReaderView, lines_taken}
use Rattle.checkpoint.specs.declared.reading.ReadingStage.TheVariants.{Ended}
use Rattle.tempo_engine.specs.Fed.{last_number}
use Rattle.tempo_cli.specs.Answers.{Answers}
use Rattle.tempo_cli.specs.Table.{limit, IsPrompt}
use Rattle.tempo_cli.specs.Freezing.{IsShort}
use Rattle.tempo_cli.specs.Restoring.{AreFront, IsBegun, IsNotWhole}
use Rattle.tempo_cli.specs.Feeding.{Asked, answers_to, Ended as HasEnded, HasCut, LineRules, IsOwn}
use Rattle.tempo_cli.specs.Working.{Reading, MayCome, EndsFor}
use Rattle.tempo_cli.specs.declared.answering.Answering.{Answering}
use Rattle.tempo_cli.specs.declared.status.Status.{Status}
use Rattle.tempo_cli.specs.declared.status.Status.TheVariants.{InputTooLong, ReadFault, Memory, BadCheckpoint}
use Rattle.tempo_cli.specs.declared.resuming.Restoring.{Restoring}
use Rattle.tempo_cli.specs.declared.resuming.Part.{Part}
use Rattle.tempo_cli.specs.declared.resuming.Part.TheVariants as parts

-- the reader was given these lines of the bytes, and wants more of them
pub record Reads (form : FormView) (bytes : List ℕ) (given : List (List ℕ)) (r : Restoring) : Type 0 where
  pub within : HasCut bytes given r.cutter
  pub form_is : r.reader.form ≡ form
  pub taken : lines_taken r.reader ≡ given
  pub number : r.taken ≡ length given
  pub begun : IsBegun form given

-- the lines are a whole checkpoint of this
pub record IsWhole (form : FormView) (f : FrozenView) (lines : List (List ℕ)) : Type 0 where
  pub of_form : IsOfForm form f
  pub text : lines ≡ checkpoint_lines form.head f
  pub short : All IsShort lines

-- the cutter gave these lines of the bytes, which are a whole checkpoint of this
pub record HasRead (form : FormView) (f : FrozenView) (bytes : List ℕ) (given : List (List ℕ)) (r : Restoring) : Type 0 where
  pub within : HasCut bytes given r.cutter
  pub number : r.taken ≡ length given
  pub whole : IsWhole form f given

-- the line of that number, given to a reader: it goes on; or it has all of what was frozen; or it refuses the line
abbrev pub TakesLine : ReaderView → ℕ → List ℕ → Result (Option FrozenView) Status → ReaderView → Type 0
TakesLine old number line (Ok None) new =
    (lines_taken new ≡ lines_taken old ++ line ∷ []) × IsUnfinished old.form (lines_taken new) × (new.form ≡ old.form)
TakesLine old number line (Ok (Some f)) new = (checkpoint_lines old.form.head f ≡ lines_taken old ++ line ∷ []) × IsOfForm old.form f
TakesLine old number line (Err (BadCheckpoint n)) new = (n ≡ number) × (BeginsText old.form (lines_taken old ++ line ∷ []) → ⊥)
TakesLine old number line (Err Memory) new = Unit {0}
TakesLine old number line (Err status) new = ⊥

-- the status of a run that ends before its checkpoint does
abbrev pub IsRestoreEnd : FormView → Status → List ℕ → List (List ℕ) → Bool → Type 0
IsRestoreEnd form InputTooLong bytes given over =
    (length bytes ≡ limit + 1) × (whole (take limit bytes) ≡ given) × (length (rest (take limit bytes)) ≤ 65536)
IsRestoreEnd form ReadFault bytes given over = (over ≡ false) × (lines bytes over ≡ given)
IsRestoreEnd form Memory bytes given over = Unit {0}
IsRestoreEnd form (BadCheckpoint n) bytes given over =
    IsNotWhole form (lines (take limit bytes) over) over n × IsNotWhole form (lines bytes over) over n
IsRestoreEnd form status bytes given over = ⊥

-- whatever lines of whatever bytes were taken
abbrev pub WhateverTaken : Restoring → (FormView → List ℕ → List (List ℕ) → Type 0) → Type 0
WhateverTaken r P =
    (form : FormView) (bytes : List ℕ) (given : List (List ℕ)) → Reads form bytes given r → length bytes ≤ limit + 1 → P form bytes given

-- the run ends after these lines, which the reader took
pub record StopsAt (form : FormView) (status : Status) (bytes : List ℕ) (given : List (List ℕ)) (ended : Bool) : Type 0 where
  pub front : AreFront given (lines bytes ended)
  pub begun : IsBegun form given
  pub end : IsRestoreEnd form status bytes given ended

-- what the next line comes to
abbrev pub PartComes : FormView → List ℕ → List (List ℕ) → Restoring → Part → Type 0
PartComes form bytes given r parts.More = Reads form bytes given r
PartComes form bytes given r parts.Taken = (line : List ℕ) × Reads form bytes (given ++ line ∷ []) r
PartComes form bytes given r (parts.Whole f) = (line : List ℕ) × HasRead form f bytes (given ++ line ∷ []) r
PartComes form bytes given r (parts.Stop status) = (ended : Bool) → StopsAt form status bytes given ended

-- after a line fewer bytes are left
abbrev pub HasFewer : CutterState → CutterState → Part → Type 0
HasFewer before now parts.Taken = length now.rest < length before.rest
HasFewer before now part = Unit {0}

-- the reader takes more lines, but after the last one and after a refusal
abbrev pub TakesMore : Restoring → Part → Type 0
TakesMore r parts.More = r.reader.stage ≡ Ended → ⊥
TakesMore r parts.Taken = r.reader.stage ≡ Ended → ⊥
TakesMore r part = Unit {0}

-- its status tells of no wire
abbrev pub IsOwnPart : Part → Type 0
IsOwnPart (parts.Stop status) = IsOwn status
IsOwnPart part = Unit {0}

-- what all whole lines that came in come to
abbrev pub PartsCome : FormView → List ℕ → List (List ℕ) → Restoring → Result (Option FrozenView) Status → Type 0
PartsCome form bytes given r (Ok None) = (more : List (List ℕ)) × AreFront given more × Reads form bytes more r
PartsCome form bytes given r (Ok (Some f)) = (more : List (List ℕ)) × AreFront given more × HasRead form f bytes more r
PartsCome form bytes given r (Err status) = (more : List (List ℕ)) × AreFront given more × ((ended : Bool) → StopsAt form status bytes more ended)

-- the answers ask nothing of the first k lines
pub record IsQuiet (a : Answers) (k : ℕ) : Type 0 where
  pub no_fault : (ls : List (List ℕ)) → length ls ≤ k → a.fault ls false ≡ None
  pub no_text : (ls : List (List ℕ)) → length ls ≤ k → a.text ls false ≡ []

-- what came in, and nothing went out: it is prompt for whatever is asked behind these lines
pub record IsHeard (given : List (List ℕ)) (J : List Entry) : Type 0 where
  pub unwritten : outs J ≡ []
  pub prompt : (a : Answers) → IsQuiet a (length given) → IsPrompt a J

-- before a read: all lines that came in were taken, and so many bytes may still come
pub record Awaits (form : FormView) (r : Restoring) (left : ℕ) (J : List Entry) : Type 0 where
  pub goes_on : ended J ≡ false
  pub given : List (List ℕ)
  pub reads : Reads form (ins J) given r
  pub heard : IsHeard given J
  pub count : length (ins J) + left ≡ limit + 1

-- a whole checkpoint came in, so many bytes may still come, or the input has ended
pub record CameIn (form : FormView) (f : FrozenView) (r : Restoring) (left : ℕ) (over : Bool) (J : List Entry) : Type 0 where
  pub ended_is : ended J ≡ over
  pub given : List (List ℕ)
  pub number : r.taken ≡ length given
  pub whole : IsWhole form f given
  pub within : over ≡ false → HasCut (ins J) given r.cutter
  pub all : over ≡ true → (lines (ins J) true ≡ given) × (length (ins J) ≤ limit)
  pub heard : IsHeard given J
  pub count : length (ins J) + left ≡ limit + 1

-- or the run ended before
pub record BreaksOff (form : FormView) (status : Status) (J : List Entry) : Type 0 where
  pub given : List (List ℕ)
  pub stops : StopsAt form status (ins J) given (ended J)
  pub heard : IsHeard given J

-- what fits some lines: they are lines without fault, and it is a state. No two parts of the form are of the same owner and shard
pub record IsFitting (form : FormView) (Fits : List Told → FrozenView → Type 0) (IsState : FrozenView → Type 0)
    (plan : PlanParts) (policy : Policy) : Type 0 where
  pub apart : AreApart form.parts
  pub sound : (before : List Told) (f : FrozenView) → Fits before f → IsPlan plan
  pub read : (before : List Told) (f : FrozenView) → Fits before f → AreRead (length plan.streams) before
  pub fine : (before : List Told) (f : FrozenView) → Fits before f → fault plan policy before false ≡ None
  pub number : (before : List Told) (f : FrozenView) → Fits before f → f.lines ≡ last_number before
  pub state : (before : List Told) (f : FrozenView) → Fits before f → IsState f

-- an engine goes on from what was read back: so many bytes may still come, or the input has ended
pub record GoesOnFrom (q : Asked) (s : Answering) (left : ℕ) (over : Bool) (J : List Entry) : Type 0 where
  pub prompt : IsPrompt (answers_to q) J
  pub ended_is : ended J ≡ over
  pub reading : over ≡ false → Reading q s left J
  pub all : over ≡ true → HasEnded q (ins J) (outs J) s

-- whatever the engine is that goes on: it has no fault, and so many bytes may still come, or the input has ended
pub record StandsBehind (k : LineRules) (s : Answering) (left : ℕ) (over : Bool) (J : List Entry) : Type 0 where
  pub fine : s.engine.fault ≡ None
  pub may_come : over ≡ false → MayCome k s left J

-- and whatever is written behind it
pub record GrewBy (k : LineRules) (over : Bool) (status : Status) (J K : List Entry) : Type 0 where
  pub reason : EndsFor k status (J ++ K)
  pub outs_alone : over ≡ true → All IsOut K
