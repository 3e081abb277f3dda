-- What a run has done that reads a checkpoint and goes on from it, by its status.
use Rattle.std.specs.Prelude.{◌≡◌, ◌<◌, ◌≤◌, ◌+◌, ◌⊎◌, ◌++◌, ℕ, Bool, true, false, List, [], ◌∷◌, Err, take, length, All}
use Rattle.wire_lines.specs.Journal.{Entry, ins, outs, ended}
use Rattle.wire_lines.specs.Lines.{lines, whole, rest}
use Rattle.plan_model.specs.IsPlan.{PlanParts}
use Rattle.admission.specs.Entries.{Told}
use Rattle.admission.specs.declared.policy.Policy.{Policy}
use Rattle.frozen_state.specs.Frozen.{FrozenView}
use Rattle.checkpoint.specs.Form.{FormView}
use Rattle.checkpoint.specs.Text.{checkpoint_lines, IsOfForm, BeginsText, IsUnfinished}
use Rattle.tw_rows.specs.declared.schema.StreamDef.{StreamDef}
use Rattle.row_reader.specs.declared.entry.BadLine.{BadLine}
use Rattle.row_reader.specs.declared.entry.BadLine.TheVariants as causes
use Rattle.tempo_cli.specs.Table.{limit, Ends}
use Rattle.tempo_cli.specs.Told.{entry_at}
use Rattle.tempo_cli.specs.Resumed.{resumed}
use Rattle.tempo_cli.specs.Freezing.{Froze, IsShort}
use Rattle.tempo_cli.specs.declared.status.Status.{Status}
use Rattle.tempo_cli.specs.declared.status.Status.TheVariants.{Done, BadWords, BadQuery, Malformed, Late, Overflow}
use Rattle.tempo_cli.specs.declared.status.Status.TheVariants.{InputTooLong, ReadFault, WriteFault, Memory}
use Rattle.tempo_cli.specs.declared.status.Status.TheVariants.{BadCheckpoint}

-- the lines C stand in front of the lines
abbrev pub AreFront : List (List ℕ) → List (List ℕ) → Type 0
AreFront C lines = (rest : List (List ℕ)) × (lines ≡ C ++ rest)

-- they begin a checkpoint of the form, and are not all of one, and none is longer than a line may be
pub record IsBegun (form : FormView) (lines : List (List ℕ)) : Type 0 where
  pub unfinished : IsUnfinished form lines
  pub short : All IsShort lines

-- the checkpoint of this stands in front of the lines
pub record IsReadBack (form : FormView) (f : FrozenView) (lines : List (List ℕ)) : Type 0 where
  pub of_form : IsOfForm form f
  pub short : All IsShort (checkpoint_lines form.head f)
  pub front : AreFront (checkpoint_lines form.head f) lines

-- line n is longer than a line may be, or no checkpoint of the form goes on with it
pub record IsNoLine (form : FormView) (lines : List (List ℕ)) (n : ℕ) : Type 0 where
  pub before : List (List ℕ)
  pub line : List ℕ
  pub front : AreFront (before ++ line ∷ []) lines
  pub number : n ≡ length before + 1
  pub begun : IsBegun form before
  pub refused : (65536 < length line) ⊎ (BeginsText form (before ++ line ∷ []) → ⊥)

-- line n is the last one of a checkpoint, but an engine of the plan can't be at work so
pub record IsNoState (form : FormView) (IsState : FrozenView → Type 0) (lines : List (List ℕ)) (n : ℕ) : Type 0 where
  pub frozen : FrozenView
  pub read : IsReadBack form frozen lines
  pub number : n ≡ length (checkpoint_lines form.head frozen)
  pub refused : IsState frozen → ⊥

-- the input ends with line n - 1, and before its checkpoint does
pub record IsBrokenOff (form : FormView) (lines : List (List ℕ)) (ended : Bool) (n : ℕ) : Type 0 where
  pub at_end : ended ≡ true
  pub number : n ≡ length lines + 1
  pub begun : IsBegun form lines

-- the checkpoint is not whole, and refused at line n. Of a fifth line `#bound,x` it is so at line 5; of eight lines without `#end`,
-- at line 9
abbrev pub IsNotWhole : FormView → List (List ℕ) → Bool → ℕ → Type 0
IsNotWhole form lines ended n = IsNoLine form lines n ⊎ IsBrokenOff form lines ended n

-- it is refused at line n
abbrev pub IsRefusedAt : FormView → (FrozenView → Type 0) → List (List ℕ) → Bool → ℕ → Type 0
IsRefusedAt form IsState lines ended n = IsNotWhole form lines ended n ⊎ IsNoState form IsState lines n

-- the checkpoint is refused among the first 2^40 bytes, and nothing was written
pub record IsBadCheckpoint (form : FormView) (IsState : FrozenView → Type 0) (n : ℕ) (J : List Entry) : Type 0 where
  pub within : IsRefusedAt form IsState (lines (take limit (ins J)) (ended J)) (ended J) n
  pub first : IsRefusedAt form IsState (lines (ins J) (ended J)) (ended J) n
  pub unwritten : outs J ≡ []

-- a checkpoint of a state came in whole before anything was written
pub record HasRestored (form : FormView) (IsState : FrozenView → Type 0) (J : List Entry) : Type 0 where
  pub frozen : FrozenView
  pub state : IsState frozen
  pub front : List Entry
  pub back : List Entry
  pub are : J ≡ front ++ back
  pub read : IsReadBack form frozen (lines (ins front) (ended front))
  pub unwritten : outs front ≡ []

-- nothing was written, or that after a checkpoint came in
abbrev pub IsSilent : FormView → (FrozenView → Type 0) → List Entry → Type 0
IsSilent form IsState J = (outs J ≡ []) ⊎ HasRestored form IsState J

-- the line of that number is bad for this cause, or it is an end without an open start, of which only an engine knows
abbrev pub IsCause : List StreamDef → ℕ → List ℕ → BadLine → Type 0
IsCause streams number line cause = (cause ≡ causes.NoStart) ⊎ (entry_at streams false number line ≡ Err cause)

-- behind a checkpoint whose last line before it has the number `last`, line n is bad for this cause. Where `last` is 2, the second
-- line behind it is line 4
pub record IsBadLine (streams : List StreamDef) (last : ℕ) (behind : List (List ℕ)) (n : ℕ) (cause : BadLine) : Type 0 where
  pub before : List (List ℕ)
  pub line : List ℕ
  pub front : AreFront (before ++ line ∷ []) behind
  pub number : n ≡ last + length before + 1
  pub cause_is : IsCause streams n line cause

-- a checkpoint of a state came in whole before anything was written, and a line behind it is bad
pub record IsMalformed (form : FormView) (IsState : FrozenView → Type 0) (streams : List StreamDef) (n : ℕ) (cause : BadLine)
    (J : List Entry) : Type 0 where
  pub restored : HasRestored form IsState J
  pub behind : List (List ℕ)
  pub lines_are : lines (ins J) (ended J) ≡ checkpoint_lines form.head restored.frozen ++ behind
  pub bad : IsBadLine streams restored.frozen.lines behind n cause

-- one byte more than the input may have came in; where no checkpoint did, the lines before it are of one that goes on
pub record IsOverfull (form : FormView) (IsState : FrozenView → Type 0) (J : List Entry) : Type 0 where
  pub long : length (ins J) ≡ limit + 1
  pub silent : ((outs J ≡ []) × IsBegun form (whole (take limit (ins J))) × (length (rest (take limit (ins J))) ≤ 65536)) ⊎ HasRestored form IsState J

-- whatever came in: while it holds no whole checkpoint nothing is written, and no status tells of what is behind it
abbrev pub IsUnclaimed : FormView → (FrozenView → Type 0) → List StreamDef → Status → List Entry → Type 0
IsUnclaimed form IsState streams Done J = HasRestored form IsState J
IsUnclaimed form IsState streams BadWords J = ⊥
IsUnclaimed form IsState streams (BadQuery fault) J = ⊥
IsUnclaimed form IsState streams (Malformed line cause) J = IsMalformed form IsState streams line cause J
IsUnclaimed form IsState streams (Late line time bound) J = HasRestored form IsState J
IsUnclaimed form IsState streams (Overflow punct node time) J = HasRestored form IsState J
IsUnclaimed form IsState streams InputTooLong J = IsOverfull form IsState J
IsUnclaimed form IsState streams ReadFault J = IsSilent form IsState J
IsUnclaimed form IsState streams WriteFault J = HasRestored form IsState J
IsUnclaimed form IsState streams Memory J = IsSilent form IsState J
IsUnclaimed form IsState streams (BadCheckpoint line) J = IsBadCheckpoint form IsState line J

-- where the lines begin with a checkpoint of lines before it, the run is one over those lines and the ones behind it; and whatever
-- came in, it is safe
pub record Resumes (form : FormView) (Fits : List Told → FrozenView → Type 0) (IsState : FrozenView → Type 0) (plan : PlanParts) (policy : Policy)
    (status : Status) (J : List Entry) : Type 0 where
  pub resumed : (before : List Told) (C : List (List ℕ)) → Froze form (Fits before) C → AreFront C (lines (ins J) (ended J)) →
      Ends (resumed plan policy before (length C)) status J
  pub unclaimed : IsUnclaimed form IsState plan.streams status J
