-- What private contracts say of a run in the midst of its lines.
use Rattle.std.specs.Prelude.{◌<◌, ◌^◌, Bool, Option, ◌≡◌, ◌⊎◌, ◌≤◌, ◌+◌, ◌++◌, ℕ, min, true, false, List, [], ◌∷◌, length, Result, Ok, Err}
use Rattle.wire_lines.specs.Journal.{Entry, Did, Grows, ins, outs, ended}
use Rattle.wire_lines.specs.Cutter.{CutterState}
use Rattle.wire_lines.specs.Lines.{whole}
use Rattle.frozen_state.specs.Frozen.{FrozenView}
use Rattle.checkpoint.specs.Form.{FormView}
use Rattle.checkpoint.specs.Text.{checkpoint_lines, IsOfForm}
use Rattle.plan_model.specs.IsPlan.{PlanParts}
use Rattle.admission.specs.Entries.{Told}
use Rattle.command_line.specs.Words.{Asked}
use Rattle.tempo_engine.specs.Frozen.{Fits}
use Rattle.tempo_cli.specs.declared.answering.Answering.{Answering}
use Rattle.tempo_cli.specs.Restoring.{AreFront}
use Rattle.tempo_cli.specs.Table.{limit, IsPrompt, IsShort}
use Rattle.tempo_cli.specs.Feeding.{Holds, WantsBytes}
use Rattle.tempo_cli.specs.Halting.{IsFormFor}
use Rattle.tempo_cli.specs.declared.status.Status.{Status}
use Rattle.tempo_cli.specs.declared.status.Status.TheVariants as statuses
use Rattle.tempo_cli.specs.Keeping.{Task, query_of, answers_of, KeepsAfter, Keeps, IsTimelyAfter, due_in, Places, place_lines, next_start}
use Rattle.tempo_cli.specs.declared.keeping.Keeper.{Keeper}
use Rattle.tempo_cli.specs.declared.reading.KeptState.{KeptState}
use Rattle.tempo_cli.specs.declared.kept_status.KeptStatus.{KeptStatus}
use Rattle.tempo_cli.specs.declared.kept_status.KeptStatus.TheVariants.{Ended, CheckpointFailed}

-- it is made for this task
pub record IsFor (t : Task) (k : Keeper) : Type 0 where
  pub form : IsFormFor t.asked.query k.answering.engine.parts.dataflow.workers (query_of t) k.form
  pub workers : k.answering.engine.parts.dataflow.workers ≡ t.asked.workers
  pub input : k.input ≡ t.start.input

-- these lines were taken of what came in, what they call for is the text, and so many lines were taken before each checkpoint. Its
-- count of the output's bytes counts all of the text, and is exact where it is one of 64 bits
pub record StandsAt (t : Task) (k : Keeper) (text : List ℕ) (J : List Entry) (given : List (List ℕ)) (counts : List ℕ) : Type 0 where
  pub is_for : IsFor t k
  pub prompt : IsPrompt (answers_of t) J
  pub holds : Holds (query_of t) (ins J) given k.answering
  pub written : text ≡ (answers_of t).text given false
  pub keeps : KeepsAfter t [] counts J
  pub few : length (ins J) ≤ limit + 1
  pub output : k.output ≡ min (t.start.output + length text) 18446744073709551615

-- all that they call for is written
abbrev pub Stands : Task → Keeper → List Entry → List (List ℕ) → List ℕ → Type 0
Stands t k J given counts = StandsAt t k (outs J) J given counts

-- nothing came in yet
abbrev pub Begun : Task → ℕ → Keeper → Type 0
Begun t every k = Stands t k [] [] [] × (k.every ≡ every)

-- the input goes on, what the lines taken call for is the text, and checkpoints were kept where they were due
pub record UnderAt (t : Task) (every : ℕ) (k : Keeper) (text : List ℕ) (J : List Entry) : Type 0 where
  pub given : List (List ℕ)
  pub stands : StandsAt t k text J given (due_in t every given (length given)).counts
  pub at : k.kept_at ≡ (due_in t every given (length given)).punct
  pub goes_on : ended J ≡ false
  pub every_is : k.every ≡ every
  pub timely : IsTimelyAfter t every [] J

-- all that they call for is written
abbrev pub Under : Task → ℕ → Keeper → List Entry → Type 0
Under t every k J = UnderAt t every k (outs J) J

-- or these last bytes of it are held, and all others are written
abbrev pub Owes : Task → ℕ → Keeper → List ℕ → List Entry → Type 0
Owes t every k held J = UnderAt t every k (outs J ++ held) J

-- before a read, where so many bytes may still come
pub record MayRead (t : Task) (every : ℕ) (k : Keeper) (left : ℕ) (J : List Entry) : Type 0 where
  pub under : Under t every k J
  pub count : length (ins J) + left ≡ limit + 1

-- the last checkpoint failed, or there was no memory for it
abbrev pub IsWanting : KeptStatus → Type 0
IsWanting status = (status ≡ CheckpointFailed) ⊎ (status ≡ Ended statuses.Memory)

-- it failed so after these lines, once it was kept or before
pub record Fails (t : Task) (given : List (List ℕ)) (counts : List ℕ) (J : List Entry) : Type 0 where
  pub prompt : IsPrompt (answers_of t) J
  pub short : IsShort (answers_of t) (ins J) (outs J) false
  pub came : AreFront given (whole (ins J))
  pub all : List ℕ
  pub keeps : KeepsAfter t [] all J
  pub one_more : (all ≡ counts) ⊎ (all ≡ counts ++ length given ∷ [])

-- a run started where its task says, and went on
abbrev pub StartsWith : Task → ℕ → Keeper → List Entry → Type 0
StartsWith t every k J = (J ≡ Did (next_start t.start) ∷ []) × Begun t every k

-- the places that a run goes on from, and what was frozen
abbrev pub IsReadAs : Places → FrozenView → Result KeptState Status → Type 0
IsReadAs places f (Ok state) = (state.frozen ≡ f) × (state.input ≡ places.input) × (state.output ≡ places.output)
IsReadAs places f (Err status) = status ≡ statuses.Memory

-- the lines begin with a checkpoint of this form
abbrev pub BeginsWith : FormView → FrozenView → List (List ℕ) → Type 0
BeginsWith form f lines = IsOfForm form f × AreFront (checkpoint_lines form.head f) lines

-- and behind the places it is what was read
pub record BeginsState (form : FormView) (lines : List (List ℕ)) (state : KeptState) : Type 0 where
  pub of_form : IsOfForm form state.frozen
  pub front : AreFront (place_lines (record { input = state.input; output = state.output }) ++ checkpoint_lines form.head state.frozen) lines

-- what was frozen is read back
abbrev pub IsFrozenAs : FrozenView → Result (FrozenView × ℕ) Status → Type 0
IsFrozenAs f (Ok read) = read.0 ≡ f
IsFrozenAs f (Err status) = status ≡ statuses.Memory

-- nothing came in or went out, the input goes on where it did, and there was no read
abbrev pub SaysSame : List Entry → List Entry → Type 0
SaysSame J K = (ins K ≡ ins J) × (outs K ≡ outs J) × (ended K ≡ ended J) × ((t : Task) (every : ℕ) → IsTimelyAfter t every [] J → IsTimelyAfter t every [] K)

-- it is as it was, but for its last checkpoint
abbrev pub IsAsBefore : Keeper → Keeper → Type 0
IsAsBefore old new = (new.answering ≡ old.answering) × (new.form ≡ old.form) × (new.every ≡ old.every) × (new.input ≡ old.input) × (new.output ≡ old.output)

-- whatever it is for: these lines were taken of what came in, and so many before each checkpoint
abbrev pub WhateverStands : Keeper → (Task → List Entry → List (List ℕ) → List ℕ → Type 0) → Type 0
WhateverStands k P = (t : Task) (J : List Entry) (given : List (List ℕ)) (counts : List ℕ) → Stands t k J given counts → P t J given counts

-- whatever of the text is written
abbrev pub WhateverText : Keeper → (Task → List Entry → List (List ℕ) → List ℕ → Type 0) → Type 0
WhateverText k P = (t : Task) (text : List ℕ) (J : List Entry) (given : List (List ℕ)) (counts : List ℕ) → StandsAt t k text J given counts → P t J given counts

-- whatever it is for, and what was done before
abbrev pub WhateverUnder : Keeper → (Task → ℕ → List Entry → Type 0) → Type 0
WhateverUnder k P = (t : Task) (every : ℕ) (J : List Entry) → Under t every k J → P t every J

-- the lines that came in were taken so far
abbrev pub TakesOn : Option (List Entry) → Option (List Entry) → Keeper → Keeper → Type 0
TakesOn before now old new = WhateverUnder old (λ t every J. Grows before now (λ K. Under t every new (J ++ K) × (ins (J ++ K) ≡ ins J)))

-- or one of them, or what it made due, ended the run
abbrev pub EndsAt : Option (List Entry) → Option (List Entry) → Keeper → KeptStatus → Type 0
EndsAt before now old status = WhateverUnder old (λ t every J. Grows before now (λ K. Keeps t every status (J ++ K)))

-- a line that came in was taken, or none is left: so much was held before, and so much is now
abbrev pub TakesHeld : Option (List Entry) → Option (List Entry) → Keeper → List ℕ → Keeper → List ℕ → Type 0
TakesHeld before now old held new after =
    (t : Task) (every : ℕ) (J : List Entry) → Owes t every old held J → Grows before now (λ K. Owes t every new after (J ++ K) × (ins (J ++ K) ≡ ins J))

-- or it ended the run
abbrev pub EndsHeld : Option (List Entry) → Option (List Entry) → Keeper → List ℕ → KeptStatus → Type 0
EndsHeld before now old held status = (t : Task) (every : ℕ) (J : List Entry) → Owes t every old held J → Grows before now (λ K. Keeps t every status (J ++ K))

-- a line was taken, and fewer bytes are left
abbrev pub HasFewer : CutterState → CutterState → Bool → Type 0
HasFewer before now true = length now.rest < length before.rest
HasFewer before now false = WantsBytes now

-- the checkpoint was read, which fits these lines; its lines are behind the byte of the input
abbrev pub HasThawed : Asked → PlanParts → ℕ → FrozenView → Result Answering KeptStatus → Type 0
HasThawed asked plan input f (Ok a) = (before : List Told) → Fits asked.workers plan asked.policy before f → f.lines ≤ 2 ^ 62 → (output : ℕ) →
    Holds (query_of (record { asked = asked; plan = plan; before = before; start = record { input = input; output = output } })) [] [] a
HasThawed asked plan input f (Err status) = (before : List Told) → Fits asked.workers plan asked.policy before f → status ≡ Ended statuses.Memory

-- what works for these words, before anything came in
pub record IsFresh (asked : Asked) (k : Answering) : Type 0 where
  pub wants : WantsBytes k.cutter
  pub going : k.engine.ended ≡ false
  pub workers : k.engine.parts.dataflow.workers ≡ asked.workers
