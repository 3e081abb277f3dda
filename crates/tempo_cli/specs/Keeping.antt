-- What a run has done that keeps checkpoints while its input goes on.
use Rattle.std.specs.Prelude.{◌≡◌, ◌⊎◌, ◌<◌, ◌^◌, ◌+◌, ◌++◌, ◌&&◌, ℕ, zero, suc, nat_le, nat_eq, cond, false, Option, Some, None, List, [], ◌∷◌, length, take}
use Rattle.wire_lines.specs.Journal.{Entry, In, Out, Did, Mark, Start, AtEnd, CutAt, Sync, Keep, Grows, ins, outs, ended}
use Rattle.wire_lines.specs.Lines.{whole, joined}
use Rattle.plan_model.specs.IsPlan.{PlanParts}
use Rattle.plan_model.specs.declared.fault.QueryFault.{QueryFault}
use Rattle.admission.specs.Entries.{Told}
use Rattle.admission.specs.Progress.{progress}
use Rattle.command_line.specs.Words.{Asked as Words}
use Rattle.checkpoint.specs.Lines.{input_line, output_line}
use Rattle.checkpoint.specs.Writing.{bytes_of}
use Rattle.checkpoint.specs.Text.{checkpoint_lines, IsOfForm}
use Rattle.frozen_state.specs.Frozen.{FrozenView}
use Rattle.kept_wire.specs.Calls.{Told as Disks}
use Rattle.kept_wire.specs.Disk.{Content, Absent, Written, Synced}
use Rattle.tempo_engine.specs.Frozen.{IsState}
use Rattle.tempo_cli.specs.Answers.{Answers, IsFront}
use Rattle.tempo_cli.specs.Jobs.{IsCheckpointOf, HasPlan, HasFault, form_asked}
use Rattle.tempo_cli.specs.Restoring.{AreFront}
use Rattle.tempo_cli.specs.Table.{IsPrompt}
use Rattle.tempo_cli.specs.Feeding.{Asked, answers_to, fed_by}
use Rattle.tempo_cli.specs.declared.status.Status.TheVariants as statuses
use Rattle.tempo_cli.specs.declared.kept_status.KeptStatus.{KeptStatus}
use Rattle.tempo_cli.specs.declared.kept_status.KeptStatus.TheVariants.{Ended, CheckpointFailed}
use Rattle.tempo_cli.specs.KeptStatus.{HasKeptReason, IsKeptEnd, IsRefusal}

-- how many bytes of the input, and of the output's file, are behind a run
pub record Places : Type 0 where
  pub input : ℕ
  pub output : ℕ

-- they are numbers of 64 bits
abbrev pub AreLow : Places → Type 0
AreLow p = (p.input < 2 ^ 64) × (p.output < 2 ^ 64)

-- the first lines of FILE, in front of a checkpoint: `#input,60` and `#output,25` where 60 bytes of the input and 25 of the output
-- are behind it
abbrev pub place_lines : Places → List (List ℕ)
place_lines p = input_line p.input ∷ output_line p.output ∷ []

-- what a run is for: what the words ask for, with the plan of the query; what the lines said that were taken before; and where it
-- starts. Of a first run no line was taken, and it starts behind what the output's file has
pub record Task : Type 0 where
  pub asked : Words
  pub plan : PlanParts
  pub before : List Told
  pub start : Places

-- a header stands at the start of an input alone
abbrev pub query_of : Task → Asked
query_of t = record { plan = t.plan; policy = t.asked.policy; header = nat_eq t.start.input 0 && t.asked.header; before = t.before; passed = 0 }

-- the fault and the text of its lines
abbrev pub answers_of : Task → Answers
answers_of t = answers_to (query_of t)

-- where a run is once it took these lines
abbrev pub places_after : Task → List (List ℕ) → Places
places_after t taken = record { input = t.start.input + length (joined taken); output = t.start.output + length ((answers_of t).text taken false) }

-- the task of a run that goes on from a checkpoint after these lines
abbrev pub task_after : Task → List (List ℕ) → Task
task_after t taken = record { asked = t.asked; plan = t.plan; before = fed_by (query_of t) taken; start = places_after t taken }

-- the bytes are a checkpoint from which a run of this task starts
pub record StartsTask (t : Task) (bytes : List ℕ) : Type 0 where
  pub C : List (List ℕ)
  pub froze : IsCheckpointOf t.asked t.plan t.before C
  pub low : AreLow t.start
  pub text : bytes ≡ bytes_of (place_lines t.start ++ C)

-- all that went out was brought to the disk since
pub record IsSynced (K : List Entry) : Type 0 where
  pub front : List Entry
  pub back : List Entry
  pub are : K ≡ front ++ Did Sync ∷ back
  pub silent : outs back ≡ []

-- a checkpoint may be kept: it is one after the first whole lines that came in, which have no fault; all that they call for is written,
-- and brought to the disk
pub record MayKeep (t : Task) (K : List Entry) (taken : List (List ℕ)) (bytes : List ℕ) : Type 0 where
  pub came : AreFront taken (whole (ins K))
  pub fine : (answers_of t).fault taken false ≡ None
  pub written : outs K ≡ (answers_of t).text taken false
  pub synced : IsSynced K
  pub starts : StartsTask (task_after t taken) bytes

-- each checkpoint of the entries, which came after K, might be kept; so many lines were taken before each. The run has started
abbrev pub KeepsAfter : Task → List Entry → List ℕ → List Entry → Type 0
KeepsAfter t K counts [] = counts ≡ []
KeepsAfter t K counts (In bytes ∷ J) = KeepsAfter t (K ++ In bytes ∷ []) counts J
KeepsAfter t K counts (Out bytes ∷ J) = KeepsAfter t (K ++ Out bytes ∷ []) counts J
KeepsAfter t K counts (Did (Start input output) ∷ J) = ⊥
KeepsAfter t K counts (Did Sync ∷ J) = KeepsAfter t (K ++ Did Sync ∷ []) counts J
KeepsAfter t K [] (Did (Keep bytes) ∷ J) = ⊥
KeepsAfter t K (count ∷ counts) (Did (Keep bytes) ∷ J) =
    ((taken : List (List ℕ)) × (count ≡ length taken) × MayKeep t K taken bytes) × KeepsAfter t (K ++ Did (Keep bytes) ∷ []) counts J

-- how many checkpoints were kept
abbrev pub kept_in : List Entry → ℕ
kept_in [] = 0
kept_in (In bytes ∷ J) = kept_in J
kept_in (Out bytes ∷ J) = kept_in J
kept_in (Did (Start input output) ∷ J) = kept_in J
kept_in (Did Sync ∷ J) = kept_in J
kept_in (Did (Keep bytes) ∷ J) = suc (kept_in J)

-- the last punctuation behind these lines
abbrev pub last_behind : Task → List (List ℕ) → ℕ
last_behind t taken = (progress t.plan t.asked.policy (fed_by (query_of t) taken) false).last

-- the punctuation of the last checkpoint, and behind how many lines each of them is
pub record Marks : Type 0 where
  pub punct : ℕ
  pub counts : List ℕ

-- where checkpoints are due in the first lines: at the start, and behind the first line at which the last punctuation is at least `every`
-- above that of the checkpoint before. Where it is 3, 8 and 9 behind lines 2, 5 and 6, and every is 5: 0 and 5
abbrev pub due : ℕ → (ℕ → ℕ) → ℕ → Marks
due every last zero = record { punct = last 0; counts = 0 ∷ [] }
due every last (suc k) = cond (nat_le ((due every last k).punct + every) (last (suc k)))
    (record { punct = last (suc k); counts = (due every last k).counts ++ suc k ∷ [] }) (due every last k)

abbrev pub due_in : Task → ℕ → List (List ℕ) → ℕ → Marks
due_in t every ls k = due every (λ n. last_behind t (take n ls)) k

-- behind how many lines checkpoints are due, the one at the end of the input with them
abbrev pub all_counts : Task → ℕ → List (List ℕ) → List ℕ
all_counts t every ls = (due_in t every ls (length ls)).counts ++ length ls ∷ []

-- they were kept where they were due; where the run failed, the first of them
abbrev pub IsPunctual : Task → ℕ → KeptStatus → List ℕ → List (List ℕ) → Type 0
IsPunctual t every (Ended statuses.Done) counts ls = counts ≡ all_counts t every ls
IsPunctual t every status counts ls = IsFront counts (all_counts t every ls)

-- before each read of the entries, which came after K, as many checkpoints were kept as are due in the whole lines that came in so far
abbrev pub IsTimelyAfter : Task → ℕ → List Entry → List Entry → Type 0
IsTimelyAfter t every K [] = Unit {0}
IsTimelyAfter t every K (In bytes ∷ J) =
    (kept_in K ≡ length (due_in t every (whole (ins K)) (length (whole (ins K)))).counts) × IsTimelyAfter t every (K ++ In bytes ∷ []) J
IsTimelyAfter t every K (Out bytes ∷ J) = IsTimelyAfter t every (K ++ Out bytes ∷ []) J
IsTimelyAfter t every K (Did mark ∷ J) = IsTimelyAfter t every (K ++ Did mark ∷ []) J

-- the run was prompt, and ended as its status says; and checkpoints were kept where they are due, before the next read. J is what came
-- after its start
pub record Keeps (t : Task) (every : ℕ) (status : KeptStatus) (J : List Entry) : Type 0 where
  pub prompt : IsPrompt (answers_of t) J
  pub end : IsKeptEnd (answers_of t) status (ins J) (outs J) (ended J)
  pub counts : List ℕ
  pub keeps : KeepsAfter t [] counts J
  pub punctual : IsPunctual t every status counts (whole (ins J))
  pub timely : IsTimelyAfter t every [] J

-- the run failed before its start
abbrev pub IsUnstarted : KeptStatus → List Entry → Type 0
IsUnstarted status J = (J ≡ []) × ((status ≡ CheckpointFailed) ⊎ (status ≡ Ended statuses.Memory))

-- the run started so, and then did this; or it failed before
abbrev pub RunsFrom : Mark → Task → ℕ → KeptStatus → List Entry → Type 0
RunsFrom mark t every status J = IsUnstarted status J ⊎ ((K : List Entry) × (J ≡ Did mark ∷ K) × Keeps t every status K)

-- the start of a first run, behind all of the output's file, which has so many bytes: nothing of it is cut
abbrev pub first_start : ℕ → Mark
first_start output = Start 0 (AtEnd output)

-- the start of a run that goes on at these places: the output's file is cut there
abbrev pub next_start : Places → Mark
next_start p = Start p.input (CutAt p.output)

-- a run that goes on where its task says
abbrev pub RunsOn : Task → ℕ → KeptStatus → List Entry → Type 0
RunsOn t every status J = RunsFrom (next_start t.start) t every status J

-- the bytes of FILE are those of a checkpoint from which a run of this task starts
pub record IsStartOf (t : Task) (bytes : List ℕ) : Type 0 where
  pub C : List (List ℕ)
  pub froze : IsCheckpointOf t.asked t.plan t.before C
  pub low : AreLow t.start
  pub lines_are : whole bytes ≡ place_lines t.start ++ C

-- a first run of what is asked for, behind so many bytes of the output's file
abbrev pub first_task : Words → PlanParts → ℕ → Task
first_task asked plan output = record { asked = asked; plan = plan; before = []; start = record { input = 0; output = output } }

-- the task of a run that goes on behind these lines, from these places
abbrev pub task_from : Words → PlanParts → List Told → Places → Task
task_from asked plan before start = record { asked = asked; plan = plan; before = before; start = start }

-- a first run, behind all that the output's file has
abbrev pub RunsFirst : Words → PlanParts → ℕ → KeptStatus → List Entry → Type 0
RunsFirst asked plan every status J = (output : ℕ) × RunsFrom (first_start output) (first_task asked plan output) every status J

-- a read gives these bytes of the file
abbrev pub HasBytes : Content → List ℕ → Type 0
HasBytes file bytes = (file ≡ Synced bytes) ⊎ (file ≡ Written bytes)

-- the bytes of FILE begin with places and a checkpoint of which an engine can be made for what is asked
pub record HasState (asked : Words) (plan : PlanParts) (bytes : List ℕ) : Type 0 where
  pub places : Places
  pub frozen : FrozenView
  pub of_form : IsOfForm (form_asked asked plan) frozen
  pub front : AreFront (place_lines places ++ checkpoint_lines (form_asked asked plan).head frozen) (whole bytes)
  pub state : IsState asked.workers plan frozen

-- what a run has done by FILE, whose disk was told before it. Without FILE it was a first one; from a checkpoint it went on; and
-- where FILE has no state of what is asked for, nothing came in or went out, and FILE was not touched
pub record RunsByFile (asked : Words) (plan : PlanParts) (every : ℕ) (told : Option Disks) (status : KeptStatus) (before now : Option (List Entry)) : Type 0 where
  pub first : (d : Disks) → told ≡ Some d → d.now.file ≡ Absent → Grows before now (RunsFirst asked plan every status)
  pub again : (d : Disks) → told ≡ Some d → (bytes : List ℕ) → HasBytes d.now.file bytes → (lines : List Told) (start : Places) →
      IsStartOf (task_from asked plan lines start) bytes → Grows before now (RunsOn (task_from asked plan lines start) every status)
  pub refused : (d : Disks) → told ≡ Some d → (bytes : List ℕ) → HasBytes d.now.file bytes → (HasState asked plan bytes → ⊥) →
      Grows before now (λ J. (J ≡ []) × IsRefusal status)

-- the query has this fault: nothing came in or went out
abbrev pub RunsNot : QueryFault → KeptStatus → List Entry → Type 0
RunsNot fault status J = (J ≡ []) × ((status ≡ Ended (statuses.BadQuery fault)) ⊎ (status ≡ Ended statuses.Memory))

-- what a run of these words has done, by whether their query has a plan, and how it ended
pub record RunsAsked (asked : Words) (every : ℕ) (told : Option Disks) (status : KeptStatus) (before now : Option (List Entry)) : Type 0 where
  pub reason : HasKeptReason asked.query status
  pub planned : (plan : PlanParts) → HasPlan asked.query plan → RunsByFile asked plan every told status before now
  pub unplanned : (fault : QueryFault) → HasFault asked.query fault → Grows before now (RunsNot fault status)

-- in a crash once a run did this, FILE with these bytes can be gone on from: a start reads them as a checkpoint after the first whole
-- lines that came in, and what these call for had gone out, and nothing else, when it was brought to the disk
pub record IsRecovered (t : Task) (K : List Entry) (bytes : List ℕ) : Type 0 where
  pub taken : List (List ℕ)
  pub came : AreFront taken (whole (ins K))
  pub fine : (answers_of t).fault taken false ≡ None
  pub starts : IsStartOf (task_after t taken) bytes
  pub front : List Entry
  pub back : List Entry
  pub are : K ≡ front ++ Did Sync ∷ back
  pub text : outs front ≡ (answers_of t).text taken false
