-- What private contracts say of an engine and of a query that lines were fed to.
use Rattle.std.specs.Prelude.{◌≡◌, ◌+◌, ◌^◌, ◌≤◌, ◌<◌, ◌&&◌, ◌||◌, nat_eq, nat_lt, ℕ, suc, Bool, true, false, IsTrue, List, [], ◌∷◌, ◌++◌, Option}
use Rattle.std.specs.Prelude.{None, Some, Result, MatchResult, length, drop}
use Rattle.wire_lines.specs.Cutter.{CutterState}
use Rattle.wire_lines.specs.Cuts.{Cuts}
use Rattle.wire_lines.specs.Journal.{Entry, In, Adds}
use Rattle.wire_lines.specs.Reading.{count_of}
use Rattle.wire_lines.specs.Lines.{IsOneLine, lines}
use Rattle.plan_model.specs.IsPlan.{PlanParts}
use Rattle.admission.specs.Entries.{Told}
use Rattle.admission.specs.Progress.{start, steps, fault}
use Rattle.admission.specs.declared.policy.Policy.{Policy}
use Rattle.tempo_engine.specs.Fed.{Fed, last_number}
use Rattle.tempo_engine.specs.Output.{plan_text}
use Rattle.tempo_engine.specs.Went.{EngineView}
use Rattle.tempo_cli.specs.Answers.{Answers, IsFront}
use Rattle.tw_rows.specs.declared.schema.StreamDef.{StreamDef}
use Rattle.row_reader.specs.declared.entry.BadLine.{BadLine}
use Rattle.tempo_cli.specs.Restoring.{AreFront, IsCause}
use Rattle.tempo_cli.specs.Table.{limit, IsEnd}
use Rattle.tempo_cli.specs.Told.{told_from, fed_from}
use Rattle.tempo_engine.specs.declared.block.FedBlock.{FedBlock}
use Rattle.tempo_engine.specs.declared.fault.EngineFault.{EngineFault}
use Rattle.tempo_engine.specs.declared.fault.EngineFault.TheVariants as faults
use Rattle.tempo_cli.specs.declared.status.Status.{Status}
use Rattle.tempo_cli.specs.declared.status.Status.TheVariants as statuses
use Rattle.tempo_cli.specs.declared.answering.Answering.{Answering}
use Rattle.tempo_cli.specs.declared.answering.Step.{Step}
use Rattle.tempo_cli.specs.declared.answering.Step.TheVariants.{More, Out, Stop}

-- what is asked for: a plan, a policy, and whether line 1 is a header. And what was before: the lines that another run took, and how
-- many lines tell what it was frozen to
pub record Asked : Type 0 where
  pub plan : PlanParts
  pub policy : Policy
  pub header : Bool
  pub before : List Told
  pub passed : ℕ

-- of a run from its first line on, before which there was none
abbrev pub from_start : PlanParts → Policy → Bool → Asked
from_start plan policy header = record { plan = plan; policy = policy; header = header; before = []; passed = 0 }

-- what the lines say, behind those that tell what was frozen, after what the lines before said
abbrev pub said : Asked → List (List ℕ) → List Told
said q lines = q.before ++ told_from q.plan.streams q.header (suc (last_number q.before)) (drop q.passed lines)

-- and those of them that were fed
abbrev pub fed_by : Asked → List (List ℕ) → List Told
fed_by q lines = q.before ++ fed_from q.plan.streams q.header (suc (last_number q.before)) (drop q.passed lines)

abbrev pub answers_to : Asked → Answers
answers_to q = record {
  fault = λ lines ended. fault q.plan q.policy (said q lines) ended;
  text = λ lines ended. drop (length (plan_text q.plan q.policy q.before false)) (plan_text q.plan q.policy (said q lines) ended);
}

-- the engine was fed these lines, but for a header, which changes nothing
pub record Took (q : Asked) (given : List (List ℕ)) (e : EngineView) : Type 0 where
  pub fed : List Told
  pub is : fed ≡ fed_by q given
  pub took : Fed q.plan q.policy fed e
  pub same : steps q.plan q.policy start fed ≡ steps q.plan q.policy start (said q given)

-- the cutter has given these lines of the bytes, and none of them has a fault
pub record Within (a : Answers) (bytes : List ℕ) (given : List (List ℕ)) (c : CutterState) : Type 0 where
  pub longest : c.longest ≡ 65536
  pub total : c.total ≡ limit
  pub cuts : Cuts bytes c given
  pub fine : a.fault given false ≡ None

-- nothing is asked of any line
abbrev pub nothing : Answers
nothing = record { fault = λ lines ended. None; text = λ lines ended. [] }

-- the cutter has given these lines of the bytes, whatever became of them
abbrev pub HasCut : List ℕ → List (List ℕ) → CutterState → Type 0
HasCut bytes given c = Within nothing bytes given c

-- how lines are read, and numbered for an engine: as those of these streams, on from the number `base`, behind the lines that tell
-- a checkpoint
pub record LineRules : Type 0 where
  pub streams : List StreamDef
  pub base : ℕ
  pub skipped : ℕ

abbrev pub rules_of : Answering → LineRules
rules_of s = record { streams = s.engine.parts.dataflow.plan.streams; base = s.base; skipped = s.skipped }

-- whatever the engine is: it has no fault, and by these rules it was given these lines of the bytes
pub record HasGiven (k : LineRules) (bytes : List ℕ) (given : List (List ℕ)) (s : Answering) : Type 0 where
  pub cut : HasCut bytes given s.cutter
  pub fine : s.engine.fault ≡ None
  pub rules : rules_of s ≡ k
  pub low : k.base ≤ 2 ^ 62
  pub passed : k.skipped ≤ length given

-- one of the lines is bad for the cause, and has this number for the engine
pub record HasBad (k : LineRules) (ls : List (List ℕ)) (n : ℕ) (cause : BadLine) : Type 0 where
  pub before : List (List ℕ)
  pub line : List ℕ
  pub front : AreFront (before ++ line ∷ []) ls
  pub passed : k.skipped ≤ length before
  pub number : n + k.skipped ≡ k.base + length before + 1
  pub cause_is : IsCause k.streams n line cause

-- where the fault tells a bad line it is the one of that number, which is bad for its cause
abbrev pub TellsLine : List StreamDef → ℕ → List ℕ → EngineFault → Type 0
TellsLine streams number line (faults.Bad n cause) = (n ≡ number) × IsCause streams number line cause
TellsLine streams number line fault = Unit {0}

-- it has taken these lines of the bytes
pub record Holds (q : Asked) (bytes : List ℕ) (given : List (List ℕ)) (s : Answering) : Type 0 where
  pub header : s.header ≡ q.header
  pub base : s.base ≡ last_number q.before
  pub low : s.base ≤ 2 ^ 62
  pub skipped : s.skipped ≡ q.passed
  pub passed : q.passed ≤ length given
  pub within : Within (answers_to q) bytes given s.cutter
  pub engine : Took q given s.engine

-- the line behind these has this number for the engine: the numbers go on from the line before a checkpoint
pub record IsNext (q : Asked) (given : List (List ℕ)) (number : ℕ) : Type 0 where
  pub passed : q.passed ≤ length given
  pub number_is : number + q.passed ≡ last_number q.before + length given + 1

-- the line of that number is no header: line 2, or any line where there is none
abbrev pub IsNoHeader : Asked → ℕ → Type 0
IsNoHeader q number = (q.header && nat_eq number 1) ≡ false

-- whether the next line may be a header, where so many lines of the input tell a checkpoint and so many bytes of lines were given:
-- where there is a header it stands before all bytes. With one and 0 bytes it may be it, with one and 5 bytes not; behind the lines
-- of a checkpoint nothing is said
abbrev pub header_may_come : Bool → ℕ → ℕ → Bool
header_may_come header skipped passed = header && (nat_lt 0 skipped || nat_eq passed 0)

-- whatever is asked for, and whichever lines the engine took, of which the next has this number
abbrev pub WhateverGiven : Bool → ℕ → EngineView → (Asked → List (List ℕ) → Type 0) → Type 0
WhateverGiven header number e P = (q : Asked) (given : List (List ℕ)) → q.header ≡ header → IsNext q given number → Took q given e → P q given

-- the number that the engine has for a line of the input, where that is one of 64 bits
abbrev pub IsNumbered : ℕ → ℕ → ℕ → ℕ → Type 0
IsNumbered base skipped line number = skipped ≤ line → base + line < 2 ^ 64 → number + skipped ≡ base + line

-- whatever is asked for, and whichever lines of whichever bytes were taken
abbrev pub WhateverHeld : Answering → (Asked → List ℕ → List (List ℕ) → Type 0) → Type 0
WhateverHeld s P = (q : Asked) (bytes : List ℕ) (given : List (List ℕ)) → Holds q bytes given s → P q bytes given

-- a line more makes the text grow by these bytes
abbrev pub GrowsBy : Asked → List (List ℕ) → List ℕ → List ℕ → Type 0
GrowsBy q given line out = (answers_to q).text (given ++ line ∷ []) false ≡ (answers_to q).text given false ++ out

-- the cutter has given all lines that it was fed, and wants more bytes
pub record WantsBytes (c : CutterState) : Type 0 where
  pub longest : c.longest ≡ 65536
  pub wants_bytes : IsTrue c.wants_bytes
  pub one_line : IsOneLine c.rest
  pub short : length c.rest ≤ 65536

-- the bytes of a read came in, which the journal tells, and their lines are still to be taken. A read that failed leaves all
-- as it was
pub record HasTaken {E : Type 0} (before now : Option (List Entry)) (old new : Answering) (result : Result ℕ E) : Type 0 where
  pub piece : List ℕ
  pub count : length piece ≡ count_of result
  pub told : MatchResult result (λ _. Adds before now (In piece ∷ [])) (λ _. Adds before now [])
  pub holds : (q : Asked) (bytes : List ℕ) (given : List (List ℕ)) → Holds q bytes given old → Holds q (bytes ++ piece) given new
  pub gives : (k : LineRules) (bytes : List ℕ) (given : List (List ℕ)) → HasGiven k bytes given old → HasGiven k (bytes ++ piece) given new
  pub wants : piece ≡ [] → WantsBytes new.cutter

-- what the next line comes to: all whole lines were taken; or a line was, by which the text grows; or the run
-- ends, with what is written so far, whether or not the input ends here
abbrev pub Comes : Asked → List ℕ → List (List ℕ) → Answering → Step → Type 0
Comes q bytes given s More = Holds q bytes given s
Comes q bytes given s (Out out) = (line : List ℕ) × Holds q bytes (given ++ line ∷ []) s
    × ((answers_to q).text (given ++ line ∷ []) false ≡ (answers_to q).text given false ++ out.items)
Comes q bytes given s (Stop status) = (ended : Bool) → IsEnd (answers_to q) status bytes ((answers_to q).text given false) ended

-- why the run ended so, whatever the engine is: where the input is too long it has one byte more than it may have, and where a line
-- is bad it is there. No status tells of a checkpoint
abbrev pub StopsFor : LineRules → Status → List ℕ → Bool → Type 0
StopsFor k statuses.InputTooLong bytes ended = length bytes ≡ limit + 1
StopsFor k (statuses.Malformed n cause) bytes ended = HasBad k (lines bytes ended) n cause
StopsFor k (statuses.BadCheckpoint line) bytes ended = ⊥
StopsFor k status bytes ended = Unit {0}

-- what the next line comes to, whatever the engine is
abbrev pub StepGives : LineRules → List ℕ → List (List ℕ) → Answering → Step → Type 0
StepGives k bytes given s More = HasGiven k bytes given s
StepGives k bytes given s (Out out) = (line : List ℕ) × HasGiven k bytes (given ++ line ∷ []) s
StepGives k bytes given s (Stop status) = (ended : Bool) → StopsFor k status bytes ended

-- by whichever rules it was given whichever lines of whichever bytes
abbrev pub WhateverGave : Answering → (LineRules → List ℕ → List (List ℕ) → Type 0) → Type 0
WhateverGave s P = (k : LineRules) (bytes : List ℕ) (given : List (List ℕ)) → HasGiven k bytes given s → P k bytes given

-- the status of a run that the engine's fault ends
abbrev pub status_at : EngineFault → Status
status_at (faults.Bad line cause) = statuses.Malformed line cause
status_at (faults.Late line time bound) = statuses.Late line time bound
status_at (faults.Overflow punctuation node time) = statuses.Overflow punctuation node time
status_at faults.Memory = statuses.Memory

-- what lines that are taken together come to. With `more` the text has grown by the bytes of the block, and it stays whatever follows.
-- Where none of them has a fault these are all lines that were taken; else those before it, and the run ends there. Of three lines of
-- which the second is late: with the bytes that the first one makes due
pub record BlockComes (q : Asked) (bytes : List ℕ) (given : List (List ℕ)) (s : Answering) (block : FedBlock) : Type 0 where
  pub more : List (List ℕ)
  pub grown : (answers_to q).text more false ≡ (answers_to q).text given false ++ block.text.items
  pub front : (ended : Bool) → IsFront ((answers_to q).text more false) ((answers_to q).text (lines bytes ended) ended)
  pub holds : block.fault ≡ None → Holds q bytes more s
  pub ends : (f : EngineFault) → block.fault ≡ Some f → (ended : Bool) → IsEnd (answers_to q) (status_at f) bytes ((answers_to q).text more false) ended

-- the same, whatever the engine is
pub record BlockGives (k : LineRules) (bytes : List ℕ) (s : Answering) (block : FedBlock) : Type 0 where
  pub more : List (List ℕ)
  pub gives : block.fault ≡ None → HasGiven k bytes more s
  pub stops : (f : EngineFault) → block.fault ≡ Some f → (ended : Bool) → StopsFor k (status_at f) bytes ended

-- after a line fewer bytes are left
abbrev pub HasLess : CutterState → CutterState → Step → Type 0
HasLess before now (Out out) = length now.rest < length before.rest
HasLess before now step = Unit {0}

-- the input has ended, its last line was taken, and what is due for all lines is written
pub record Ended (q : Asked) (bytes written : List ℕ) (s : Answering) : Type 0 where
  pub few : length bytes ≤ limit
  pub fine : (answers_to q).fault (lines bytes true) false ≡ None
  pub engine : Took q (lines bytes true) s.engine
  pub so_far : written ≡ (answers_to q).text (lines bytes true) false

-- whatever is asked for, and whatever is written for whichever bytes
abbrev pub WhateverEnded : Answering → (Asked → List ℕ → List ℕ → Type 0) → Type 0
WhateverEnded s P = (q : Asked) (bytes written : List ℕ) → Ended q bytes written s → P q bytes written

-- the status tells no fault of the words or of the query
abbrev pub IsAsked : Status → Type 0
IsAsked statuses.BadWords = ⊥
IsAsked (statuses.BadQuery fault) = ⊥
IsAsked status = Unit {0}

-- nor of a wire
abbrev pub IsOwn : Status → Type 0
IsOwn statuses.BadWords = ⊥
IsOwn (statuses.BadQuery fault) = ⊥
IsOwn statuses.ReadFault = ⊥
IsOwn statuses.WriteFault = ⊥
IsOwn status = Unit {0}

abbrev pub StopsOwn : Step → Type 0
StopsOwn (Stop status) = IsOwn status
StopsOwn step = Unit {0}
