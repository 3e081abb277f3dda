-- What words ask for, and what a run has then done.
use Rattle.std.specs.Prelude.{◌≡◌, ◌⊎◌, ℕ, false, List, [], Result, Ok, Err}
use Rattle.std.specs.List.{All}
use Rattle.wire_lines.specs.Journal.{Entry, outs, IsOut}
use Rattle.plan_model.specs.declared.fault.QueryFault.{QueryFault}
use Rattle.plan_model.specs.declared.fault.QueryError.{QueryError}
use Rattle.plan_model.specs.declared.fault.QueryError.TheVariants as errors
use Rattle.plan_model.specs.IsPlan.{PlanParts}
use Rattle.admission.specs.declared.policy.Policy.{Policy}
use Rattle.admission.specs.Entries.{Told}
use Rattle.query_text.specs.IsParse.{Spells, IsSmallText, IsTextFault}
use Rattle.query_text.specs.declared.query.Query.{Query}
use Rattle.query_plan.specs.Planned.{planned}
use Rattle.query_plan.specs.Explained.{explained}
use Rattle.query_plan.specs.Told.{cut_text}
use Rattle.command_line.specs.Words.{Asked, SpellsCommand, are_taken}
use Rattle.command_line.specs.declared.words.Mode.{Mode}
use Rattle.command_line.specs.declared.words.Mode.TheVariants.{Run, Freeze, Resume, Explain, Cut, Sample}
use Rattle.sample_trades.specs.Lines.{sample_lines}
use Rattle.checkpoint.specs.Form.{FormView, form_of}
use Rattle.tempo_engine.specs.Frozen.{Fits, IsState}
use Rattle.tempo_cli.specs.Answers.{IsFront}
use Rattle.tempo_cli.specs.Table.{Ends}
use Rattle.tempo_cli.specs.Told.{answers, fed}
use Rattle.tempo_cli.specs.Summing.{Sums}
use Rattle.tempo_cli.specs.Freezing.{Freezes, Froze}
use Rattle.tempo_cli.specs.Restoring.{Resumes}
use Rattle.tempo_cli.specs.declared.status.Status.{Status}
use Rattle.tempo_cli.specs.declared.status.Status.TheVariants.{Done, BadWords, BadQuery, WriteFault, Memory}

-- the text spells a query, and this is its plan
pub record HasPlan (text : List ℕ) (plan : PlanParts) : Type 0 where
  pub small : IsSmallText text
  pub query : Query
  pub spells : Spells text query
  pub plan_is : planned query ≡ Ok plan

-- the text spells a query that has no plan, for this fault
pub record HasPlanFault (text : List ℕ) (fault : QueryFault) : Type 0 where
  pub small : IsSmallText text
  pub query : Query
  pub spells : Spells text query
  pub fault_is : planned query ≡ Err fault

-- the fault of a text that spells no query, or none that has a plan. Of `stream s(v int); q` it is that item 1 has an unknown name
abbrev pub HasFault : List ℕ → QueryFault → Type 0
HasFault text fault = IsTextFault text fault ⊎ HasPlanFault text fault

-- words that are not taken; or what they ask for, where the query has a fault; or with the plan of the query
pub data Job : Type 0 where
  NoWords : Job
  NoPlan : (asked : Asked) → (fault : QueryFault) → Job
  Planned : (asked : Asked) → (plan : PlanParts) → Job

-- what the words ask for: `tempo --query` with the text of a query is a job with its plan
abbrev pub IsJob : List (List ℕ) → Job → Type 0
IsJob words NoWords = are_taken words ≡ false
IsJob words (NoPlan asked fault) = SpellsCommand words asked × HasFault asked.query fault
IsJob words (Planned asked plan) = SpellsCommand words asked × HasPlan asked.query plan

-- a text was told: it went out, or its first bytes where a write failed, and nothing came in. Out of memory nothing
-- was written at all
abbrev pub IsTold : Status → List ℕ → List Entry → Type 0
IsTold Done text J = outs J ≡ text
IsTold WriteFault text J = IsFront (outs J) text
IsTold Memory text J = J ≡ []
IsTold status text J = ⊥

pub record Tells (text : List ℕ) (status : Status) (J : List Entry) : Type 0 where
  pub outs_alone : All IsOut J
  pub told : IsTold status text J

-- the form of the checkpoints of what is asked for
abbrev pub form_asked : Asked → PlanParts → FormView
form_asked asked plan = form_of asked.query asked.workers asked.policy plan

-- the lines C are a checkpoint of what is asked for, where an engine was fed these
abbrev pub IsCheckpointOf : Asked → PlanParts → List Told → List (List ℕ) → Type 0
IsCheckpointOf asked plan before C = Froze (form_asked asked plan) (Fits asked.workers plan asked.policy before) C

-- after these lines of an input
abbrev pub HasFroze : Asked → PlanParts → List (List ℕ) → List (List ℕ) → Type 0
HasFroze asked plan lines C = IsCheckpointOf asked plan (fed plan.streams asked.header lines) C

-- the run went on from a checkpoint of the query, so many workers, the plan and the policy
abbrev pub HasResumed : List ℕ → ℕ → PlanParts → Policy → Status → List Entry → Type 0
HasResumed query workers plan policy status J =
    Resumes (form_of query workers policy plan) (Fits workers plan policy) (IsState workers plan) plan policy status J

-- in mode run the query is answered, in mode freeze a checkpoint stands at the end of the answer, in mode resume the answer goes
-- on from one, in mode explain the plan is told, in mode cut its cuts are, and in mode sample the answer to generated lines is summed up
abbrev pub DoesMode : Mode → Asked → PlanParts → Status → List Entry → Type 0
DoesMode Run asked plan status J = Ends (answers plan asked.policy asked.header) status J
DoesMode Freeze asked plan status J = Freezes (answers plan asked.policy asked.header) (HasFroze asked plan) status J
DoesMode Resume asked plan status J = HasResumed asked.query asked.workers plan asked.policy status J
DoesMode Explain asked plan status J = Tells (explained plan) status J
DoesMode Cut asked plan status J = Tells (cut_text plan) status J
DoesMode Sample asked plan status J = Sums (answers plan asked.policy asked.header) (sample_lines asked.number asked.events) status J

-- what a run has done for a job. J is what it added to the journal of its wire. Where nothing is asked for that can be done,
-- nothing came in or went out
abbrev pub Does : Job → Status → List Entry → Type 0
Does NoWords status J = (J ≡ []) × ((status ≡ BadWords) ⊎ (status ≡ Memory))
Does (NoPlan asked fault) status J = (J ≡ []) × ((status ≡ BadQuery fault) ⊎ (status ≡ Memory))
Does (Planned asked plan) status J = DoesMode asked.mode asked plan status J

-- BadWords and BadQuery come where the words ask for such a job alone
abbrev pub HasReason : List (List ℕ) → Status → Type 0
HasReason words BadWords = IsJob words NoWords
HasReason words (BadQuery fault) = (asked : Asked) × IsJob words (NoPlan asked fault)
HasReason words status = Unit {0}

-- the answer for the text of a query: its plan, or its fault; or it was out of memory
abbrev pub IsPlanned : List ℕ → Result PlanParts QueryError → Type 0
IsPlanned text (Ok plan) = HasPlan text plan
IsPlanned text (Err (errors.Fault fault)) = HasFault text fault
IsPlanned text (Err errors.Memory) = Unit {0}

abbrev pub HasQueryReason : List ℕ → Status → Type 0
HasQueryReason text BadWords = ⊥
HasQueryReason text (BadQuery fault) = HasFault text fault
HasQueryReason text status = Unit {0}

-- the status of a run whose query has no plan
abbrev pub query_status : QueryError → Status
query_status (errors.Fault fault) = BadQuery fault
query_status errors.Memory = Memory
