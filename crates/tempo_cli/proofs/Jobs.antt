-- Words ask for one job.
use Rattle.std.proofs.Common.{◌≡◌, ◌⊎◌, ◌≤◌, ◌++◌, ℕ, suc, Bool, true, false, List, [], drop, length, Option, None, Result, Ok, Err, inl, inr, refl, sym, ◌∙◌, ap, ap₂, arith, subst}
use Rattle.std.proofs.Math.Seq.{drop-length, drop-nil}
use Rattle.std.proofs.lemmas.List.{append-nil}
use Rattle.std.proofs.lemmas.List.Elements.{All-nil}
use Rattle.wire_lines.specs.Journal.{Entry, IsOut, ins, outs, ended, Grows}
use Rattle.wire_lines.specs.Faults.{Rose}
use Rattle.wire_lines.specs.Lines.{lines}
use Rattle.plan_model.specs.IsPlan.{PlanParts}
use Rattle.plan_model.specs.declared.fault.QueryFault.{QueryFault}
use Rattle.plan_model.specs.declared.fault.QueryError.{QueryError}
use Rattle.plan_model.specs.declared.fault.QueryError.TheVariants as errors
use Rattle.query_text.specs.IsParse.{Spells, IsSmallText, IsTextFault}
use Rattle.query_text.specs.declared.query.Query.{Query}
use Rattle.query_text.proofs.OneAnswer.{spelled_or_not, no_fault, one_fault}
use Rattle.query_text.proofs.Spelled.{one_query}
use Rattle.query_plan.specs.Planned.{planned}
use Rattle.command_line.specs.Words.{Asked, SpellsCommand, are_taken}
use Rattle.admission.specs.Entries.{Told}
use Rattle.admission.specs.declared.policy.Policy.{Policy}
use Rattle.command_line.specs.declared.words.Mode.{Mode}
use Rattle.command_line.specs.declared.words.Mode.TheVariants.{Run, Freeze, Resume, Explain, Cut, Sample}
use Rattle.command_line.proofs.Once.{one_command}
use Rattle.command_line.proofs.Spelled.{spelled}
use Rattle.tempo_cli.specs.Answers.{Answers}
use Rattle.tempo_cli.specs.Jobs.{HasPlan, HasFault, Tells, Job, NoWords, NoPlan, Planned, IsJob, Does, DoesMode, IsCheckpointOf, HasQueryReason, IsPlanned, query_status}
use Rattle.tempo_cli.specs.Restoring.{AreFront}
use Rattle.tempo_cli.specs.Feeding.{IsOwn, IsAsked}
use Rattle.tempo_cli.specs.Status.{Counts}
use Rattle.tempo_cli.specs.Table.{limit, Ends, IsEnd}
use Rattle.tempo_cli.specs.Summing.{Sums}
use Rattle.tempo_cli.specs.Resumed.{going_on, resumed, later}
use Rattle.tempo_cli.specs.Freezing.{Freezes}
use Rattle.tempo_cli.specs.Told.{told_from, answers}
use Rattle.tempo_engine.specs.Fed.{last_number}
use Rattle.tempo_engine.specs.Output.{plan_text}
use Rattle.tempo_cli.specs.declared.status.Status.{Status}
use Rattle.tempo_cli.specs.declared.status.Status.TheVariants.{Done, BadWords, BadQuery, Malformed, Late, Overflow, InputTooLong, ReadFault, WriteFault, Memory, BadCheckpoint}
use Rattle.tempo_cli.proofs.Journals.{no_memory}

pub plan_once : (text : List ℕ) (p r : PlanParts) → HasPlan text p → HasPlan text r → p ≡ r
plan_once text p r h k =
    let same : h.query ≡ k.query = one_query text h.query k.query h.spells k.spells in
    let e : Ok p ≡ Ok r = sym h.plan_is ∙ (ap planned same ∙ k.plan_is) in
    cc

pub never_both : (text : List ℕ) (p : PlanParts) (f : QueryFault) → HasPlan text p → HasFault text f → ⊥
never_both text p f h (inl t) = no_fault text h.query f h.small h.spells t
never_both text p f h (inr k) =
    let same : h.query ≡ k.query = one_query text h.query k.query h.spells k.spells in
    let e : Ok p ≡ Err f = sym h.plan_is ∙ (ap planned same ∙ k.fault_is) in
    cc

pub fault_once : (text : List ℕ) (f g : QueryFault) → HasFault text f → HasFault text g → f ≡ g
fault_once text f g (inl h) (inl k) = one_fault text f g h k
fault_once text f g (inl h) (inr k) = absurd (no_fault text k.query f k.small k.spells h)
fault_once text f g (inr h) (inl k) = absurd (no_fault text h.query g h.small h.spells k)
fault_once text f g (inr h) (inr k) =
    let same : h.query ≡ k.query = one_query text h.query k.query h.spells k.spells in
    let e : Err f ≡ Err g = sym h.fault_is ∙ (ap planned same ∙ k.fault_is) in
    cc

-- where no line came in behind a checkpoint there is no more text
resumed_silent : (plan : PlanParts) (policy : Policy) (before : List Told) (k : ℕ) → (resumed plan policy before k).text [] false ≡ []
resumed_silent plan policy before k =
    let none : before ++ later plan.streams before k [] ≡ before = ap (λ ls. before ++ told_from plan.streams false (suc (last_number before)) ls) (drop-nil k) ∙ append-nil before in
    ap (λ ls. drop (length (plan_text plan policy before false)) (plan_text plan policy ls false)) none ∙ drop-length (plan_text plan policy before false)

-- before anything was done
pub memory_does : (mode : Mode) (asked : Asked) (plan : PlanParts) → DoesMode mode asked plan Memory []
memory_does Run asked plan = no_memory (answers plan asked.policy asked.header) refl
memory_does Freeze asked plan = record { prompt = tt; end = (no_memory (going_on (answers plan asked.policy asked.header)) refl).end }
memory_does Resume asked plan = record {
  resumed = λ before C froze front. no_memory (resumed plan asked.policy before (length C)) (resumed_silent plan asked.policy before (length C));
  unclaimed = inl refl;
}
memory_does Explain asked plan = record { outs_alone = All-nil IsOut; told = refl }
memory_does Cut asked plan = record { outs_alone = All-nil IsOut; told = refl }
memory_does Sample asked plan = (refl, tt)

pub memory_job : (job : Job) → Does job Memory []
memory_job NoWords = (refl, inr refl)
memory_job (NoPlan asked fault) = (refl, inr refl)
memory_job (Planned asked plan) = memory_does asked.mode asked plan

-- a run over lines without fault ends Done, or out of memory
ended_well : (a : Answers) (status : Status) (bytes out : List ℕ) (ended : Bool) (reads reads' writes writes' : ℕ) → IsEnd a status bytes out ended →
    Counts reads reads' writes writes' status → a.fault (lines bytes ended) ended ≡ None → length bytes ≤ limit → (Rose reads reads' → ⊥) → (Rose writes writes' → ⊥) →
    (status ≡ Done) ⊎ (status ≡ Memory)
ended_well a Done bytes out ended r r' w w' end counts none few reads writes = inl refl
ended_well a BadWords bytes out ended r r' w w' end counts none few reads writes = absurd end
ended_well a (BadQuery f) bytes out ended r r' w w' end counts none few reads writes = absurd end
ended_well a (Malformed line cause) bytes out ended r r' w w' end counts none few reads writes = absurd (let e = sym end.first ∙ none in cc)
ended_well a (Late line time bound) bytes out ended r r' w w' end counts none few reads writes = absurd (let e = sym end.first ∙ none in cc)
ended_well a (Overflow punct node time) bytes out ended r r' w w' end counts none few reads writes = absurd (let e = sym end.first ∙ none in cc)
ended_well a InputTooLong bytes out ended r r' w w' end counts none few reads writes = let long = end.long in absurd (omega (arith, long, few))
ended_well a ReadFault bytes out ended r r' w w' end counts none few reads writes = absurd (reads counts)
ended_well a WriteFault bytes out ended r r' w w' end counts none few reads writes = absurd (writes counts)
ended_well a Memory bytes out ended r r' w w' end counts none few reads writes = inr refl
ended_well a (BadCheckpoint line) bytes out ended r r' w w' end counts none few reads writes = absurd end

pub complete : (a : Answers) (status : Status) (J : List Entry) (reads reads' writes writes' : ℕ) → Ends a status J → Counts reads reads' writes writes' status →
    a.fault (lines (ins J) (ended J)) (ended J) ≡ None → length (ins J) ≤ limit → (Rose reads reads' → ⊥) → (Rose writes writes' → ⊥) → (status ≡ Done) ⊎ (status ≡ Memory)
complete a status J r r' w w' ends = ended_well a status (ins J) (outs J) (ended J) r r' w w' ends.end

pub complete_frozen : (a : Answers) (Froze : List (List ℕ) → List (List ℕ) → Type 0) (status : Status) (J : List Entry) (reads reads' writes writes' : ℕ) →
    Freezes a Froze status J → Counts reads reads' writes writes' status → a.fault (lines (ins J) (ended J)) false ≡ None → length (ins J) ≤ limit →
    (Rose reads reads' → ⊥) → (Rose writes writes' → ⊥) → (status ≡ Done) ⊎ (status ≡ Memory)
complete_frozen a Froze Done J r r' w w' f counts none few reads writes = inl refl
complete_frozen a Froze WriteFault J r r' w w' f counts none few reads writes = absurd (writes counts)
complete_frozen a Froze status J r r' w w' f counts none few reads writes =
    ended_well (going_on a) status (ins J) (outs J) (ended J) r r' w w' f.end counts none few reads writes

pub complete_resumed : (asked : Asked) (plan : PlanParts) (before : List Told) (C : List (List ℕ)) (status : Status) (J : List Entry) (reads reads' writes writes' : ℕ) →
    DoesMode Resume asked plan status J → Counts reads reads' writes writes' status → IsCheckpointOf asked plan before C → AreFront C (lines (ins J) (ended J)) →
    (resumed plan asked.policy before (length C)).fault (lines (ins J) (ended J)) (ended J) ≡ None → length (ins J) ≤ limit →
    (Rose reads reads' → ⊥) → (Rose writes writes' → ⊥) → (status ≡ Done) ⊎ (status ≡ Memory)
complete_resumed asked plan before C status J r r' w w' does counts froze front =
    complete (resumed plan asked.policy before (length C)) status J r r' w w' (does.resumed before C froze front) counts

pub complete_told : (text : List ℕ) (status : Status) (J : List Entry) (reads reads' writes writes' : ℕ) → Tells text status J → Counts reads reads' writes writes' status →
    (Rose writes writes' → ⊥) → (status ≡ Done) ⊎ (status ≡ Memory)
complete_told text Done J r r' w w' tells counts writes = inl refl
complete_told text WriteFault J r r' w w' tells counts writes = absurd (writes counts)
complete_told text Memory J r r' w w' tells counts writes = inr refl
complete_told text status J r r' w w' tells counts writes = absurd tells.told

pub complete_summed : (a : Answers) (lines : List (List ℕ)) (status : Status) (J : List Entry) (reads reads' writes writes' : ℕ) → Sums a lines status J → Counts reads reads' writes writes' status →
    a.fault lines true ≡ None → (Rose writes writes' → ⊥) → (status ≡ Done) ⊎ (status ≡ Memory)
complete_summed a lines Done J r r' w w' sums counts none writes = inl refl
complete_summed a lines (Malformed line cause) J r r' w w' sums counts none writes = absurd (let e = sym sums.1 ∙ none in cc)
complete_summed a lines (Late line time bound) J r r' w w' sums counts none writes = absurd (let e = sym sums.1 ∙ none in cc)
complete_summed a lines (Overflow punct node time) J r r' w w' sums counts none writes = absurd (let e = sym sums.1 ∙ none in cc)
complete_summed a lines WriteFault J r r' w w' sums counts none writes = absurd (writes counts)
complete_summed a lines Memory J r r' w w' sums counts none writes = inr refl
complete_summed a lines status J r r' w w' sums counts none writes = absurd sums.1

-- what was done for the command that the words spell was done for the job that they ask for
pub does_of : {a b : Option (List Entry)} (words : List (List ℕ)) (asked : Asked) (status : Status) → SpellsCommand words asked →
    ((plan : PlanParts) → HasPlan asked.query plan → Grows a b (DoesMode asked.mode asked plan status)) →
    ((fault : QueryFault) → HasFault asked.query fault → Grows a b (λ J. (J ≡ []) × ((status ≡ BadQuery fault) ⊎ (status ≡ Memory)))) →
    (job : Job) → IsJob words job → Grows a b (Does job status)
does_of {a} {b} words asked status spells with_plan without NoWords is = absurd (let e : true ≡ false = sym spells.taken ∙ is in cc)
does_of {a} {b} words asked status spells with_plan without (NoPlan other fault) is =
    without fault (subst (λ (x : Asked). HasFault x.query fault) (one_command words other asked is.0 spells) is.1)
does_of {a} {b} words asked status spells with_plan without (Planned other plan) is =
    let same : other ≡ asked = one_command words other asked is.0 spells in
    subst (λ (x : Asked). Grows a b (DoesMode x.mode x plan status)) (sym same) (with_plan plan (subst (λ (x : Asked). HasPlan x.query plan) same is.1))

-- a text has a plan or a fault, and words ask for a job
query_job : (text : List ℕ) → ((plan : PlanParts) × HasPlan text plan) ⊎ ((fault : QueryFault) × HasFault text fault)
query_job text = go (spelled_or_not text)
  where
    by_plan : (small : IsSmallText text) (q : Query) → Spells text q → (r : Result PlanParts QueryFault) → planned q ≡ r → ((plan : PlanParts) × HasPlan text plan) ⊎ ((fault : QueryFault) × HasFault text fault)
    by_plan small q spells (Ok plan) is = inl (plan, record { small = small; query = q; spells = spells; plan_is = is })
    by_plan small q spells (Err fault) is = inr (fault, inr (record { small = small; query = q; spells = spells; fault_is = is }))

    go : (IsSmallText text × (q : Query) × Spells text q) ⊎ ((fault : QueryFault) × IsTextFault text fault) → ((plan : PlanParts) × HasPlan text plan) ⊎ ((fault : QueryFault) × HasFault text fault)
    go (inl s) = by_plan s.0 s.1 s.2 (planned s.1) refl
    go (inr f) = inr (f.0, inl f.1)

pub some_job : (words : List (List ℕ)) → (job : Job) × IsJob words job
some_job words = go (are_taken words) refl
  where
    by_query : (asked : Asked) → SpellsCommand words asked → ((plan : PlanParts) × HasPlan asked.query plan) ⊎ ((fault : QueryFault) × HasFault asked.query fault) → (job : Job) × IsJob words job
    by_query asked spells (inl p) = (Planned asked p.0, (spells, p.1))
    by_query asked spells (inr f) = (NoPlan asked f.0, (spells, f.1))

    go : (b : Bool) → are_taken words ≡ b → (job : Job) × IsJob words job
    go false e = (NoWords, e)
    go true e = let s = spelled words e in by_query s.asked s.spells (query_job s.asked.query)

-- and for one alone
pub one_job : (words : List (List ℕ)) (j k : Job) → IsJob words j → IsJob words k → j ≡ k
one_job words NoWords NoWords h k = refl
one_job words NoWords (NoPlan a f) h k = absurd (let e : true ≡ false = sym k.0.taken ∙ h in cc)
one_job words NoWords (Planned a p) h k = absurd (let e : true ≡ false = sym k.0.taken ∙ h in cc)
one_job words (NoPlan a f) NoWords h k = absurd (let e : true ≡ false = sym h.0.taken ∙ k in cc)
one_job words (Planned a p) NoWords h k = absurd (let e : true ≡ false = sym h.0.taken ∙ k in cc)
one_job words (NoPlan a f) (NoPlan b g) h k =
    let same : a ≡ b = one_command words a b h.0 k.0 in
    ap₂ (λ x y. NoPlan x y) same (fault_once b.query f g (subst (λ (x : Asked). HasFault x.query f) same h.1) k.1)
one_job words (Planned a p) (Planned b r) h k =
    let same : a ≡ b = one_command words a b h.0 k.0 in
    ap₂ (λ x y. Planned x y) same (plan_once b.query p r (subst (λ (x : Asked). HasPlan x.query p) same h.1) k.1)
one_job words (NoPlan a f) (Planned b p) h k =
    absurd (never_both b.query p f k.1 (subst (λ (x : Asked). HasFault x.query f) (one_command words a b h.0 k.0) h.1))
one_job words (Planned a p) (NoPlan b f) h k =
    absurd (never_both b.query p f (subst (λ (x : Asked). HasPlan x.query p) (one_command words a b h.0 k.0) h.1) k.1)

-- statuses of the answering
pub own_asked : (status : Status) → IsOwn status → IsAsked status
own_asked BadWords own = own
own_asked (BadQuery f) own = own
own_asked status own = tt

pub asked_reason : (text : List ℕ) (status : Status) → IsAsked status → HasQueryReason text status
asked_reason text BadWords is = is
asked_reason text (BadQuery f) is = absurd is
asked_reason text status is = tt

-- a query without a plan
pub failed_planned : (text : List ℕ) (e : QueryError) (mode : Mode) (asked : Asked) (plan : PlanParts) → IsPlanned text (Err e) → HasPlan text plan → DoesMode mode asked plan (query_status e) []
failed_planned text (errors.Fault f) mode asked plan is h = absurd (never_both text plan f h is)
failed_planned text errors.Memory mode asked plan is h = memory_does mode asked plan

pub failed_unplanned : (text : List ℕ) (e : QueryError) (fault : QueryFault) → IsPlanned text (Err e) → HasFault text fault → (query_status e ≡ BadQuery fault) ⊎ (query_status e ≡ Memory)
failed_unplanned text (errors.Fault f) fault is h = inl (ap (λ x. BadQuery x) (fault_once text f fault is h))
failed_unplanned text errors.Memory fault is h = inr refl

pub failed_reason : (text : List ℕ) (e : QueryError) → IsPlanned text (Err e) → HasQueryReason text (query_status e)
failed_reason text (errors.Fault f) is = is
failed_reason text errors.Memory is = tt
