-- A run from its start on.
use Rattle.std.proofs.Common.{◌≡◌, ◌⊎◌, ◌++◌, Err, ℕ, List, [], ◌∷◌, Option, Some, None, inl, inr, refl, sym, ◌∙◌, ap, subst, append-nil}
use Rattle.wire_lines.specs.Journal.{Entry, Did, Mark, Adds, Grows}
use Rattle.admission.specs.Entries.{Told}
use Rattle.kept_wire.specs.Calls.{Told as Disks}
use Rattle.kept_wire.specs.Disk.{Content, Absent, IsSeen}
use Rattle.wire_lines.proofs.Growth.{Grows-weaker}
use Rattle.plan_model.specs.IsPlan.{PlanParts}
use Rattle.command_line.specs.Words.{Asked as Words}
use Rattle.tempo_cli.proofs.Journals.{Grows-then}
use Rattle.tempo_cli.specs.Keeping.{Task, Places, Keeps, RunsFrom, RunsOn, RunsFirst, RunsByFile, HasBytes, HasState, IsStartOf, first_start, first_task, next_start, task_from}
use Rattle.tempo_cli.specs.KeptStatus.{HasKeptReason, IsKeptAsked, IsRefusal}
use Rattle.tempo_cli.specs.Standing.{Begun, StartsWith, IsWanting}
use Rattle.plan_model.specs.declared.fault.QueryFault.{QueryFault}
use Rattle.plan_model.specs.declared.fault.QueryError.{QueryError}
use Rattle.plan_model.specs.declared.fault.QueryError.TheVariants as errors
use Rattle.tempo_cli.specs.Jobs.{HasPlan, IsPlanned, query_status}
use Rattle.tempo_cli.specs.declared.status.Status.{Status}
use Rattle.tempo_cli.specs.declared.status.Status.TheVariants as statuses
use Rattle.tempo_cli.proofs.Jobs.{never_both, asked_reason}
use Rattle.tempo_cli.specs.declared.keeping.Keeper.{Keeper}
use Rattle.tempo_cli.proofs.Adding.{adds_grows}
use Rattle.tempo_cli.specs.declared.kept_status.KeptStatus.TheVariants.{Ended, CheckpointFailed}
use Rattle.tempo_cli.specs.declared.kept_status.KeptStatus.{KeptStatus}

runs_as : (mark : Mark) (t : Task) (every : ℕ) (status : KeptStatus) (J K : List Entry) → J ≡ Did mark ∷ [] → Keeps t every status K → RunsFrom mark t every status (J ++ K)
runs_as mark t every status J K is keeps = inr (K, ap (λ x. x ++ K) is, keeps)

module _ {a b c : Option (List Entry)} {every : ℕ} {k : Keeper} (status : KeptStatus) where
  pub runs_first : {asked : Words} {plan : PlanParts} → Adds a b (Did (first_start k.output) ∷ []) → Begun (first_task asked plan k.output) every k → ((t : Task) → Begun t every k → Grows b c (Keeps t every status)) →
      Grows a c (RunsFirst asked plan every status)
  runs_first {asked} {plan} starts begun go =
      let t = first_task asked plan k.output in
      Grows-then {P = λ J. J ≡ Did (first_start k.output) ∷ []} (adds_grows starts refl)
      (λ (J : List Entry) (e : J ≡ Did (first_start k.output) ∷ []). go t begun)
      (λ J K e q. (k.output, runs_as (first_start k.output) t every status J K e q))

  pub runs_on : (t : Task) → Grows a b (StartsWith t every k) → ((u : Task) → Begun u every k → Grows b c (Keeps u every status)) → Grows a c (RunsOn t every status)
  runs_on t starts go = Grows-then {P = StartsWith t every k} starts (λ (J : List Entry) (p : StartsWith t every k J). go t p.1) (λ J K p q. runs_as (next_start t.start) t every status J K p.0 q)

-- it failed before
pub runs_not_first : {a b : Option (List Entry)} {asked : Words} {plan : PlanParts} {every : ℕ} (status : KeptStatus) → Grows a b (λ J. J ≡ []) → IsWanting status → Grows a b (RunsFirst asked plan every status)
runs_not_first status silent wanting = Grows-weaker silent (λ J e. (0, inl (e, wanting)))

-- after a call that added nothing
pub after_none : {a b c : Option (List Entry)} {P : List Entry → Type 0} → Adds a b [] → Grows b c P → Grows a c P
after_none {a} {b} {c} {P} none grows = record { grown = λ told e. grows.grown told (none.added told e ∙ ap Some (append-nil told)) }

-- nothing was done
pub did_nothing : {a b : Option (List Entry)} {P : List Entry → Type 0} → Adds a b [] → P [] → Grows a b P
did_nothing {a} {b} {P} none p = record { grown = λ told e. ([], none.added told e, p) }

some_is_some : {X : Type 0} (x y : X) → Some x ≡ Some y → x ≡ y
some_is_some x y e = cc

none_is_some : {X : Type 0} (x : X) → None ≡ Some x → ⊥
none_is_some x e = cc

some_is_none : {X : Type 0} (x : X) → Some x ≡ None → ⊥
some_is_none x e = cc

-- FILE was read: what a read gives is what it has
pub read_absent : (file : Content) (bytes : List ℕ) → file ≡ Absent → IsSeen file (Some bytes) → ⊥
read_absent file bytes is seen = some_is_none bytes (subst (λ f. IsSeen f (Some bytes)) is seen)

pub read_none : (file : Content) (bytes : List ℕ) → HasBytes file bytes → IsSeen file None → ⊥
read_none file bytes (inl is) seen = none_is_some bytes (subst (λ f. IsSeen f None) is seen)
read_none file bytes (inr is) seen = none_is_some bytes (subst (λ f. IsSeen f None) is seen)

pub read_some : (file : Content) (bytes found : List ℕ) → HasBytes file bytes → IsSeen file (Some found) → found ≡ bytes
read_some file bytes found (inl is) seen = some_is_some found bytes (subst (λ f. IsSeen f (Some found)) is seen)
read_some file bytes found (inr is) seen = some_is_some found bytes (subst (λ f. IsSeen f (Some found)) is seen)

-- FILE was opened: there is none, or it has these bytes, or it failed
module _ {a b c : Option (List Entry)} {asked : Words} {plan : PlanParts} {every : ℕ} {status : KeptStatus} (told : Option Disks) (none : Adds a b []) where
  pub by_none : ((d : Disks) → told ≡ Some d → IsSeen d.now.file None) → Grows b c (RunsFirst asked plan every status) → RunsByFile asked plan every told status a c
  by_none seen runs = record {
    first = λ d e absent. after_none none runs;
    again = λ d e bytes has lines start is. absurd (read_none d.now.file bytes has (seen d e));
    refused = λ d e bytes has isnt. absurd (read_none d.now.file bytes has (seen d e));
  }

  pub by_bytes : (found : List ℕ) → ((d : Disks) → told ≡ Some d → IsSeen d.now.file (Some found)) →
      ((lines : List Told) (start : Places) → IsStartOf (task_from asked plan lines start) found → Grows b c (RunsOn (task_from asked plan lines start) every status)) →
      ((HasState asked plan found → ⊥) → Grows b c (λ J. (J ≡ []) × IsRefusal status)) → RunsByFile asked plan every told status a c
  by_bytes found seen runs refused = record {
    first = λ d e absent. absurd (read_absent d.now.file found absent (seen d e));
    again = λ d e bytes has lines start is. after_none none (runs lines start (subst (IsStartOf (task_from asked plan lines start)) (sym (read_some d.now.file bytes found has (seen d e))) is));
    refused = λ d e bytes has isnt. after_none none (refused (λ h. isnt (subst (HasState asked plan) (read_some d.now.file bytes found has (seen d e)) h)));
  }

pub by_failure : {a b : Option (List Entry)} {asked : Words} {plan : PlanParts} {every : ℕ} (told : Option Disks) (status : KeptStatus) → IsWanting status → IsRefusal status → Adds a b [] →
    RunsByFile asked plan every told status a b
by_failure told status wanting refusal none = record {
  first = λ d e absent. did_nothing none (0, inl (refl, wanting));
  again = λ d e bytes has lines start is. did_nothing none (inl (refl, wanting));
  refused = λ d e bytes has isnt. did_nothing none (refl, refusal);
}

-- the query has a plan, and so its failure is one of memory
pub by_error : {a : Option (List Entry)} {every : ℕ} (text : List ℕ) (e : QueryError) (asked : Words) (plan : PlanParts) (told : Option Disks) → IsPlanned text (Err e) → HasPlan text plan →
    RunsByFile asked plan every told (Ended (query_status e)) a a
by_error text (errors.Fault f) asked plan told is h = absurd (never_both text plan f h is)
by_error text errors.Memory asked plan told is h = by_failure told (Ended statuses.Memory) (inr refl) tt (record { added = λ t e. e ∙ ap Some (sym (append-nil t)) })

pub ended_so : (s : Status) (fault : QueryFault) → (s ≡ statuses.BadQuery fault) ⊎ (s ≡ statuses.Memory) → (Ended s ≡ Ended (statuses.BadQuery fault)) ⊎ (Ended s ≡ Ended statuses.Memory)
ended_so s fault (inl e) = inl (ap Ended e)
ended_so s fault (inr e) = inr (ap Ended e)

pub kept_reason : (query : List ℕ) (status : KeptStatus) → IsKeptAsked status → HasKeptReason query status
kept_reason query (Ended status) is = asked_reason query status is
kept_reason query CheckpointFailed is = tt
