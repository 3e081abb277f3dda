-- What an engine holds after lines.
use Rattle.std.specs.Prelude.{◌≡◌, ℕ, ◌+◌, ◌-◌, ◌^◌, ◌≤◌, min, Bool, true, false, Option, Some, None, Result, Ok, Err, OnOk, List, [], ◌∷◌, ◌++◌, length, slice_get}
use Rattle.std.proofs.Common.{refl, sym, ◌∙◌, ap, subst, inl, inr}
use Rattle.tw_rows.specs.Bag.{total}
use Rattle.tw_rows.specs.Event.{Known}
use Rattle.tw_rows.specs.declared.edge.Edge.{Edge}
use Rattle.tw_rows.proofs.Knowing.{Known-sym, Known-trans}
use Rattle.plan_model.specs.IsPlan.{PlanParts, IsPlan}
use Rattle.plan_model.specs.Meaning.{Sources}
use Rattle.plan_model.proofs.Kept.{IsPlan-ordered}
use Rattle.plan_model.proofs.Levels.{IsPlan-levelled}
use Rattle.plan_laws.specs.Held.{node_may_hold}
use Rattle.plan_laws.specs.Places.{AreDistinct}
use Rattle.plan_laws.specs.Standing.{StandsRead, SourcesStandRead}
use Rattle.admission.specs.declared.policy.Policy.{Policy}
use Rattle.admission.specs.Admission.{Admission, rows}
use Rattle.admission.specs.Entries.{Told, AreRead}
use Rattle.admission.specs.Progress.{Progress, start, steps, progress, fault}
use Rattle.admission.proofs.Finality.{end_rows, rows_final}
use Rattle.ingress.specs.Admits.{Follows}
use Rattle.ingress.specs.Counts.{may_hold}
use Rattle.ingress.proofs.Reading.{follows_stand}
use Rattle.dataflow.specs.declared.stage.Stage.{Stage}
use Rattle.dataflow.specs.Flows.{DataflowView, Flows, held_from}
use Rattle.dataflow.specs.Stages.{entries_in}
use Rattle.tempo_engine.specs.Went.{Went, HasFed, WhateverFed, EngineView}
use Rattle.tempo_engine.specs.Fed.{WhateverTook}
use Rattle.tempo_engine.specs.Texts.{texts_of}
use Rattle.tempo_engine.proofs.Keeping.{TakesLines}
use Rattle.tempo_engine.specs.Held.{HasWorked, MadeDue, Holds, AreHeld, with_first}
use Rattle.tempo_engine.specs.declared.fault.EngineFault.{EngineFault}
use Rattle.tempo_engine.specs.declared.parts.Parts.{Parts}
use Rattle.tempo_engine.proofs.Sources.{first_is_a_source}

pub worked_of : (plan : PlanParts) (policy : Policy) (w : Progress) (given lists : ℕ → List Edge) (e : Parts) → Went plan policy w given lists e → HasWorked plan w e
worked_of plan policy w given lists e went = record {
  given = given;
  lists = lists;
  took = went.took.follows;
  streams = went.fixed.count;
  released = went.released;
  planned = went.planned;
  flows = went.flows;
}

read_parts : (streams : ℕ) (made since : List Told) → AreRead streams (made ++ since) → AreRead streams made × AreRead streams since
read_parts streams [] since all = (tt, all)
read_parts streams (line ∷ made) since all = (let rest = read_parts streams made since all.1 in ((all.0, rest.0), rest.1))

-- what plans at work keep at most
abbrev pub PlansKeep : Type 0
PlansKeep = (texts : List (List ℕ)) (last : ℕ) (source : Sources) (given lists : ℕ → List Edge) (d : DataflowView) → IsPlan d.plan → AreDistinct texts → Flows texts last given lists d →
    SourcesStandRead texts last source given → (i : ℕ) (s : Stage) → slice_get d.stages i ≡ Some s → entries_in s ≤ node_may_hold source d.plan.nodes last i

module _ (keep : PlansKeep) (plan : PlanParts) (policy : Policy) (lines : List Told) (ended : Bool) (sound : IsPlan plan) (read : AreRead (length plan.streams) lines)
    (e : Parts) (distinct : AreDistinct e.texts) (worked : HasWorked plan (progress plan policy lines ended) e) where
  abbrev w : Progress
  w = progress plan policy lines ended

  stand : SourcesStandRead e.texts w.last (rows w.after) worked.given
  stand s = (let l = follows_stand e.texts w.after worked.given e.ingress worked.took s in rw worked.released at l)

  stand_by : (made : List Told) → MadeDue plan policy lines ended made → SourcesStandRead e.texts w.last (rows (progress plan policy made false).after) worked.given
  stand_by made due s = elim due.last [
    | inl all ↦
        let same : (progress plan policy made false).after ≡ w.after = ap (λ l. (progress plan policy l false).after) all ∙ sym (end_rows plan (steps plan policy start lines) ended) in
        subst (λ a. StandsRead e.texts w.last (worked.given s) (rows a s)) (sym same) (stand s)
    | inr same ↦
        let parts = read_parts (length plan.streams) made due.since (subst (AreRead (length plan.streams)) due.all read) in
        let final = rows_final plan (IsPlan-ordered plan sound) (IsPlan-levelled plan sound) policy made due.since ended s parts.0 parts.1 in
        let known : Known w.last (rows (progress plan policy made false).after s) (rows w.after s) =
        subst (λ c. Known c (rows (progress plan policy made false).after s) (rows w.after s)) same
        (subst (λ l. Known (progress plan policy made false).last (rows (progress plan policy made false).after s) (rows (progress plan policy l ended).after s)) (sym due.all) final) in
        let h = stand s in
        record {
          history = h.history;
          below = h.below;
          placed = h.placed;
          known = Known-trans w.last _ (rows w.after s) (rows (progress plan policy made false).after s) h.known (Known-sym w.last (rows (progress plan policy made false).after s) (rows w.after s) known);
        }
  ]

  pub few : (made : List Told) → MadeDue plan policy lines ended made → (i : ℕ) (s : Stage) → slice_get e.dataflow.stages i ≡ Some s →
      entries_in s ≤ node_may_hold (rows (progress plan policy made false).after) plan.nodes w.last i
  few made due i s here =
      subst (λ q. entries_in s ≤ node_may_hold (rows (progress plan policy made false).after) q.nodes w.last i) worked.planned
      (keep e.texts w.last (rows (progress plan policy made false).after) worked.given worked.lists e.dataflow (subst IsPlan (sym worked.planned) sound) distinct worked.flows (stand_by made due) i s here)

  pub holds : fault plan policy lines ended ≡ None → e.texts ≡ texts_of plan lines → (v : EngineView) → v.parts ≡ e → v.fault ≡ None → Holds plan policy lines ended v
  holds fine texts v same none = record {
    sound = sound;
    read = read;
    fine = fine;
    none = none;
    texts = ap (λ x. x.texts) same ∙ texts;
    worked = subst (HasWorked plan w) (sym same) worked;
    few = λ made due i s here. few made due i s (subst (λ x. slice_get x.dataflow.stages i ≡ Some s) same here);
  }

-- the pairs tell of it
pub is_held : (plan : PlanParts) (policy : Policy) (lines : List Told) (ended : Bool) (v : EngineView) → Holds plan policy lines ended v → (n : ℕ) (pairs first : List (ℕ × ℕ)) →
    ((texts : List (List ℕ)) (a : Admission) (given : ℕ → List Edge) → Follows texts a given v.parts.ingress → n ≡ min (length a.opens + total (λ l. length l) v.parts.ingress.held.waiting.items) (2 ^ 64 - 1)) →
    ((texts : List (List ℕ)) (a : Admission) (given : ℕ → List Edge) → Follows texts a given v.parts.ingress → n ≤ may_hold (length v.parts.ingress.kinds.items) v.parts.ingress.released a) →
    first ≡ held_from 0 v.parts.dataflow.stages → pairs ≡ with_first n first → AreHeld plan (progress plan policy lines ended) v.parts pairs
is_held plan policy lines ended v h n pairs first count bound is told = record {
  first = first_is_a_source plan h.sound;
  sources = n;
  waiting = count v.parts.texts (progress plan policy lines ended).after h.worked.given h.worked.took;
  few = (let b = bound v.parts.texts (progress plan policy lines ended).after h.worked.given h.worked.took in rw (h.worked.streams, h.worked.released) at b);
  told = told ∙ ap (with_first n) is;
}

-- the parts took lines, or told a fault
module _ {X : Type 0} (keep : PlansKeep) (answer : Result X EngineFault) (old new : Parts) (distinct : AreDistinct new.texts) (fault_now : Option EngineFault) (ok : OnOk answer (fault_now ≡ None)) (before now : ℕ) (first : Option EngineFault) (was ended : Bool) where
  abbrev view_then : EngineView
  view_then = record { parts = old; lines = before; fault = first; ended = was }

  abbrev view_now : EngineView
  view_now = record { parts = new; lines = now; fault = fault_now; ended = ended }

  pub lines_hold : (more : PlanParts → List Told) → OnOk answer (TakesLines more old new) →
      OnOk answer (WhateverTook view_then (λ plan policy lines. Holds plan policy (lines ++ more plan) false view_now))
  lines_hold more fed = go answer fed ok
    where
      go : (a : Result X EngineFault) → OnOk a (TakesLines more old new) → OnOk a (fault_now ≡ None) →
          OnOk a (WhateverTook view_then (λ plan policy lines. Holds plan policy (lines ++ more plan) false view_now))
      go (Ok x) takes none = λ plan policy lines is.
          let all = lines ++ more plan in
          let next = takes plan policy lines is.given is.lists (record { sound = is.by.sound; read = is.by.read; fine = is.by.fine; texts = is.by.texts; went = is.by.went }) in
          holds keep plan policy all false next.there.sound next.there.read new distinct (worked_of plan policy (progress plan policy all false) next.more_given next.more_lists new next.there.went) next.there.fine next.there.texts view_now refl none
      go (Err f) takes none = tt

  -- or the end of the input
  pub end_holds : new.texts ≡ old.texts → OnOk answer (WhateverFed old (λ plan policy lines given lists. fault plan policy lines true ≡ None)) →
      OnOk answer (WhateverFed old (λ plan policy lines given lists. HasWorked plan (progress plan policy lines true) new)) →
      OnOk answer (WhateverTook view_then (λ plan policy lines. Holds plan policy lines true view_now))
  end_holds same_texts fine worked = go answer fine worked ok
    where
      go : (a : Result X EngineFault) → OnOk a (WhateverFed old (λ plan policy lines given lists. fault plan policy lines true ≡ None)) →
          OnOk a (WhateverFed old (λ plan policy lines given lists. HasWorked plan (progress plan policy lines true) new)) →
          OnOk a (fault_now ≡ None) → OnOk a (WhateverTook view_then (λ plan policy lines. Holds plan policy lines true view_now))
      go (Ok x) tells works none = λ plan policy lines is.
          let fed : HasFed plan policy lines is.given is.lists old = record { sound = is.by.sound; read = is.by.read; fine = is.by.fine; texts = is.by.texts; went = is.by.went } in
          holds keep plan policy lines true is.by.sound is.by.read new distinct (works plan policy lines is.given is.lists fed) (tells plan policy lines is.given is.lists fed) (same_texts ∙ is.by.texts) view_now refl none
      go (Err f) tells works none = tt

-- what an engine tells of its lines, by what its parts tell
pub tells_of_lines : (old : Parts) (before : ℕ) (first : Option EngineFault) (was : Bool) (P : PlanParts → Policy → List Told → Type 0) → WhateverFed old (λ plan policy lines given lists. P plan policy lines) →
    WhateverTook (record { parts = old; lines = before; fault = first; ended = was }) P
tells_of_lines old before first was P told plan policy lines is = told plan policy lines is.given is.lists (record { sound = is.by.sound; read = is.by.read; fine = is.by.fine; texts = is.by.texts; went = is.by.went })
