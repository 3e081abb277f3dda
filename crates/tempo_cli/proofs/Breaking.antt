-- A run that ends before its checkpoint has come in.
use Rattle.std.proofs.Common.{◌≡◌, ◌≤◌, ◌<◌, ℕ, suc, List, [], ◌∷◌, ◌++◌, length, drop, take, Bool, false, None, inl, inr, sym, ◌∙◌, ap, arith, append_assoc, append-nil, subst}
use Rattle.std.specs.List.{All}
use Rattle.std.proofs.lemmas.List.{drop_all, length-append}
use Rattle.wire_lines.specs.Journal.{Entry, ins, outs, ended}
use Rattle.wire_lines.specs.Lines.{lines, whole}
use Rattle.plan_model.specs.IsPlan.{PlanParts}
use Rattle.admission.specs.Entries.{Told}
use Rattle.admission.specs.Progress.{fault}
use Rattle.admission.specs.declared.policy.Policy.{Policy}
use Rattle.frozen_state.specs.Frozen.{FrozenView}
use Rattle.frozen_state.specs.Forms.{AreApart}
use Rattle.checkpoint.specs.Form.{FormView}
use Rattle.checkpoint.specs.Text.{checkpoint_lines, IsOfForm}
use Rattle.checkpoint.proofs.Unfinished.{one_front}
use Rattle.tempo_engine.specs.Fed.{last_number}
use Rattle.tempo_engine.specs.Output.{plan_text}
use Rattle.tempo_cli.specs.Answers.{Answers}
use Rattle.tempo_cli.specs.Table.{limit, IsEnd}
use Rattle.tempo_cli.specs.Told.{told_from}
use Rattle.tempo_cli.specs.Resumed.{resumed}
use Rattle.tempo_cli.specs.Freezing.{Froze, IsShort}
use Rattle.tempo_cli.specs.Restoring.{AreFront, IsBegun, IsNotWhole, IsRefusedAt, IsUnclaimed, Resumes}
use Rattle.tempo_cli.specs.Restored.{IsQuiet, IsRestoreEnd, BreaksOff, IsFitting}
use Rattle.tempo_cli.specs.declared.status.Status.{Status}
use Rattle.tempo_cli.specs.declared.status.Status.TheVariants.{InputTooLong, ReadFault, Memory, BadCheckpoint}
use Rattle.tempo_cli.proofs.Fronts.{le_or_lt, shorter_front, last_all, front_all}

-- nothing is asked until the checkpoint has come in
pub quiet_resumed : (plan : PlanParts) (policy : Policy) (before : List Told) (k : ℕ) → fault plan policy before false ≡ None → IsQuiet (resumed plan policy before k) k
quiet_resumed plan policy before k fine =
    let none : (ls : List (List ℕ)) → length ls ≤ k → before ++ told_from plan.streams false (suc (last_number before)) (drop k ls) ≡ before =
    λ ls low. ap (λ x. before ++ told_from plan.streams false (suc (last_number before)) x) (drop_all k ls low) ∙ append-nil before in
    let n = length (plan_text plan policy before false) in
    record {
      no_fault = λ ls low. ap (λ x. fault plan policy x false) (none ls low) ∙ fine;
      no_text = λ ls low. ap (λ x. drop n (plan_text plan policy x false)) (none ls low) ∙ drop_all n (plan_text plan policy before false) (omega arith);
    }

pub quiet_less : {a : Answers} (m n : ℕ) → n ≤ m → IsQuiet a m → IsQuiet a n
quiet_less {a} m n low q = record { no_fault = λ ls l. q.no_fault ls (omega arith); no_text = λ ls l. q.no_text ls (omega arith) }

-- a checkpoint in front of the lines isn't among those that were taken of one that goes on
still_begun : {form : FormView} {Fits : FrozenView → Type 0} {given ls C : List (List ℕ)} → Froze form Fits C → AreFront C ls → AreFront given ls → IsBegun form given → length given < length C
still_begun {form} {Fits} {given} {ls} {C} froze front came begun = elim (le_or_lt (length C) (length given)) [
  | inl low ↦
      let f = shorter_front C given ls front came low in
      absurd (begun.unfinished.none_whole froze.frozen f.0 froze.of_form (f.1 ∙ ap (λ x. x ++ f.0) froze.text))
  | inr low ↦ low
]

-- a checkpoint of a state is refused nowhere
module _ {form : FormView} {Fits : FrozenView → Type 0} {C ls : List (List ℕ)} (froze : Froze form Fits C) (front : AreFront C ls) where
  pub never_torn : (over : Bool) (n : ℕ) → IsNotWhole form ls over n → ⊥
  never_torn over n (inl t) =
      let upto : List (List ℕ) = t.before ++ t.line ∷ [] in
      let low : length t.before < length C = still_begun froze front (t.line ∷ t.front.0, t.front.1 ∙ append_assoc t.before (t.line ∷ []) t.front.0) t.begun in
      let f = shorter_front upto C ls t.front front (omega (arith, low, length-append t.before (t.line ∷ []))) in
      elim t.refused [
        | inl long ↦ let short : length t.line ≤ 65536 = last_all IsShort t.before t.line (front_all IsShort upto f.0 (subst (All IsShort) f.1 froze.short)) in absurd (omega arith)
        | inr not ↦ not (record { frozen = froze.frozen; rest = f.0; of_form = froze.of_form; text = sym froze.text ∙ f.1 })
      ]
  never_torn over n (inr t) = t.begun.unfinished.none_whole froze.frozen front.0 froze.of_form (front.1 ∙ ap (λ x. x ++ front.0) froze.text)

  -- another one in front of the lines is the same
  pub same_whole : (f : FrozenView) → AreApart form.parts → IsOfForm form f → AreFront (checkpoint_lines form.head f) ls → froze.frozen ≡ f
  same_whole f apart of_form other = elim (le_or_lt (length C) (length (checkpoint_lines form.head f))) [
    | inl low ↦ let x = shorter_front C (checkpoint_lines form.head f) ls front other low in
        sym (one_front form f froze.frozen x.0 of_form froze.of_form apart (x.1 ∙ ap (λ y. y ++ x.0) froze.text))
    | inr low ↦ let x = shorter_front (checkpoint_lines form.head f) C ls other front (omega arith) in
        one_front form froze.frozen f x.0 froze.of_form of_form apart (sym froze.text ∙ x.1)
  ]

  pub never_refused : {IsState : FrozenView → Type 0} (over : Bool) (n : ℕ) → AreApart form.parts → ((f : FrozenView) → Fits f → IsState f) → IsRefusedAt form IsState ls over n → ⊥
  never_refused {IsState} over n apart state (inl torn) = never_torn over n torn
  never_refused {IsState} over n apart state (inr s) = s.refused (subst IsState (same_whole s.frozen apart s.read.of_form s.read.front) (state froze.frozen froze.fits))

-- it is as the table says of what is asked behind the checkpoint
module _ {form : FormView} {Fits : List Told → FrozenView → Type 0} {IsState : FrozenView → Type 0} {plan : PlanParts} {policy : Policy} (fitting : IsFitting form Fits IsState plan policy)
    {status : Status} {J : List Entry} (b : BreaksOff form status J) where
  broken_end : (before : List Told) (C : List (List ℕ)) → Froze form (Fits before) C → AreFront C (lines (ins J) (ended J)) → (s : Status) → IsRestoreEnd form s (ins J) b.given (ended J) → IsQuiet (resumed plan policy before (length C)) (length b.given) →
      IsEnd (resumed plan policy before (length C)) s (ins J) (outs J) (ended J)
  broken_end before C froze front InputTooLong end quiet =
      let low : length (whole (take limit (ins J))) ≤ length b.given = omega (arith, ap length end.1) in
      record { long = end.0; short = end.2; no_fault = quiet.no_fault _ low; written = b.heard.unwritten ∙ sym (quiet.no_text _ low) }
  broken_end before C froze front ReadFault end quiet =
      let low : length (lines (ins J) (ended J)) ≤ length b.given = omega (arith, ap length end.1) in
      record { goes_on = end.0; no_fault = quiet.no_fault _ low; written = b.heard.unwritten ∙ sym (quiet.no_text _ low) }
  broken_end before C froze front Memory end quiet = record { k = 0; few = omega arith; written = b.heard.unwritten ∙ sym (quiet.no_text [] (omega arith)) }
  broken_end before C froze front (BadCheckpoint n) end quiet = never_torn froze front (ended J) n end.1
  broken_end before C froze front s end quiet = absurd end

  broken_unclaimed : (s : Status) → IsRestoreEnd form s (ins J) b.given (ended J) → IsUnclaimed form IsState plan.streams s J
  broken_unclaimed InputTooLong end = record { long = end.0; silent = inl (b.heard.unwritten, subst (IsBegun form) (sym end.1) b.stops.begun, end.2) }
  broken_unclaimed ReadFault end = inl b.heard.unwritten
  broken_unclaimed Memory end = inl b.heard.unwritten
  broken_unclaimed (BadCheckpoint n) end = record { within = inl end.0; first = inl end.1; unwritten = b.heard.unwritten }
  broken_unclaimed s end = absurd end

  pub broken_resumes : Resumes form Fits IsState plan policy status J
  broken_resumes = record {
    resumed = λ before C froze front.
        let low = still_begun froze front b.stops.front b.stops.begun in
        let quiet = quiet_less (length C) (length b.given) (omega (arith, low)) (quiet_resumed plan policy before (length C) (fitting.fine before froze.frozen froze.fits)) in
        record { prompt = b.heard.prompt _ quiet; end = broken_end before C froze front status b.stops.end quiet };
    unclaimed = broken_unclaimed status b.stops.end;
  }
