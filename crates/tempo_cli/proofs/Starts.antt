-- Where a run starts.
use Rattle.std.proofs.Common.{◌≡◌, ◌≤◌, ◌+◌, ◌^◌, ◌++◌, ℕ, List, [], ◌∷◌, Option, false, Result, Ok, Err, inr, refl, sym, ◌∙◌, ap, subst, arith, append-nil}
use Rattle.std.specs.Prelude.{◌&&◌, nat_eq}
use Rattle.plan_model.specs.IsPlan.{PlanParts}
use Rattle.admission.specs.Entries.{Told}
use Rattle.admission.specs.declared.policy.Policy.{Policy}
use Rattle.tempo_engine.specs.Went.{EngineView}
use Rattle.tempo_engine.specs.declared.engine.Options.{Options}
use Rattle.wire_lines.specs.Cuts.{Cuts}
use Rattle.wire_lines.specs.Lines.{whole}
use Rattle.wire_lines.specs.Journal.{Entry, Did, Start, CutAt, Adds, Grows}
use Rattle.checkpoint.specs.Text.{checkpoint_lines, IsOfForm}
use Rattle.tempo_cli.specs.declared.status.Status.{Status}
use Rattle.tempo_cli.specs.declared.reading.KeptState.{KeptState}
use Rattle.tempo_cli.specs.declared.kept_status.KeptStatus.{KeptStatus}
use Rattle.tempo_cli.specs.declared.kept_status.KeptStatus.TheVariants.{Ended}
use Rattle.tempo_cli.proofs.Adding.{adds_grows}
use Rattle.admission.specs.Progress.{start, steps, fault}
use Rattle.frozen_state.specs.Frozen.{FrozenView}
use Rattle.checkpoint.specs.Form.{FormView, form_of}
use Rattle.command_line.specs.Words.{Asked as Words, AreWithin}
use Rattle.tempo_engine.specs.Fed.{Fed}
use Rattle.tempo_engine.specs.Frozen.{Fits, IsState}
use Rattle.tempo_cli.specs.Table.{limit}
use Rattle.tempo_cli.specs.Feeding.{answers_to, Holds}
use Rattle.tempo_cli.specs.Halting.{IsFormFor}
use Rattle.tempo_cli.specs.declared.answering.Answering.{Answering}
use Rattle.tempo_cli.proofs.Fed.{took_final}
use Rattle.tempo_cli.proofs.Moves.{within_none}
use Rattle.tempo_cli.specs.Restoring.{AreFront}
use Rattle.tempo_cli.specs.Keeping.{Task, Places, AreLow, query_of, place_lines, IsStartOf, HasState}
use Rattle.tempo_cli.specs.Standing.{IsFor, Begun, StartsWith, IsWanting, IsReadAs, BeginsState, HasThawed}
use Rattle.tempo_cli.specs.declared.keeping.Keeper.{Keeper}

pub is_for_words : (t : Task) (k : Keeper) → AreWithin t.asked → k.answering.engine.parts.dataflow.workers ≡ t.asked.workers → k.form ≡ form_of t.asked.query t.asked.workers t.asked.policy t.plan → k.input ≡ t.start.input → IsFor t k
is_for_words t k within workers form input = record {
  form = subst (λ n. IsFormFor t.asked.query n (query_of t) k.form) (sym workers) (record {
    form_is = form;
    workers_fit = omega (arith, within.workers);
    lateness_fits = omega (arith, within.lateness);
    period_fits = omega (arith, within.period);
  });
  workers = workers;
  input = input;
}

pub begun : (t : Task) (every : ℕ) (k : Keeper) → IsFor t k → Holds (query_of t) [] [] k.answering → k.every ≡ every → k.output ≡ t.start.output → t.start.output ≤ 18446744073709551615 → Begun t every k
begun t every k is_for holds each output low = (
  record {
    is_for = is_for;
    prompt = tt;
    holds = holds;
    written = sym (took_final (query_of t) [] k.answering.engine holds.engine).silent;
    keeps = refl;
    few = omega arith;
    output = omega (arith, output);
  },
  each,
)

-- an engine that goes on from what was frozen took the lines that it fits
pub thaw_holds : (t : Task) (f : FrozenView) (a : Answering) → Fits t.asked.workers t.plan t.asked.policy t.before f → f.lines ≤ 2 ^ 62 → Fed t.plan t.asked.policy t.before a.engine →
    a.header ≡ (nat_eq t.start.input 0 && t.asked.header) → a.base ≡ f.lines → a.skipped ≡ 0 → a.cutter.longest ≡ 65536 → a.cutter.total ≡ limit → Cuts [] a.cutter [] → Holds (query_of t) [] [] a
thaw_holds t f a fits low fed header base skipped longest total cuts = record {
  header = header;
  base = base ∙ fits.by.number;
  low = omega (arith, base, low);
  skipped = skipped;
  passed = omega arith;
  within = within_none (answers_to (query_of t)) a.cutter longest total cuts (ap (λ ls. fault t.plan t.asked.policy ls false) (append-nil t.before) ∙ fits.by.fine);
  engine = record { fed = t.before; is = sym (append-nil t.before); took = fed; same = ap (steps t.plan t.asked.policy start) (sym (append-nil t.before)) };
}

-- the options are those of the words
module _ {plan : PlanParts} {f : FrozenView} {o : Options} {batch workers : ℕ} {policy : Policy} (is : o ≡ record { batch = batch; workers = workers; policy = policy }) where
  pub fits_options : (lines : List Told) → Fits workers plan policy lines f → Fits o.workers plan o.policy lines f
  fits_options lines fits =
      subst (λ (p : Policy). Fits o.workers plan p lines f) (sym (ap (λ (x : Options). x.policy) is))
      (subst (λ n. Fits n plan policy lines f) (sym (ap (λ (x : Options). x.workers) is)) fits)

  pub fed_options : {e : EngineView} → ((lines : List Told) → Fits o.workers plan o.policy lines f → Fed plan o.policy lines e) → (lines : List Told) → Fits workers plan policy lines f → Fed plan policy lines e
  fed_options {e} h lines fits = subst (λ (p : Policy). Fed plan p lines e) (ap (λ (x : Options). x.policy) is) (h lines (fits_options lines fits))

  pub state_options : IsState o.workers plan f → IsState workers plan f
  state_options h = subst (λ n. IsState n plan f) (ap (λ (x : Options). x.workers) is) h

-- what was read is a state of what is asked for
pub has_state : (asked : Words) (plan : PlanParts) (bytes : List ℕ) (form : FormView) (state : KeptState) → form ≡ form_of asked.query asked.workers asked.policy plan → BeginsState form (whole bytes) state →
    IsState asked.workers plan state.frozen → HasState asked plan bytes
has_state asked plan bytes form state same begins is = record {
  places = record { input = state.input; output = state.output };
  frozen = state.frozen;
  of_form = subst (λ x. IsOfForm x state.frozen) same begins.of_form;
  front = subst (λ (x : FormView). AreFront (place_lines (record { input = state.input; output = state.output }) ++ checkpoint_lines x.head state.frozen) (whole bytes)) same begins.front;
  state = is;
}

-- what FILE has was read back
module _ {t : Task} {bytes : List ℕ} {form : FormView} (is : IsStartOf t bytes) (same : form ≡ form_of t.asked.query t.asked.workers t.asked.policy t.plan) where
  pub read_as : (r : Result KeptState Status) → ((places : Places) (f : FrozenView) → IsOfForm form f → AreLow places → whole bytes ≡ place_lines places ++ checkpoint_lines form.head f → IsReadAs places f r) → IsReadAs t.start is.froze.frozen r
  read_as r h = h t.start is.froze.frozen (subst (λ x. IsOfForm x is.froze.frozen) (sym same) is.froze.of_form) is.low
      (is.lines_are ∙ (ap (λ x. place_lines t.start ++ x) (is.froze.text ∙ ap (λ (x : FormView). checkpoint_lines x.head is.froze.frozen) (sym same))))

  -- and an engine goes on from it
  pub again_holds : (state : KeptState) (a : Answering) → IsReadAs t.start is.froze.frozen (Ok state) → HasThawed t.asked t.plan state.input state.frozen (Ok a) → Holds (query_of t) [] [] a
  again_holds state a read thaws =
      let low : state.frozen.lines ≤ 2 ^ 62 = subst (λ (g : FrozenView). g.lines ≤ 2 ^ 62) (sym read.0) is.froze.of_form.read.times.0 in
      let fits = subst (Fits t.asked.workers t.plan t.asked.policy t.before) (sym read.0) is.froze.fits in
      subst (λ n. Holds (query_of (record { asked = t.asked; plan = t.plan; before = t.before; start = record { input = n; output = t.start.output } })) [] [] a) read.1 (thaws t.before fits low t.start.output)

  pub again_wants : (state : KeptState) (status : KeptStatus) → IsReadAs t.start is.froze.frozen (Ok state) → HasThawed t.asked t.plan state.input state.frozen (Err status) → IsWanting status
  again_wants state status read thaws = inr (thaws t.before (subst (Fits t.asked.workers t.plan t.asked.policy t.before) (sym read.0) is.froze.fits))

  pub unread_wants : (status : Status) → IsReadAs t.start is.froze.frozen (Err status) → IsWanting (Ended status)
  unread_wants status e = inr (ap Ended e)

same_start : (i o i' o' : ℕ) → i ≡ i' → o ≡ o' → Did (Start i (CutAt o)) ∷ [] ≡ Did (Start i' (CutAt o')) ∷ []
same_start i o i' o' e f = ap (λ x. Did (Start x (CutAt o)) ∷ []) e ∙ ap (λ y. Did (Start i' (CutAt y)) ∷ []) f

pub starts_again : {a b : Option (List Entry)} {i o : ℕ} (t : Task) (every : ℕ) (k : Keeper) → Adds a b (Did (Start i (CutAt o)) ∷ []) → i ≡ t.start.input → o ≡ t.start.output → Begun t every k → Grows a b (StartsWith t every k)
starts_again {a} {b} {i} {o} t every k adds e f b0 = adds_grows adds (same_start i o t.start.input t.start.output e f, b0)
