-- Words that are taken spell a command, and clap's getters give it.
use Rattle.std.proofs.Common.{◌≡◌, ◌∙◌, ◌||◌, ℕ, Bool, cond, true, false, inl, inr, refl, sym, ap, subst, true≢false, List, codes, Option, Some, None, is_some, option_map}
use Rattle.std.specs.Str.{bytes_eq}
use Rattle.std.proofs.lemmas.Slice.Eq.{bytes_eq-Decides}
use Rattle.clap.specs.Values.{IsUnsignedIn, bool_text}
use Rattle.clap.specs.Walk.{Text, rows_of, first_of, one_of}
use Rattle.clap.specs.Simple.{argument_words, matches_of}
use Rattle.clap.specs.Takes.{takes, value_passes}
use Rattle.clap.specs.declared.builder.value_parser.ValueParser.TheVariants as vp
use Rattle.clap.specs.declared.parser.matches.Found.{Found}
use Rattle.clap.proofs.ValueTestLemmas.{accepts-Accepts}
use Rattle.clap.proofs.WalkLemmas.{both, first_value-rows, one_text-rows}
use Rattle.command_line.specs.Options.{tempo_app}
use Rattle.command_line.specs.Words.{AreWithin, Asked, IsKeeping, Kept, ShowsCommand, ShowsKeeping, SpellsCommand, SpellsKeeping, are_read, are_taken, go_together, is_run, late_text, mode_text, number_said, value_of}
use Rattle.admission.specs.declared.policy.Lateness.{Lateness}
use Rattle.admission.specs.declared.policy.Lateness.TheVariants.{Refuse, Drop, Adjust}
use Rattle.clap.specs.ValueTests.{accepts}
use Rattle.command_line.specs.declared.words.Mode.{Mode}
use Rattle.command_line.specs.declared.words.Mode.TheVariants.{Run, Freeze, Resume, Explain, Cut, Sample}
use Rattle.command_line.proofs.Taken.{MayRead, Values, checkpoint_built, header_built, last_rows, late_built, mode_built, modes, ways, tempo_shape, values_of_words}
use Rattle.command_line.proofs.Faults.{passes_of}

mode_said : (v : Text) → value_passes mode_built v ≡ true → (m : Mode) × (v ≡ mode_text m)
mode_said v h = go (bytes_eq (codes "run") v) refl (bytes_eq (codes "freeze") v) refl (bytes_eq (codes "resume") v) refl (bytes_eq (codes "explain") v) refl (bytes_eq (codes "cut") v) refl (bytes_eq (codes "sample") v) refl h
  where
    go : (a : Bool) → bytes_eq (codes "run") v ≡ a → (b : Bool) → bytes_eq (codes "freeze") v ≡ b → (d : Bool) → bytes_eq (codes "resume") v ≡ d → (e : Bool) → bytes_eq (codes "explain") v ≡ e → (f : Bool) → bytes_eq (codes "cut") v ≡ f → (g : Bool) → bytes_eq (codes "sample") v ≡ g → (a || (b || (d || (e || (f || (g || false)))))) ≡ true → (m : Mode) × (v ≡ mode_text m)
    go true p b q d r e s f t g u x = (Run, sym ((bytes_eq-Decides (codes "run") v).0 p))
    go false p true q d r e s f t g u x = (Freeze, sym ((bytes_eq-Decides (codes "freeze") v).0 q))
    go false p false q true r e s f t g u x = (Resume, sym ((bytes_eq-Decides (codes "resume") v).0 r))
    go false p false q false r true s f t g u x = (Explain, sym ((bytes_eq-Decides (codes "explain") v).0 s))
    go false p false q false r false s true t g u x = (Cut, sym ((bytes_eq-Decides (codes "cut") v).0 t))
    go false p false q false r false s false t true u x = (Sample, sym ((bytes_eq-Decides (codes "sample") v).0 u))
    go false p false q false r false s false t false u x = absurd (true≢false (sym x))

header_said : (v : Text) → value_passes header_built v ≡ true → (b : Bool) × (v ≡ bool_text b)
header_said v e = go (bytes_eq v (codes "true")) refl (bytes_eq v (codes "false")) refl e
  where
    go : (a : Bool) → bytes_eq v (codes "true") ≡ a → (b : Bool) → bytes_eq v (codes "false") ≡ b → (a || b) ≡ true → (h : Bool) × (v ≡ bool_text h)
    go true p b q x = (true, (bytes_eq-Decides v (codes "true")).0 p)
    go false p true q x = (false, (bytes_eq-Decides v (codes "false")).0 q)
    go false p false q x = absurd (true≢false (sym x))

late_said : (v : Text) → value_passes late_built v ≡ true → (l : Lateness) × (v ≡ late_text l)
late_said v e = go (bytes_eq (codes "refuse") v) refl (bytes_eq (codes "drop") v) refl (bytes_eq (codes "adjust") v) refl e
  where
    go : (a : Bool) → bytes_eq (codes "refuse") v ≡ a → (b : Bool) → bytes_eq (codes "drop") v ≡ b → (d : Bool) → bytes_eq (codes "adjust") v ≡ d → (a || (b || (d || false))) ≡ true → (l : Lateness) × (v ≡ late_text l)
    go true p b q d r x = (Refuse, sym ((bytes_eq-Decides (codes "refuse") v).0 p))
    go false p true q d r x = (Drop, sym ((bytes_eq-Decides (codes "drop") v).0 q))
    go false p false q true r x = (Adjust, sym ((bytes_eq-Decides (codes "adjust") v).0 r))
    go false p false q false r x = absurd (true≢false (sym x))

-- --checkpoint goes with the mode run alone
run_alone : (mode : Option Text) (m : Mode) → mode ≡ Some (mode_text m) → is_run mode ≡ true → m ≡ Run
run_alone mode m e r = go m (subst (λ (o : Option Text). is_run o ≡ true) e r)
  where
    go : (m : Mode) → bytes_eq (mode_text m) (codes "run") ≡ true → m ≡ Run
    go Run r = refl
    go Freeze r = absurd (true≢false (sym r))
    go Resume r = absurd (true≢false (sym r))
    go Explain r = absurd (true≢false (sym r))
    go Cut r = absurd (true≢false (sym r))
    go Sample r = absurd (true≢false (sym r))

number_is_said : (least most : ℕ) (v : Text) → accepts false (vp.Unsigned least most) v ≡ true → IsUnsignedIn least most v
number_is_said least most v e = accepts-Accepts false (vp.Unsigned least most) v e

-- what is kept, as the words spell it
record SpelledKeeping (mode : Mode) (words : List Text) : Type 0 where
  asked : Option Kept
  spells : SpellsKeeping words asked
  within : IsKeeping mode asked
  shows : (f : Found) → rows_of f ≡ matches_of tempo_app words → ShowsKeeping f asked

kept_runs : (b r o : Bool) → b ≡ true → cond b r o ≡ true → r ≡ true
kept_runs true r o e h = h
kept_runs false r o e h = absurd (true≢false (sym e))

keeping_said : (mode : Mode) (words : List Text) → Values (matches_of tempo_app words) → value_of words (codes "mode") ≡ Some (mode_text mode) → go_together (matches_of tempo_app words) ≡ true
    → MayRead checkpoint_built (codes "checkpoint") (matches_of tempo_app words) → SpelledKeeping mode words
unfolding value_of
keeping_said mode words values is together (inl none) = record {
  asked = None;
  spells = none;
  within = tt;
  shows = λ f same. first_value-rows f (codes "checkpoint") ∙ ap (first_of (codes "checkpoint")) same ∙ none;
}
keeping_said mode words values is together (inr file) =
    let every = number_is_said 1 1152921504606846975 values.every.text values.every.passes in
    let is_kept : is_some (first_of (codes "checkpoint") (matches_of tempo_app words)) ≡ true = ap is_some file.first in
    let runs : is_run (first_of (codes "mode") (matches_of tempo_app words)) ≡ true = kept_runs (is_some (first_of (codes "checkpoint") (matches_of tempo_app words))) (is_run (first_of (codes "mode") (matches_of tempo_app words))) _ is_kept together in
    record {
      asked = Some (record { checkpoint = file.text; every = number_said values.every.text; input = values.input.text; output = values.output.text });
      spells = record {
        checkpoint = file.first;
        every = ap (option_map number_said) values.every.first;
        input = values.input.first;
        output = values.output.first;
      };
      within = record {
        runs = run_alone _ mode is runs;
        checkpoint = accepts-Accepts false vp.NonEmptyString file.text file.passes;
        some_time = every.2;
        every = every.3;
        input = accepts-Accepts false vp.NonEmptyString values.input.text values.input.passes;
        output = accepts-Accepts false vp.NonEmptyString values.output.text values.output.passes;
      };
      shows = λ f same. record {
        checkpoint = first_value-rows f (codes "checkpoint") ∙ ap (first_of (codes "checkpoint")) same ∙ file.first;
        every = record { text = values.every.text; one = one_text-rows f (codes "every") ∙ ap (one_of (codes "every")) same ∙ values.every.one; in_range = every; number_is = refl };
        input = first_value-rows f (codes "input") ∙ ap (first_of (codes "input")) same ∙ values.input.first;
        output = first_value-rows f (codes "output") ∙ ap (first_of (codes "output")) same ∙ values.output.first;
      };
    }

-- the command that the words spell
pub record Spelled (words : List Text) : Type 0 where
  pub asked : Asked
  pub spells : SpellsCommand words asked
  pub within : AreWithin asked
  pub shows : (f : Found) → rows_of f ≡ matches_of tempo_app words → ShowsCommand f asked

pub spelled : (words : List Text) → are_taken words ≡ true → Spelled words
unfolding are_taken are_read value_of
spelled words taken =
    let given = argument_words tempo_app words in
    let rows = last_rows tempo_shape given in
    let parts = both (takes tempo_app words) (go_together (matches_of tempo_app words)) taken in
    let values = values_of_words given (passes_of modes ways words parts.0) in
    let mode = mode_said values.mode.text values.mode.passes in
    let header = header_said values.header.text values.header.passes in
    let batch = number_is_said 1 8192 values.batch.text values.batch.passes in
    let workers = number_is_said 1 16 values.workers.text values.workers.passes in
    let late = late_said values.late.text values.late.passes in
    let lateness = number_is_said 0 1152921504606846975 values.lateness.text values.lateness.passes in
    let punctuate = number_is_said 0 1152921504606846975 values.punctuate.text values.punctuate.passes in
    let number = number_is_said 0 4294967295 values.number.text values.number.passes in
    let events = number_is_said 1 1000000 values.events.text values.events.passes in
    let keeping = keeping_said mode.0 words values (values.mode.first ∙ ap (λ (t : Text). Some t) mode.1) parts.1 values.checkpoint in
    record {
      asked = record {
        query = values.query.text;
        mode = mode.0;
        batch = number_said values.batch.text;
        workers = number_said values.workers.text;
        header = header.0;
        policy = record { lateness = number_said values.lateness.text; late = late.0; period = number_said values.punctuate.text };
        number = number_said values.number.text;
        events = number_said values.events.text;
        keeping = keeping.asked;
      };
      spells = record {
        taken = taken;
        query = values.query.first;
        mode = values.mode.first ∙ ap (λ (t : Text). Some t) mode.1;
        batch = ap (option_map number_said) values.batch.first;
        workers = ap (option_map number_said) values.workers.first;
        header = values.header.first ∙ ap (λ (t : Text). Some t) header.1;
        late = values.late.first ∙ ap (λ (t : Text). Some t) late.1;
        lateness = ap (option_map number_said) values.lateness.first;
        punctuate = ap (option_map number_said) values.punctuate.first;
        number = ap (option_map number_said) values.number.first;
        events = ap (option_map number_said) values.events.first;
        keeping = keeping.spells;
      };
      within = record { least = batch.2; most = batch.3; some_workers = workers.2; workers = workers.3; lateness = lateness.3; period = punctuate.3; number = number.3; some_events = events.2; events = events.3; keeping = keeping.within };
      shows = λ f same. record {
        query = first_value-rows f (codes "query") ∙ ap (first_of (codes "query")) same ∙ values.query.first;
        mode = first_value-rows f (codes "mode") ∙ ap (first_of (codes "mode")) same ∙ values.mode.first ∙ ap (λ (t : Text). Some t) mode.1;
        batch = record { text = values.batch.text; one = one_text-rows f (codes "batch") ∙ ap (one_of (codes "batch")) same ∙ values.batch.one; in_range = batch; number_is = refl };
        workers = record { text = values.workers.text; one = one_text-rows f (codes "workers") ∙ ap (one_of (codes "workers")) same ∙ values.workers.one; in_range = workers; number_is = refl };
        header = one_text-rows f (codes "header") ∙ ap (one_of (codes "header")) same ∙ values.header.one ∙ ap (λ (t : Text). Some t) header.1;
        late = first_value-rows f (codes "late") ∙ ap (first_of (codes "late")) same ∙ values.late.first ∙ ap (λ (t : Text). Some t) late.1;
        lateness = record { text = values.lateness.text; one = one_text-rows f (codes "lateness") ∙ ap (one_of (codes "lateness")) same ∙ values.lateness.one; in_range = lateness; number_is = refl };
        punctuate = record { text = values.punctuate.text; one = one_text-rows f (codes "punctuate") ∙ ap (one_of (codes "punctuate")) same ∙ values.punctuate.one; in_range = punctuate; number_is = refl };
        number = record { text = values.number.text; one = one_text-rows f (codes "number") ∙ ap (one_of (codes "number")) same ∙ values.number.one; in_range = number; number_is = refl };
        events = record { text = values.events.text; one = one_text-rows f (codes "events") ∙ ap (one_of (codes "events")) same ∙ values.events.one; in_range = events; number_is = refl };
        keeping = keeping.shows f same;
      };
    }
