-- The words that print a command ask for it.
use Rattle.std.proofs.Common.{◌≡◌, ◌∙◌, ◌==◌, ◌&&◌, ◌<◌, ◌≤◌, ◌^◌, ◌++◌, ℕ, Bool, cond, true, false, true≢false, refl, sym, ap, subst, arith, List, [], ◌∷◌, codes, drop, decimal, Option, Some, None, is_some, option_map}
use Rattle.std.specs.Str.{bytes_eq}
use Rattle.std.specs.Str.Parse.{IsNumeral, digits_value, without_leading_plus}
use Rattle.std.proofs.lemmas.Bool.{ne_eqb}
use Rattle.std.proofs.lemmas.Fmt.{decimal_is_IsNumeral}
use Rattle.std.proofs.lemmas.Str.Parse.{digit_from_value}
use Rattle.clap.specs.Values.{bool_text}
use Rattle.clap.specs.ValueTests.{accepts}
use Rattle.clap.specs.Walk.{Text, first_of}
use Rattle.clap.specs.Simple.{matches_of}
use Rattle.clap.specs.Takes.{takes}
use Rattle.clap.specs.declared.builder.value_parser.ValueParser.TheVariants as vp
use Rattle.clap.proofs.OnLiterals.{clap_on_literals}
use Rattle.clap.proofs.ValueTestLemmas.{Accepts-accepts}
use Rattle.command_line.specs.Options.{tempo_app}
use Rattle.command_line.specs.Words.{AreWithin, Asked, IsKeeping, Kept, SpellsCommand, SpellsKeeping, are_read, are_taken, go_together, header_words, keeping_words, late_text, mode_text, number_said, value_of, words_for}
use Rattle.admission.specs.declared.policy.Lateness.{Lateness}
use Rattle.admission.specs.declared.policy.Lateness.TheVariants.{Refuse, Drop, Adjust}
use Rattle.command_line.specs.declared.words.Mode.{Mode}
use Rattle.command_line.specs.declared.words.Mode.TheVariants.{Run, Freeze, Resume, Explain, Cut, Sample}
use Rattle.command_line.proofs.Taken.{Passes, modes, ways, tempo_shape}
use Rattle.command_line.proofs.Faults.{takes_from}

-- what is kept, with the number as a text
record KeptTexts : Type 0 where
  checkpoint : Text
  every : Text
  input : Text
  output : Text

abbrev words_kept : Option KeptTexts → List Text
words_kept None = []
words_kept (Some k) = (codes "--checkpoint=" ++ k.checkpoint) ∷ (codes "--every=" ++ k.every) ∷ (codes "--input=" ++ k.input) ∷ (codes "--output=" ++ k.output) ∷ []

-- the words, with the modes and the numbers as texts
abbrev words_with : Text → Text → Text → Text → Text → Text → Text → Text → Text → Option KeptTexts → Bool → List Text
words_with query mode batch workers late lateness period number events keeping header =
    codes "tempo" ∷ (codes "--query=" ++ query) ∷ (codes "--mode=" ++ mode) ∷ (codes "--batch=" ++ batch) ∷ (codes "--workers=" ++ workers)
    ∷ (codes "--late=" ++ late) ∷ (codes "--lateness=" ++ lateness) ∷ (codes "--punctuate=" ++ period) ∷ (codes "--number=" ++ number) ∷ (codes "--events=" ++ events) ∷ words_kept keeping ++ header_words header

-- what clap asks of a word with a value that has this test
abbrev asks : Bool → Bool
asks t = (t && true) && true

-- each of the tests passes
abbrev all_pass : List Bool → Bool
all_pass [] = true
all_pass (t ∷ ts) = asks t && all_pass ts

abbrev AllHold : List Bool → Type 0
AllHold [] = Unit {0}
AllHold (t ∷ ts) = (t ≡ true) × AllHold ts

they_pass : (ts : List Bool) → AllHold ts → all_pass ts ≡ true
they_pass [] h = refl
they_pass (t ∷ ts) h = rw (h.0, they_pass ts h.1) refl

abbrev kept_tests : Option KeptTexts → List Bool
kept_tests None = []
kept_tests (Some k) = accepts false vp.NonEmptyString k.checkpoint ∷ accepts false (vp.Unsigned 1 1152921504606846975) k.every ∷ accepts false vp.NonEmptyString k.input ∷ accepts false vp.NonEmptyString k.output ∷ []

module _ (query mode batch workers late lateness period number events : Text) where
  abbrev given : Option KeptTexts → Bool → List Text
  given keeping header = words_with query mode batch workers late lateness period number events keeping header

  abbrev tests : Option KeptTexts → List Bool
  tests keeping = accepts false modes mode ∷ accepts false (vp.Unsigned 1 8192) batch ∷ accepts false (vp.Unsigned 1 16) workers ∷ accepts false ways late ∷ accepts false (vp.Unsigned 0 1152921504606846975) lateness ∷ accepts false (vp.Unsigned 0 1152921504606846975) period ∷ accepts false (vp.Unsigned 0 4294967295) number ∷ accepts false (vp.Unsigned 1 1000000) events ∷ kept_tests keeping

  passes : (keeping : Option KeptTexts) (header : Bool) → AllHold (tests keeping) → Passes tempo_shape (drop 1 (given keeping header))
  unfolding clap_on_literals
  passes None true h = record { walks = they_pass (tests None) h; settles = refl; query = refl }
  passes None false h = record { walks = they_pass (tests None) h; settles = refl; query = refl }
  passes (Some k) true h = record { walks = they_pass (tests (Some k)) h; settles = refl; query = refl }
  passes (Some k) false h = record { walks = they_pass (tests (Some k)) h; settles = refl; query = refl }

  -- options that are kept go together in the mode run
  fits : (keeping : Option KeptTexts) (header : Bool) → (is_some keeping ≡ true → bytes_eq mode (codes "run") ≡ true) → go_together (matches_of tempo_app (given keeping header)) ≡ true
  unfolding clap_on_literals
  fits None true runs = refl
  fits None false runs = refl
  fits (Some k) true runs = runs refl
  fits (Some k) false runs = runs refl

  query_is : (keeping : Option KeptTexts) (header : Bool) → first_of (codes "query") (matches_of tempo_app (given keeping header)) ≡ Some query
  unfolding clap_on_literals
  query_is None true = refl
  query_is None false = refl
  query_is (Some k) true = refl
  query_is (Some k) false = refl

  mode_is : (keeping : Option KeptTexts) (header : Bool) → first_of (codes "mode") (matches_of tempo_app (given keeping header)) ≡ Some mode
  unfolding clap_on_literals
  mode_is None true = refl
  mode_is None false = refl
  mode_is (Some k) true = refl
  mode_is (Some k) false = refl

  batch_is : (keeping : Option KeptTexts) (header : Bool) → first_of (codes "batch") (matches_of tempo_app (given keeping header)) ≡ Some batch
  unfolding clap_on_literals
  batch_is None true = refl
  batch_is None false = refl
  batch_is (Some k) true = refl
  batch_is (Some k) false = refl

  workers_is : (keeping : Option KeptTexts) (header : Bool) → first_of (codes "workers") (matches_of tempo_app (given keeping header)) ≡ Some workers
  unfolding clap_on_literals
  workers_is None true = refl
  workers_is None false = refl
  workers_is (Some k) true = refl
  workers_is (Some k) false = refl

  late_is : (keeping : Option KeptTexts) (header : Bool) → first_of (codes "late") (matches_of tempo_app (given keeping header)) ≡ Some late
  unfolding clap_on_literals
  late_is None true = refl
  late_is None false = refl
  late_is (Some k) true = refl
  late_is (Some k) false = refl

  lateness_is : (keeping : Option KeptTexts) (header : Bool) → first_of (codes "lateness") (matches_of tempo_app (given keeping header)) ≡ Some lateness
  unfolding clap_on_literals
  lateness_is None true = refl
  lateness_is None false = refl
  lateness_is (Some k) true = refl
  lateness_is (Some k) false = refl

  punctuate_is : (keeping : Option KeptTexts) (header : Bool) → first_of (codes "punctuate") (matches_of tempo_app (given keeping header)) ≡ Some period
  unfolding clap_on_literals
  punctuate_is None true = refl
  punctuate_is None false = refl
  punctuate_is (Some k) true = refl
  punctuate_is (Some k) false = refl

  number_is : (keeping : Option KeptTexts) (header : Bool) → first_of (codes "number") (matches_of tempo_app (given keeping header)) ≡ Some number
  unfolding clap_on_literals
  number_is None true = refl
  number_is None false = refl
  number_is (Some k) true = refl
  number_is (Some k) false = refl

  events_is : (keeping : Option KeptTexts) (header : Bool) → first_of (codes "events") (matches_of tempo_app (given keeping header)) ≡ Some events
  unfolding clap_on_literals
  events_is None true = refl
  events_is None false = refl
  events_is (Some k) true = refl
  events_is (Some k) false = refl

  header_is : (keeping : Option KeptTexts) (header : Bool) → first_of (codes "header") (matches_of tempo_app (given keeping header)) ≡ Some (bool_text header)
  unfolding clap_on_literals
  header_is None true = refl
  header_is None false = refl
  header_is (Some k) true = refl
  header_is (Some k) false = refl

  none_kept : (header : Bool) → first_of (codes "checkpoint") (matches_of tempo_app (given None header)) ≡ None
  unfolding clap_on_literals
  none_kept true = refl
  none_kept false = refl

  checkpoint_is : (k : KeptTexts) (header : Bool) → first_of (codes "checkpoint") (matches_of tempo_app (given (Some k) header)) ≡ Some k.checkpoint
  unfolding clap_on_literals
  checkpoint_is k true = refl
  checkpoint_is k false = refl

  every_is : (k : KeptTexts) (header : Bool) → first_of (codes "every") (matches_of tempo_app (given (Some k) header)) ≡ Some k.every
  unfolding clap_on_literals
  every_is k true = refl
  every_is k false = refl

  input_is : (k : KeptTexts) (header : Bool) → first_of (codes "input") (matches_of tempo_app (given (Some k) header)) ≡ Some k.input
  unfolding clap_on_literals
  input_is k true = refl
  input_is k false = refl

  output_is : (k : KeptTexts) (header : Bool) → first_of (codes "output") (matches_of tempo_app (given (Some k) header)) ≡ Some k.output
  unfolding clap_on_literals
  output_is k true = refl
  output_is k false = refl

mode_passes : (m : Mode) → accepts false modes (mode_text m) ≡ true
mode_passes Run = refl
mode_passes Freeze = refl
mode_passes Resume = refl
mode_passes Explain = refl
mode_passes Cut = refl
mode_passes Sample = refl

late_passes : (l : Lateness) → accepts false ways (late_text l) ≡ true
late_passes Refuse = refl
late_passes Drop = refl
late_passes Adjust = refl

no_plus : (ds : Text) → IsNumeral 10 ds → without_leading_plus ds ≡ ds
no_plus [] h = refl
no_plus (d ∷ ds) h =
    let plus : (d == 43) ≡ false = ne_eqb d 43 (λ e. omega (arith, digit_from_value d h.1.0)) in
    ap (λ (b : Bool). drop (cond b 1 0) (d ∷ ds)) plus

decimal_said : (n : ℕ) → n < 2 ^ 64 → (without_leading_plus (decimal n) ≡ decimal n) × (digits_value 10 (without_leading_plus (decimal n)) ≡ n) × IsNumeral 10 (decimal n)
decimal_said n fits =
    let written = decimal_is_IsNumeral n fits in
    let same = no_plus (decimal n) written.0 in
    (same, ap (digits_value 10) same ∙ written.1, written.0)

in_range : (low high n : ℕ) → low ≤ n → n ≤ high → n < 2 ^ 64 → accepts false (vp.Unsigned low high) (decimal n) ≡ true
in_range low high n least most small =
    let number = decimal_said n small in
    Accepts-accepts false (vp.Unsigned low high) (decimal n)
    (rw number.0 number.2, rw number.1 small, rw number.1 least, rw number.1 most)

abbrev texts_of : Option Kept → Option KeptTexts
texts_of None = None
texts_of (Some k) = Some (record { checkpoint = k.checkpoint; every = decimal k.every; input = k.input; output = k.output })

texts_pass : (mode : Mode) (keeping : Option Kept) → IsKeeping mode keeping → AllHold (kept_tests (texts_of keeping))
texts_pass mode None w = tt
texts_pass mode (Some k) w = (
  Accepts-accepts false vp.NonEmptyString k.checkpoint w.checkpoint,
  (
    in_range 1 1152921504606846975 k.every w.some_time w.every (omega (arith, w.every)),
    (Accepts-accepts false vp.NonEmptyString k.input w.input, (Accepts-accepts false vp.NonEmptyString k.output w.output, tt)),
  ),
)

runs_where_kept : (mode : Mode) (keeping : Option Kept) → IsKeeping mode keeping → is_some (texts_of keeping) ≡ true → bytes_eq (mode_text mode) (codes "run") ≡ true
runs_where_kept mode None w e = absurd (true≢false (sym e))
runs_where_kept mode (Some k) w e = rw (w.runs) refl

words_printed : (keeping : Option Kept) → words_kept (texts_of keeping) ≡ keeping_words keeping
words_printed None = refl
words_printed (Some k) = refl

-- the same words, with what is kept as texts
abbrev words_of : Asked → List Text
words_of a = words_with a.query (mode_text a.mode) (decimal a.batch) (decimal a.workers) (late_text a.policy.late) (decimal a.policy.lateness) (decimal a.policy.period) (decimal a.number) (decimal a.events) (texts_of a.keeping) a.header

keeping_printed : (a : Asked) → IsKeeping a.mode a.keeping → SpellsKeeping (words_of a) a.keeping
unfolding value_of
keeping_printed a w = go a.keeping w
  where
    go : (keeping : Option Kept) → IsKeeping a.mode keeping → SpellsKeeping (words_of (record a { keeping = keeping })) keeping
    go None w = none_kept a.query (mode_text a.mode) (decimal a.batch) (decimal a.workers) (late_text a.policy.late) (decimal a.policy.lateness) (decimal a.policy.period) (decimal a.number) (decimal a.events) a.header
    go (Some k) w = record {
      checkpoint = checkpoint_is a.query (mode_text a.mode) (decimal a.batch) (decimal a.workers) (late_text a.policy.late) (decimal a.policy.lateness) (decimal a.policy.period) (decimal a.number) (decimal a.events) _ a.header;
      every = ap (option_map number_said) (every_is a.query (mode_text a.mode) (decimal a.batch) (decimal a.workers) (late_text a.policy.late) (decimal a.policy.lateness) (decimal a.policy.period) (decimal a.number) (decimal a.events) _ a.header)
          ∙ ap (λ (n : ℕ). Some n) (decimal_said k.every (omega (arith, w.every))).1;
      input = input_is a.query (mode_text a.mode) (decimal a.batch) (decimal a.workers) (late_text a.policy.late) (decimal a.policy.lateness) (decimal a.policy.period) (decimal a.number) (decimal a.events) _ a.header;
      output = output_is a.query (mode_text a.mode) (decimal a.batch) (decimal a.workers) (late_text a.policy.late) (decimal a.policy.lateness) (decimal a.policy.period) (decimal a.number) (decimal a.events) _ a.header;
    }

spells_texts : (a : Asked) → AreWithin a → SpellsCommand (words_of a) a
unfolding are_taken are_read value_of
spells_texts a w =
    let batch : a.batch < 2 ^ 64 = omega (arith, w.most) in
    let workers : a.workers < 2 ^ 64 = omega (arith, w.workers) in
    let lateness : a.policy.lateness < 2 ^ 64 = omega (arith, w.lateness) in
    let period : a.policy.period < 2 ^ 64 = omega (arith, w.period) in
    let number : a.number < 2 ^ 64 = omega (arith, w.number) in
    let events : a.events < 2 ^ 64 = omega (arith, w.events) in
    let q = a.query in
    let m = mode_text a.mode in
    let b = decimal a.batch in
    let threads = decimal a.workers in
    let l = late_text a.policy.late in
    let older = decimal a.policy.lateness in
    let every = decimal a.policy.period in
    let n = decimal a.number in
    let many = decimal a.events in
    let k = texts_of a.keeping in
    let all : AllHold (tests q m b threads l older every n many k) = (
      mode_passes a.mode,
      (
        in_range 1 8192 a.batch w.least w.most batch,
        (
          in_range 1 16 a.workers w.some_workers w.workers workers,
          (
            late_passes a.policy.late,
            (
              in_range 0 1152921504606846975 a.policy.lateness (omega arith) w.lateness lateness,
              (
                in_range 0 1152921504606846975 a.policy.period (omega arith) w.period period,
                (
                  in_range 0 4294967295 a.number (omega arith) w.number number,
                  (in_range 1 1000000 a.events w.some_events w.events events, texts_pass a.mode a.keeping w.keeping),
                ),
              ),
            ),
          ),
        ),
      ),
    ) in
    let read : takes tempo_app (words_of a) ≡ true = takes_from modes ways (words_of a) refl (passes q m b threads l older every n many k a.header all) in
    record {
      taken = rw (read) (fits q m b threads l older every n many k a.header (runs_where_kept a.mode a.keeping w.keeping));
      query = query_is q m b threads l older every n many k a.header;
      mode = mode_is q m b threads l older every n many k a.header;
      batch = ap (option_map number_said) (batch_is q m b threads l older every n many k a.header) ∙ ap (λ (n : ℕ). Some n) (decimal_said a.batch batch).1;
      workers = ap (option_map number_said) (workers_is q m b threads l older every n many k a.header) ∙ ap (λ (n : ℕ). Some n) (decimal_said a.workers workers).1;
      header = header_is q m b threads l older every n many k a.header;
      late = late_is q m b threads l older every n many k a.header;
      lateness = ap (option_map number_said) (lateness_is q m b threads l older every n many k a.header) ∙ ap (λ (n : ℕ). Some n) (decimal_said a.policy.lateness lateness).1;
      punctuate = ap (option_map number_said) (punctuate_is q m b threads l older every n many k a.header) ∙ ap (λ (n : ℕ). Some n) (decimal_said a.policy.period period).1;
      number = ap (option_map number_said) (number_is q m b threads l older every n many k a.header) ∙ ap (λ (n : ℕ). Some n) (decimal_said a.number number).1;
      events = ap (option_map number_said) (events_is q m b threads l older every n many k a.header) ∙ ap (λ (n : ℕ). Some n) (decimal_said a.events events).1;
      keeping = keeping_printed a w.keeping;
    }

pub printed : (a : Asked) → AreWithin a → SpellsCommand (words_for a) a
printed a w =
    let same : words_of a ≡ words_for a = ap (λ (k : List Text). codes "tempo" ∷ (codes "--query=" ++ a.query) ∷ (codes "--mode=" ++ mode_text a.mode) ∷ (codes "--batch=" ++ decimal a.batch) ∷ (codes "--workers=" ++ decimal a.workers)
    ∷ (codes "--late=" ++ late_text a.policy.late) ∷ (codes "--lateness=" ++ decimal a.policy.lateness) ∷ (codes "--punctuate=" ++ decimal a.policy.period)
    ∷ (codes "--number=" ++ decimal a.number) ∷ (codes "--events=" ++ decimal a.events) ∷ k ++ header_words a.header) (words_printed a.keeping) in
    subst (λ (words : List Text). SpellsCommand words a) same (spells_texts a w)
