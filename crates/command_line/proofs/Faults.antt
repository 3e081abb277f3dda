-- What clap makes of words for the command that is built, and for the command of the definition, is the same.
use Rattle.std.proofs.Common.{◌≡◌, ◌∙◌, ◌&&◌, ◌||◌, Bool, true, false, not, refl, sym, ap, ap₂, subst, List, [], ◌∷◌, map, codes, Option, Some, None, is_some}
use Rattle.std.specs.Borrow.{Bor}
use Rattle.std.specs.List.{list_all}
use Rattle.clap.specs.ValueTests.{accepts}
use Rattle.clap.specs.Walk.{Text, finished, nothing_held, settled, walk, walk_from}
use Rattle.clap.specs.Simple.{App, Shape, argument_words, built, entered, is_simple, matches_of}
use Rattle.clap.specs.Takes.{built_takes, default_passes, entered_passes, is_given, level_passes, settle_passes, takes, walk_passes}
use Rattle.clap.specs.Kinds.{check_kinds}
use Rattle.clap.specs.Faults.{defaults_fault, fault_of, is_simple_and_free, level_fault, settle_fault, walk_fault}
use Rattle.clap.specs.declared.builder.value_parser.ValueParser.{ValueParser}
use Rattle.clap.specs.declared.builder.value_parser.ValueParser.TheVariants as vp
use Rattle.clap.proofs.WalkLemmas.{both}
use Rattle.clap.proofs.TakesLemmas.{leaf_takes}
use Rattle.clap.proofs.FaultLemmas.{leaf_fault}
use Rattle.command_line.specs.Options.{among, behind, late_names, mode_names, tempo_app, tempo_app_with}
use Rattle.command_line.proofs.Agreement.{nothing_of_both, settling_agrees, walk_agrees}
use Rattle.command_line.proofs.Pointers.{accepts_at_names, finished_stays, moved_names, moved_rule, moved_shape, rows_stay, settle_stays, walk_passes-moved, walk_stays}
use Rattle.command_line.proofs.Taken.{Passes, last_rows, modes, ways, shape_with, tempo_shape}

abbrev Names : Type 0
Names = Bor (List (Bor Text))

-- the names are these texts
abbrev Are : List Text → Names → Type 0
Are names n = map (λ s. s.now) n.now ≡ names

-- ---- the names where `among` has them

behind-map : (xs : List (Bor Text)) → map (λ (name : Bor Text). behind name.now) xs ≡ map (λ (name : Text). behind name) (map (λ (s : Bor Text). s.now) xs)
behind-map [] = refl
behind-map (x ∷ xs) = ap (λ t. behind x.now ∷ t) (behind-map xs)

names_are : (names : List Text) (n : Names) → Are names n → vp.Names (moved_names n) ≡ among names
names_are names n e = ap (λ xs. vp.Names (behind xs)) (behind-map n.now ∙ ap (map (λ (name : Text). behind name)) e)

shape_is : (n m : Names) → Are mode_names n → Are late_names m → moved_shape (shape_with (vp.Names n) (vp.Names m)) ≡ tempo_shape
shape_is n m e f = ap₂ shape_with (names_are mode_names n e) (names_are late_names m f)

name_passes : (names : List Text) (n : Names) → Are names n → (t : Text) → accepts false (among names) t ≡ true → accepts false (vp.Names n) t ≡ true
name_passes names n e t h = sym (accepts_at_names n t) ∙ (ap (λ p. accepts false p t) (names_are names n e) ∙ h)

-- ---- what passes, from one to the other

to_moved : (s : Shape) (words : List Text) → Passes s words → Passes (moved_shape s) words
to_moved s words p =
    let walks = walk_stays s.rules [] nothing_held words in
    record {
      walks = walk_passes-moved s [] words (walk_from nothing_held) ∙ p.walks;
      settles = ap (λ w. settle_passes (map moved_rule s.rules) s.args_override_self w.held) walks
          ∙ settle_stays s.rules s.args_override_self (walk s.rules [] nothing_held words).held ∙ p.settles;
      query = ap (λ w. is_given (codes "query") (finished (map moved_rule s.rules) w.held)) walks
          ∙ ap (is_given (codes "query")) (finished_stays s.rules (walk s.rules [] nothing_held words).held) ∙ p.query;
    }

from_moved : (s : Shape) (words : List Text) → Passes (moved_shape s) words → Passes s words
from_moved s words p =
    let walks = walk_stays s.rules [] nothing_held words in
    record {
      walks = sym (walk_passes-moved s [] words (walk_from nothing_held)) ∙ p.walks;
      settles = sym (settle_stays s.rules s.args_override_self (walk s.rules [] nothing_held words).held)
          ∙ sym (ap (λ w. settle_passes (map moved_rule s.rules) s.args_override_self w.held) walks) ∙ p.settles;
      query = sym (ap (is_given (codes "query")) (finished_stays s.rules (walk s.rules [] nothing_held words).held))
          ∙ sym (ap (λ w. is_given (codes "query") (finished (map moved_rule s.rules) w.held)) walks) ∙ p.query;
    }

-- ---- a level of a parse

module _ (p r : ValueParser) where
  abbrev it : App
  it = built (tempo_app_with p r)

  level_of : (words : List Text) → built_takes it nothing_held words ≡ true → level_passes it.top [] nothing_held words false ≡ true
  level_of words e = go (walk it.top.rules [] nothing_held words).stopped e
    where
      go : (stop : Option (Text × List Text)) → (entered_passes it stop && level_passes it.top [] nothing_held words (is_some (entered it stop))) ≡ true
          → level_passes it.top [] nothing_held words false ≡ true
      go None x = x
      go (Some q) x = x

  parts_of : (words : List Text) → level_passes it.top [] nothing_held words false ≡ true → Passes it.top words
  parts_of words e =
      let end = (walk it.top.rules [] nothing_held words).held in
      let a = both (walk_passes it.top [] (walk_from nothing_held) words) _ e in
      let b = both (settle_passes it.top.rules it.top.args_override_self end) _ a.1 in
      let d = both (list_all default_passes it.top.rules) _ b.1 in
      record { walks = a.0; settles = b.0; query = (both (is_given (codes "query") (finished it.top.rules end)) _ d.1).0 }

  level_from : (words : List Text) → list_all default_passes it.top.rules ≡ true → Passes it.top words → level_passes it.top [] nothing_held words false ≡ true
  level_from words defaults h = rw (h.walks, h.settles, defaults, h.query) refl

  pub passes_of : (words : List Text) → takes (tempo_app_with p r) words ≡ true → Passes it.top (argument_words (tempo_app_with p r) words)
  passes_of words e = parts_of (argument_words (tempo_app_with p r) words) (level_of (argument_words (tempo_app_with p r) words) e)

  pub takes_from : (words : List Text) → list_all default_passes it.top.rules ≡ true → Passes it.top (argument_words (tempo_app_with p r) words) → takes (tempo_app_with p r) words ≡ true
  takes_from words defaults h =
      leaf_takes it nothing_held (argument_words (tempo_app_with p r) words) refl (level_from (argument_words (tempo_app_with p r) words) defaults h)

  -- where clap finds no fault, each part passes
  pub passes_faultless : (words : List Text) → fault_of (tempo_app_with p r) words ≡ [] → Passes it.top (argument_words (tempo_app_with p r) words)
  passes_faultless words e =
      let given = argument_words (tempo_app_with p r) words in
      let end = (walk it.top.rules [] nothing_held given).held in
      let level : level_fault it.top [] nothing_held given false [] ≡ [] = sym (leaf_fault it nothing_held given refl) ∙ e in
      let a = nothing_of_both (walk_fault it.top [] (walk_from nothing_held) given) _ level in
      let b = nothing_of_both (settle_fault it.top.rules it.top.args_override_self end) _ a.1 in
      let d = nothing_of_both (defaults_fault (settled it.top.rules end).rows it.top.rules) _ b.1 in
      record {
        walks = walk_agrees it.top [] (walk_from nothing_held) given a.0;
        settles = settling_agrees it.top.rules it.top.args_override_self end b.0;
        query = go (is_given (codes "query") (finished it.top.rules end)) d.1;
      }
    where
      go : (g : Bool) → check_kinds false false ((not g || false)) ≡ [] → g ≡ true
      go true x = refl
      go false x = cc

-- ---- the command that is built takes what the definition takes

pub is_free : (n m : Names) → is_simple_and_free (tempo_app_with (vp.Names n) (vp.Names m)) ≡ true
is_free n m = refl

pub is_simple_one : (n m : Names) → is_simple (tempo_app_with (vp.Names n) (vp.Names m)) ≡ true
is_simple_one n m = refl

pub faultless_is_taken : (n m : Names) → Are mode_names n → Are late_names m → (words : List Text) → fault_of (tempo_app_with (vp.Names n) (vp.Names m)) words ≡ [] → takes tempo_app words ≡ true
faultless_is_taken n m e f words none =
    let given = argument_words tempo_app words in
    let there = to_moved (shape_with (vp.Names n) (vp.Names m)) given (passes_faultless (vp.Names n) (vp.Names m) words none) in
    takes_from modes ways words refl (subst (λ s. Passes s given) (shape_is n m e f) there)

pub taken_is_taken : (n m : Names) → Are mode_names n → Are late_names m → (words : List Text) → takes tempo_app words ≡ true → takes (tempo_app_with (vp.Names n) (vp.Names m)) words ≡ true
taken_is_taken n m e f words h =
    let given = argument_words tempo_app words in
    let there : Passes (moved_shape (shape_with (vp.Names n) (vp.Names m))) given = subst (λ s. Passes s given) (sym (shape_is n m e f)) (passes_of modes ways words h) in
    takes_from (vp.Names n) (vp.Names m) words defaults_pass (from_moved (shape_with (vp.Names n) (vp.Names m)) given there)
  where
    defaults_pass : list_all default_passes (shape_with (vp.Names n) (vp.Names m)).rules ≡ true
    defaults_pass = rw (name_passes mode_names n e (codes "run") refl, name_passes late_names m f (codes "refuse") refl) refl

pub same_matches : (n m : Names) → Are mode_names n → Are late_names m → (words : List Text) → matches_of (tempo_app_with (vp.Names n) (vp.Names m)) words ≡ matches_of tempo_app words
same_matches n m e f words =
    sym (rows_stay (shape_with (vp.Names n) (vp.Names m)).rules [] (argument_words tempo_app words))
    ∙ ap (λ (s : Shape). last_rows s (argument_words tempo_app words)) (shape_is n m e f)
