-- Options that go together, and what is kept, as clap's getters tell it.
use Rattle.std.proofs.Common.{◌≡◌, ◌∙◌, ◌&&◌, ◌||◌, ℕ, Bool, cond, true, false, not, List, Option, Some, None, is_some, refl, sym, ap, ap₂, codes}
use Rattle.std.specs.Prelude.{option_and_then, option_map, find}
use Rattle.std.specs.Borrow.{Bor}
use Rattle.std.specs.Str.{bytes_eq}
use Rattle.clap.specs.Facts.{Entry}
use Rattle.clap.specs.Matches.{first_value, matched_of}
use Rattle.clap.specs.Walk.{Row, Text, first_of, row_of, rows_of}
use Rattle.clap.specs.Simple.{matches_of}
use Rattle.clap.specs.declared.parser.matches.Found.{Found}
use Rattle.clap.specs.declared.parser.matches.MatchedArg.{MatchedArg}
use Rattle.clap.specs.declared.parser.matches.ValueSource.{ValueSource}
use Rattle.clap.proofs.WalkLemmas.{find_row, first_value-rows}
use Rattle.command_line.specs.Options.{tempo_app}
use Rattle.command_line.specs.Words.{Kept, ShowsKeeping, ShowsNumber, are_read, are_taken, go_together, is_run, is_said, stands}
use Rattle.command_line.proofs.Same.{kept_is, kept_with}

-- where the value of an option came from, by its row
pub source-rows : (f : Found) (id : Text) → option_and_then (λ (a : MatchedArg). a.source) (matched_of f id) ≡ option_and_then (λ (r : Row). r.source) (find (λ r. bytes_eq r.id id) (rows_of f))
source-rows f id = go (find (λ (e : Entry). bytes_eq e.0.now id) f.entries.items) ∙ ap (option_and_then (λ (r : Row). r.source)) (sym (find_row f.entries.items id))
  where
    go : (o : Option Entry) → option_and_then (λ (a : MatchedArg). a.source) (option_map (λ e. e.1) o) ≡ option_and_then (λ (r : Row). r.source) (option_map row_of o)
    go None = refl
    go (Some e) = refl

-- nothing is kept where no file is named
pub nothing_kept : (f : Found) (k : Option Kept) → first_value f (codes "checkpoint") ≡ None → ShowsKeeping f k → None ≡ k
nothing_kept f None e shows = refl
nothing_kept f (Some k) e shows = absurd (let x : None ≡ Some k.checkpoint = sym e ∙ shows.checkpoint in cc)

-- what is kept where one is
pub something_kept : (f : Found) (k : Option Kept) (file input output : Text) (every : ℕ) → first_value f (codes "checkpoint") ≡ Some file
    → ((least most n : ℕ) → ShowsNumber f (codes "every") least most n → every ≡ n)
    → ((t : Text) → first_value f (codes "input") ≡ Some t → input ≡ t) → ((t : Text) → first_value f (codes "output") ≡ Some t → output ≡ t)
    → ShowsKeeping f k → Some (kept_with file every input output) ≡ k
something_kept f None file input output every e of_every of_input of_output shows = absurd (let x : Some file ≡ None = sym e ∙ shows in cc)
something_kept f (Some k) file input output every e of_every of_input of_output shows =
    let some : Some file ≡ Some k.checkpoint = sym e ∙ shows.checkpoint in
    let same : file ≡ k.checkpoint = cc in
    ap (λ (x : Kept). Some x) (kept_is file k.checkpoint every k.every input k.input output k.output same (of_every 1 1152921504606846975 k.every shows.every) (of_input k.input shows.input) (of_output k.output shows.output))

-- OPTIONS THAT GO TOGETHER
pub said : (f : Found) (name : Text) (s : Option ValueSource) → s ≡ option_and_then (λ (a : MatchedArg). a.source) (matched_of f name) → is_said s ≡ stands name (rows_of f)
said f name s e = ap is_said (e ∙ source-rows f name)

-- an option that goes with --checkpoint alone stands there
abbrev pub more_stands : List Row → Bool
more_stands rows = stands (codes "every") rows || stands (codes "input") rows || stands (codes "output") rows

still_some : (file : Option (Bor Text)) → is_some (option_map (λ s. s.now) file) ≡ is_some file
still_some None = refl
still_some (Some s) = refl

named : (f : Found) (file : Option (Bor Text)) → option_map (λ s. s.now) file ≡ first_value f (codes "checkpoint") → (b : Bool) → is_some file ≡ b → is_some (first_of (codes "checkpoint") (rows_of f)) ≡ b
named f file e b some = ap is_some (sym (first_value-rows f (codes "checkpoint")) ∙ sym e) ∙ still_some file ∙ some

pub with_file : (f : Found) (file : Option (Bor Text)) → option_map (λ s. s.now) file ≡ first_value f (codes "checkpoint") → is_some file ≡ true
    → go_together (rows_of f) ≡ is_run (first_value f (codes "mode"))
with_file f file e some = ap (λ (b : Bool). cond b (is_run (first_of (codes "mode") (rows_of f))) (not (more_stands (rows_of f)))) (named f file e true some)
    ∙ ap is_run (sym (first_value-rows f (codes "mode")))

pub without_file : (f : Found) (file : Option (Bor Text)) → option_map (λ s. s.now) file ≡ first_value f (codes "checkpoint") → is_some file ≡ false
    → go_together (rows_of f) ≡ not (more_stands (rows_of f))
without_file f file e none = ap (λ (b : Bool). cond b (is_run (first_of (codes "mode") (rows_of f))) (not (more_stands (rows_of f)))) (named f file e false none)

pub second_of : (a b d : Bool) → b ≡ true → (a || b || d) ≡ true
second_of true b d e = refl
second_of false true d e = refl
second_of false false d e = cc

pub third_of : (a b d : Bool) → d ≡ true → (a || b || d) ≡ true
third_of true b d e = refl
third_of false true d e = refl
third_of false false d e = e

-- words are taken where clap takes them and their options go together
pub joined : (words : List Text) (rows : List Row) → are_read words ≡ true → rows ≡ matches_of tempo_app words → true ≡ go_together rows → are_taken words ≡ true
unfolding are_taken
joined words rows read same fits = ap₂ (λ (a b : Bool). a && b) read (sym (ap go_together same) ∙ sym fits)

never : (a : Bool) → (a && false) ≡ false
never true = refl
never false = refl

pub parted : (words : List Text) (rows : List Row) → rows ≡ matches_of tempo_app words → false ≡ go_together rows → are_taken words ≡ false
unfolding are_taken
parted words rows same clash = ap (λ (b : Bool). are_read words && b) (sym (ap go_together same) ∙ sym clash) ∙ never (are_read words)
