use Rattle.std.proofs.Common.{◌≡◌, ◌∙◌, ap, sym, true, map, [], Result, Ok, Err, IfOk}
use Rattle.std.proofs.lemmas.Result.{IfErr-weaker, IfOk-weaker}
use Rattle.clap.specs.Words.{App, FailsBy, Kinds, app_of, fault_of, found_of, is_simple, is_simple_and_free, matches_of, rows_of, takes}
use Rattle.command_line.specs.Options.{tempo_app}
use Rattle.clap.specs.declared.error.Error.{Error}
use Rattle.command_line.specs.Words.{are_read, are_taken, go_together}
use Rattle.clap.proofs.WalkLemmas.{both}
use Rattle.command_line.proofs.Faults.{faultless_is_taken, is_free, is_simple_one, same_matches, taken_is_taken}
use Rattle.command_line.proofs.words.match_words.Goals as goal

faultless_at_ok : {T : Type 0} (P : Type 0) (r : Result T Error) (kinds : Kinds) → (kinds ≡ [] → P) → FailsBy kinds r → IfOk r (λ _. P)
faultless_at_ok P (Ok x) kinds f none = f none
faultless_at_ok P (Err e) kinds f h = tt

pub returns-clause-taken : goal.returns-clause-taken
unfolding are_read
returns-clause-taken c =
    let words = map (λ w. w.now) c.args.words.now in
    let command = c.in_ok-command.command in
    let is = c.in_ok-command.ensures in
    let free : is_simple_and_free (app_of command) ≡ true = ap is_simple_and_free is.4 ∙ is_free is.0 is.1 in
    faultless_at_ok (are_read words ≡ true) c.try_get_matches_from.result (fault_of (app_of command) words)
    (λ none. faultless_is_taken is.0 is.1 is.2 is.3 words (ap (λ (a : App). fault_of a words) (sym is.4) ∙ none))
    (c.try_get_matches_from.ensures.kinds free)

pub returns-clause-matches : goal.returns-clause-matches
returns-clause-matches c =
    let words = map (λ w. w.now) c.args.words.now in
    let command = c.in_ok-command.command in
    let is = c.in_ok-command.ensures in
    let same : matches_of (app_of command) words ≡ matches_of tempo_app words = ap (λ (a : App). matches_of a words) is.4 ∙ same_matches is.0 is.1 is.2 is.3 words in
    let simple : is_simple (app_of command) ≡ true = ap is_simple is.4 ∙ is_simple_one is.0 is.1 in
    IfOk-weaker c.try_get_matches_from.result _ (λ m. rows_of (found_of m) ≡ matches_of tempo_app words) (λ m h. (h simple).0 ∙ same) c.try_get_matches_from.ensures.matches

pub returns-clause-refused : goal.returns-clause-refused
unfolding are_taken are_read
returns-clause-refused c =
    let words = map (λ w. w.now) c.args.words.now in
    let is = c.in_ok-command.ensures in
    IfErr-weaker c.try_get_matches_from.result _ _
    (λ e h taken. h (ap (λ (a : App). takes a words) is.4 ∙ taken_is_taken is.0 is.1 is.2 is.3 words (both (takes tempo_app words) (go_together (matches_of tempo_app words)) taken).0))
    c.try_get_matches_from.ensures.passes
