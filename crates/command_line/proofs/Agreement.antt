-- Where clap finds no fault in words, it takes them.
use Rattle.std.proofs.Common.{◌≡◌, ◌&&◌, ◌||◌, ◌+◌, ℕ, Bool, cond, true, false, not, zero, suc, refl, arith, List, [], ◌∷◌, codes, drop, length, min, nat_le, Option, Some, None, is_some}
use Rattle.std.specs.Prelude.{encode_utf8, slice_get}
use Rattle.std.specs.List.{list_all, list_any}
use Rattle.std.specs.Option.{option_map_or}
use Rattle.std.specs.Str.{bytes_eq, chars}
use Rattle.std.proofs.lemmas.Bool.Decides.{nat_tests}
use Rattle.clap.specs.Lexer.{long_of, short_of}
use Rattle.clap.specs.Matches.{count_text}
use Rattle.clap.specs.Facts.{parser_of_value, unwrap_or_range}
use Rattle.clap.specs.Walk.{Held, Names, Row, Rule, Step, next, trailing, subcommand, value, Text, Waiting, Walk, action_of, arg_by_id, arg_by_index, arg_by_long, arg_by_short, attached_value, count_of, has_row, is_pending, most_values, reacted, settled, subcommand_met, takes_several, takes_values, values_or_missing, walked, word_met}
use Rattle.clap.specs.Simple.{Shape}
use Rattle.clap.specs.Takes.{action_passes, bundle_passes, bundle_step_passes, count_passes, flag_word_passes, flags_pass, is_given, long_passes, option_passes, other_passes, positional_passes, react_passes, set_passes, settle_passes, short_passes, step_passes, turn_passes, use_passes, value_passes, values_pass, walk_passes, word_passes}
use Rattle.clap.specs.Kinds.{Kinds, or_else, range_kinds, value_kinds}
use Rattle.clap.specs.Faults.{action_fault, bundle_fault, bundle_step_fault, count_fault, flag_word_fault, flags_fault, long_fault, option_fault, other_fault, positional_fault, react_fault, repeat_fault, set_fault, settle_fault, short_fault, step_fault, stray_fault, turn_fault, use_fault, values_fault, walk_fault, word_fault}
use Rattle.clap.specs.declared.builder.action.ArgAction.{ArgAction}
use Rattle.clap.specs.declared.builder.action.ArgAction.TheVariants as action
use Rattle.clap.specs.declared.error.kind.ErrorKind.{ErrorKind}
use Rattle.clap.specs.declared.error.kind.ErrorKind.TheVariants as kind

-- no fault means that the test passes
abbrev Agree : Kinds → Bool → Type 0
Agree kinds test = kinds ≡ [] → test ≡ true

or_nil : (k l : Kinds) → or_else k l ≡ [] → (k ≡ []) × (l ≡ [])
or_nil [] l e = (refl, e)
or_nil (x ∷ k) l e = cc

agree_and : (k l : Kinds) (a b : Bool) → Agree k a → Agree l b → Agree (or_else k l) (a && b)
agree_and k l a b f g e = rw (f (or_nil k l e).0) (g (or_nil k l e).1)

agree_or : (t : Bool) (k : Kinds) (b : Bool) → Agree k b → Agree (cond t [] k) (t || b)
agree_or true k b f e = refl
agree_or false k b f e = f e

-- ---- values

one_or_none : (b : Bool) (k : ErrorKind) → Agree (cond b [] (k ∷ [])) b
one_or_none true k e = refl
one_or_none false k e = cc

value_agrees : (a : Rule) (v : Text) → Agree (value_kinds a.ignore_case (parser_of_value a.parser) v) (value_passes a v)
value_agrees a v = one_or_none (value_passes a v) _

values_agree : (a : Rule) (vs : List Text) → Agree (values_fault a vs) (values_pass a vs)
values_agree a [] e = refl
values_agree a (v ∷ vs) e = agree_and _ (values_fault a vs) (value_passes a v) (values_pass a vs) (value_agrees a v) (values_agree a vs) e

range_agrees : (least most n : ℕ) → range_kinds least most n ≡ [] → (nat_le least n ≡ true) × (nat_le n most ≡ true)
range_agrees least most n e = (grind (arith, nat_tests), grind (arith, nat_tests))

count_agrees : (a : Rule) (vs : List Text) (rows : List Row) → Agree (count_fault a vs rows) (count_passes a vs rows)
count_agrees a [] rows = value_agrees a (count_text (min (count_of a.id rows + 1) 255))
count_agrees a (v ∷ vs) rows = values_agree a (v ∷ vs)

repeat_agrees : (again : Bool) (id : Text) (rows : List Row) → Agree (repeat_fault again id rows) (not (has_row id rows) || again)
repeat_agrees again id rows = go (has_row id rows) again
  where
    go : (b t : Bool) → Agree (cond (b && not t) (kind.ArgumentConflict ∷ []) []) (not b || t)
    go false t e = refl
    go true true e = refl
    go true false e = cc

set_agrees : (again : Bool) (a : Rule) (vs : List Text) (rows : List Row) → Agree (set_fault again a vs rows) (set_passes again a vs rows)
set_agrees again a vs rows = agree_and (repeat_fault again a.id rows) (values_fault a vs) (not (has_row a.id rows) || again) (values_pass a vs) (repeat_agrees again a.id rows) (values_agree a vs)

action_agrees : (x : ArgAction) (again : Bool) (a : Rule) (vs : List Text) (rows : List Row) → Agree (action_fault x again a vs rows) (action_passes x again a vs rows)
action_agrees action.Set again a vs rows = set_agrees again a vs rows
action_agrees action.SetTrue again a vs rows = set_agrees again a vs rows
action_agrees action.SetFalse again a vs rows = set_agrees again a vs rows
action_agrees action.Append again a vs rows = values_agree a vs
action_agrees action.Count again a vs rows = count_agrees a vs rows
action_agrees action.Help again a vs rows = λ e. cc
action_agrees action.HelpShort again a vs rows = λ e. cc
action_agrees action.HelpLong again a vs rows = λ e. cc
action_agrees action.Version again a vs rows = λ e. cc

use_agrees : (again : Bool) (a : Rule) (vs : List Text) (rows : List Row) → Agree (use_fault again a vs rows) (use_passes again a vs rows)
use_agrees again a vs rows e =
    let parts = or_nil (range_kinds (unwrap_or_range a.range).start_inclusive (most_values a) (length vs)) (action_fault (action_of a) again a (values_or_missing a vs) rows) e in
    let fits = range_agrees (unwrap_or_range a.range).start_inclusive (most_values a) (length vs) parts.0 in
    rw (fits.0, fits.1) (action_agrees (action_of a) again a (values_or_missing a vs) rows parts.1)

-- ---- words

module _ (c : List Rule) (again : Bool) where
  used_agrees : (o : Option Rule) (vs : List Text) (rows : List Row) → Agree (option_map_or (λ a. use_fault again a vs rows) o []) (option_map_or (λ a. use_passes again a vs rows) o true)
  used_agrees None vs rows e = refl
  used_agrees (Some a) vs rows e = use_agrees again a vs rows e

  settle_agrees : (h : Held) → Agree (settle_fault c again h) (settle_passes c again h)
  settle_agrees h = go h.pending
    where
      go : (o : Option (Text × List Text))
          → Agree (option_map_or (λ p. option_map_or (λ a. use_fault again a p.1 h.rows) (arg_by_id c p.0) []) o [])
          (option_map_or (λ p. option_map_or (λ a. use_passes again a p.1 h.rows) (arg_by_id c p.0) true) o true)
      go None e = refl
      go (Some p) e = used_agrees (arg_by_id c p.0) p.1 h.rows e

  react_agrees : (a : Rule) (vs : List Text) (h : Held) → Agree (react_fault c again a vs h) (react_passes c again a vs h)
  react_agrees a vs h = agree_and (settle_fault c again h) (use_fault again a vs (settled c h).rows) (settle_passes c again h) (use_passes again a vs (settled c h).rows) (settle_agrees h) (use_agrees again a vs (settled c h).rows)

  option_agrees : (a : Rule) (v : Option Text) (h : Held) → Agree (option_fault c again a v h) (option_passes c again a v h)
  option_agrees a None h = settle_agrees h
  option_agrees a (Some v) h = react_agrees a (v ∷ []) h

  flag_agrees : (a : Rule) (v : Option Text) (h : Held) → Agree (cond (is_some v) (kind.TooManyValues ∷ []) (react_fault c again a [] h)) (not (is_some v) && react_passes c again a [] h)
  flag_agrees a None h e = react_agrees a [] h e
  flag_agrees a (Some v) h e = cc

  long_agrees : (o : Option Rule) (v : Option Text) (h : Held) → Agree (long_fault c again o v h) (long_passes c again o v h)
  long_agrees None v h e = cc
  long_agrees (Some a) v h e = go (takes_values a) e
    where
      go : (t : Bool) → Agree (cond t (option_fault c again a v h) (cond (is_some v) (kind.TooManyValues ∷ []) (react_fault c again a [] h)))
          (cond t (option_passes c again a v h) (not (is_some v) && react_passes c again a [] h))
      go true = option_agrees a v h
      go false = flag_agrees a v h

  short_agrees : (o : Option Rule) (rest : Text) (h : Held) (f : Held → Kinds) (g : Held → Bool) → ((k : Held) → Agree (f k) (g k)) → Agree (short_fault c again o rest h f) (short_passes c again o rest h g)
  short_agrees None rest h f g rec e = cc
  short_agrees (Some a) rest h f g rec e = go (takes_values a) e
    where
      go : (t : Bool) → Agree (cond t (option_fault c again a (attached_value rest) h) (or_else (react_fault c again a [] h) (f (reacted c a [] h))))
          (cond t (option_passes c again a (attached_value rest) h) (react_passes c again a [] h && g (reacted c a [] h)))
      go true = option_agrees a (attached_value rest) h
      go false = agree_and (react_fault c again a [] h) (f (reacted c a [] h)) (react_passes c again a [] h) (g (reacted c a [] h)) (react_agrees a [] h) (rec (reacted c a [] h))

  bundle_agrees : (o : Option ℕ) (flags : Text) (skip : ℕ) (h : Held) (f : Text → ℕ → Held → Kinds) (g : Text → ℕ → Held → Bool)
      → ((t : Text) (n : ℕ) (k : Held) → Agree (f t n k) (g t n k)) → Agree (bundle_step_fault c again o flags skip h f) (bundle_step_passes c again o flags skip h g)
  bundle_agrees None flags skip h f g rec e = refl
  bundle_agrees (Some x) flags zero h f g rec e =
      let rest = drop (length (encode_utf8 x)) flags in
      short_agrees (arg_by_short c x) rest h (f rest 0) (g rest 0) (rec rest 0) e
  bundle_agrees (Some x) flags (suc skip) h f g rec e = rec (drop (length (encode_utf8 x)) flags) skip h e

  flags_agree : (k : ℕ) (flags : Text) (skip : ℕ) (h : Held) → Agree (flags_fault c again k flags skip h) (flags_pass c again k flags skip h)
  unfolding flags_fault flags_pass
  flags_agree zero flags skip h e = refl
  flags_agree (suc k) flags skip h e = bundle_agrees (slice_get (chars flags) 0) flags skip h (flags_fault c again k) (flags_pass c again k) (flags_agree k) e

  flag_word_agrees : (o : Option (Text × Option Text)) (word : Text) (h : Held) → Agree (flag_word_fault c again o word h) (flag_word_passes c again o word h)
  flag_word_agrees (Some p) word h = long_agrees (arg_by_long c p.0) p.1 h
  flag_word_agrees None word h = go (short_of word)
    where
      go : (o : Option Text) → Agree (option_map_or (λ flags. bundle_fault c again flags h) o []) (option_map_or (λ flags. bundle_passes c again flags h) o true)
      go None e = refl
      go (Some flags) e = flags_agree (length flags) flags h.skip (record h { skip = 0 }) e

module _ (s : Shape) (names : Names) where
  other_agrees : (o : Option Text) (word : Text) (h : Held) → Agree (other_fault s o word h) (other_passes s o word h)
  other_agrees (Some name) word h = go (bytes_eq name (codes "help")) s.disable_help_subcommand
    where
      go : (b t : Bool) → Agree (cond (b && not t) (kind.DisplayHelp ∷ kind.InvalidSubcommand ∷ []) []) (not b || t)
      go false t e = refl
      go true true e = refl
      go true false e = cc
  other_agrees None word h = agree_or (bytes_eq word (45 ∷ 45 ∷ [])) _ _ (flag_word_agrees s.rules s.args_override_self (long_of word) word h)

  word_agrees : (t : Bool) (waiting : Waiting) (word : Text) (h : Held) → Agree (word_fault s names t waiting word h) (word_passes s names t waiting word h)
  word_agrees t waiting word h = agree_or t _ _ (other_agrees (subcommand_met names waiting word) word h)

  positional_agrees : (a : Rule) (h : Held) → Agree (positional_fault s.rules s.args_override_self a h) (positional_passes s.rules s.args_override_self a h)
  positional_agrees a h = agree_or (is_pending a h.pending && takes_several a) _ _ (settle_agrees s.rules s.args_override_self h)

  stray_is_fault : stray_fault s ≡ [] → false ≡ true
  stray_is_fault e = go s.is_leaf e
    where
      go : (b : Bool) → cond b (kind.UnknownArgument ∷ []) (kind.UnknownArgument ∷ kind.InvalidSubcommand ∷ []) ≡ [] → false ≡ true
      go true x = cc
      go false x = cc

  step_agrees : (position : ℕ) (h : Held) (step : Step) → Agree (step_fault s position h step) (step_passes s position h step)
  step_agrees position h (next w) e = refl
  step_agrees position h (trailing p) e = refl
  step_agrees position h (subcommand n) e = refl
  step_agrees position h value e = go (arg_by_index s.rules position) e
    where
      go : (o : Option Rule) → Agree (option_map_or (λ a. positional_fault s.rules s.args_override_self a h) o (stray_fault s)) (option_map_or (λ a. positional_passes s.rules s.args_override_self a h) o false)
      go None x = stray_is_fault x
      go (Some a) x = positional_agrees a h x

  turn_agrees : (w : Walk) (word : Text) → Agree (turn_fault s names w word) (turn_passes s names w word)
  turn_agrees w word =
      let met = word_met s.rules names w.is_trailing w.waiting w.position word w.held in
      agree_or (is_some w.stopped) _ _ (agree_and (word_fault s names w.is_trailing w.waiting word w.held) (step_fault s w.position met.0 met.1) (word_passes s names w.is_trailing w.waiting word w.held) (step_passes s w.position met.0 met.1) (word_agrees w.is_trailing w.waiting word w.held) (step_agrees w.position met.0 met.1))

  pub walk_agrees : (w : Walk) (words : List Text) → walk_fault s names w words ≡ [] → walk_passes s names w words ≡ true
  unfolding walk_fault walk_passes
  walk_agrees w [] e = refl
  walk_agrees w (word ∷ rest) e = agree_and (turn_fault s names w word) (walk_fault s names (walked s.rules names w word) rest) (turn_passes s names w word) (walk_passes s names (walked s.rules names w word) rest) (turn_agrees w word) (walk_agrees (walked s.rules names w word) rest) e

-- where no required option misses, each is there
pub required_agree : (rules : List Rule) (rows : List Row) → list_any (λ a. a.required && not (is_given a.id rows)) rules ≡ false → list_all (λ a. not a.required || is_given a.id rows) rules ≡ true
required_agree [] rows e = refl
required_agree (a ∷ rules) rows e = go a.required (is_given a.id rows) (required_agree rules rows) e
  where
    go : (r g : Bool) → (list_any (λ a. a.required && not (is_given a.id rows)) rules ≡ false → list_all (λ a. not a.required || is_given a.id rows) rules ≡ true)
        → ((r && not g) || list_any (λ a. a.required && not (is_given a.id rows)) rules) ≡ false → ((not r || g) && list_all (λ a. not a.required || is_given a.id rows) rules) ≡ true
    go false g rec x = rec x
    go true true rec x = rec x
    go true false rec x = cc

pub settling_agrees : (c : List Rule) (again : Bool) (h : Held) → settle_fault c again h ≡ [] → settle_passes c again h ≡ true
settling_agrees c again h = settle_agrees c again h

pub nothing_of_both : (k l : Kinds) → or_else k l ≡ [] → (k ≡ []) × (l ≡ [])
nothing_of_both k l e = or_nil k l e
