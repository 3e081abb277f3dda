-- Where the names of a parser lie makes no difference to what clap makes of words.
use Rattle.std.proofs.Common.{◌≡◌, ◌∙◌, ◌&&◌, ◌||◌, ◌+◌, ℕ, Bool, cond, true, false, not, zero, suc, refl, sym, ap, ap₂, List, [], ◌∷◌, map, drop, length, min, nat_le, Option, Some, None, is_some, option_map}
use Rattle.std.specs.Borrow.{Bor}
use Rattle.std.specs.Prelude.{encode_utf8, slice_get}
use Rattle.std.specs.List.{fold, list_all, list_any}
use Rattle.std.specs.Option.{option_map_or}
use Rattle.std.specs.Str.{bytes_eq, chars}
use Rattle.clap.specs.Lexer.{long_of, short_of}
use Rattle.clap.specs.Matches.{count_text}
use Rattle.clap.specs.Values.{reading_of, same_text}
use Rattle.clap.specs.ValueTests.{accepts}
use Rattle.clap.specs.Facts.{parser_of_value, unwrap_or_range}
use Rattle.clap.specs.Walk.{Held, Names, Outcome, done, waits, plain, refused, Row, Rule, Step, next, trailing, subcommand, value, Text, Waiting, idle, option, positional, Walk, action_of, after_flag, after_step, arg_by_id, arg_by_index, arg_by_long, arg_by_short, attached_value, bundle, bundle_met, bundle_step, count_of, default_rows, finished, flag_met, has_long, has_row, has_short, is_multiple, is_pending, long_met, long_or_other, long_word, most_values, next_position, nothing_held, option_met, option_word, plain_word, pushed, reacted, rows_after, settled, settled_rows, short_met, short_or_plain, short_word, subcommand_met, subcommand_or_other, takes_several, takes_values, to_positional, used, used_as, used_by_id, values_or_missing, walk, walk_from, walked, walked_from, with_default, word_met}
use Rattle.clap.specs.Simple.{Shape}
use Rattle.clap.specs.Takes.{action_passes, bundle_passes, bundle_step_passes, count_passes, flag_word_passes, flags_pass, long_passes, option_passes, other_passes, positional_passes, react_passes, set_passes, settle_passes, short_passes, step_passes, turn_passes, use_passes, values_pass, walk_passes, word_passes}
use Rattle.clap.specs.declared.builder.action.ArgAction.{ArgAction}
use Rattle.clap.specs.declared.builder.action.ArgAction.TheVariants as action
use Rattle.clap.specs.declared.builder.value_parser.ValueParser.{ValueParser}
use Rattle.clap.specs.declared.builder.value_parser.ValueParser.TheVariants as vp
use Rattle.clap.proofs.WalkLemmas.{find-map, list_any-map}
use Rattle.command_line.specs.Options.{behind}

-- the names, moved to where `among` has them
abbrev pub moved_names : Bor (List (Bor Text)) → Bor (List (Bor Text))
moved_names names = behind (map (λ name. behind name.now) names.now)

abbrev pub moved_parser : ValueParser → ValueParser
moved_parser (vp.Names names) = vp.Names (moved_names names)
moved_parser p = p

abbrev pub moved : Option ValueParser → Option ValueParser
moved None = None
moved (Some p) = Some (moved_parser p)

abbrev pub moved_rule : Rule → Rule
moved_rule a = record a { parser = moved a.parser }

reading_stays : (p : Option ValueParser) → reading_of (parser_of_value (moved p)) ≡ reading_of (parser_of_value p)
reading_stays None = refl
reading_stays (Some p) = go p
  where
    go : (q : ValueParser) → reading_of (moved_parser q) ≡ reading_of q
    go (vp.Names names) = refl
    go q = refl

accepts_stays : (i : Bool) (p : Option ValueParser) (t : Text) → accepts i (parser_of_value (moved p)) t ≡ accepts i (parser_of_value p) t
accepts_stays i None t = refl
accepts_stays i (Some p) t = go p
  where
    go : (q : ValueParser) → accepts i (moved_parser q) t ≡ accepts i q t
    go (vp.Names names) = sym (list_any-map (λ (name : Bor Text). same_text i name.now t) (λ (name : Bor Text). behind name.now) names.now)
    go q = refl

-- ---- one use

used-moved : (a : Rule) (vs : List Text) (rows : List Row) → used (moved_rule a) vs rows ≡ used a vs rows
used-moved a vs rows = ap (λ how. used_as (action_of a) a.id how (values_or_missing a vs) rows) (reading_stays a.parser)

values-moved : (a : Rule) (vs : List Text) → values_pass (moved_rule a) vs ≡ values_pass a vs
values-moved a [] = refl
values-moved a (v ∷ vs) = ap₂ (λ x y. x && y) (accepts_stays a.ignore_case a.parser v) (values-moved a vs)

set-moved : (again : Bool) (a : Rule) (vs : List Text) (rows : List Row) → set_passes again (moved_rule a) vs rows ≡ set_passes again a vs rows
set-moved again a vs rows = ap (λ x. (not (has_row a.id rows) || again) && x) (values-moved a vs)

count-moved : (a : Rule) (vs : List Text) (rows : List Row) → count_passes (moved_rule a) vs rows ≡ count_passes a vs rows
count-moved a [] rows = accepts_stays a.ignore_case a.parser (count_text (min (count_of a.id rows + 1) 255))
count-moved a (v ∷ vs) rows = values-moved a (v ∷ vs)

action-moved : (x : ArgAction) (again : Bool) (a : Rule) (vs : List Text) (rows : List Row) → action_passes x again (moved_rule a) vs rows ≡ action_passes x again a vs rows
action-moved action.Set again a vs rows = set-moved again a vs rows
action-moved action.SetTrue again a vs rows = set-moved again a vs rows
action-moved action.SetFalse again a vs rows = set-moved again a vs rows
action-moved action.Append again a vs rows = values-moved a vs
action-moved action.Count again a vs rows = count-moved a vs rows
action-moved action.Help again a vs rows = refl
action-moved action.HelpShort again a vs rows = refl
action-moved action.HelpLong again a vs rows = refl
action-moved action.Version again a vs rows = refl

use-moved : (again : Bool) (a : Rule) (vs : List Text) (rows : List Row) → use_passes again (moved_rule a) vs rows ≡ use_passes again a vs rows
use-moved again a vs rows = ap (λ x. nat_le (unwrap_or_range a.range).start_inclusive (length vs) && (nat_le (length vs) (most_values a) && x)) (action-moved (action_of a) again a (values_or_missing a vs) rows)

-- ---- the walk

module _ (c : List Rule) where
  abbrev there : List Rule
  there = map moved_rule c

  by_id : (id : Text) → arg_by_id there id ≡ option_map moved_rule (arg_by_id c id)
  by_id id = sym (find-map (λ (a : Rule). bytes_eq a.id id) moved_rule c)

  by_long : (name : Text) → arg_by_long there name ≡ option_map moved_rule (arg_by_long c name)
  by_long name = sym (find-map (λ (a : Rule). not (is_some a.index) && has_long a name) moved_rule c)

  by_short : (x : ℕ) → arg_by_short there x ≡ option_map moved_rule (arg_by_short c x)
  by_short x = sym (find-map (λ (a : Rule). not (is_some a.index) && has_short a x) moved_rule c)

  by_index : (i : ℕ) → arg_by_index there i ≡ option_map moved_rule (arg_by_index c i)
  by_index i = sym (find-map (λ (a : Rule). option_map_or (λ k. Rattle.std.specs.Prelude.nat_eq k i) a.index false) moved_rule c)

  used_by-moved : (o : Option Rule) (vs : List Text) (rows : List Row) → used_by_id (option_map moved_rule o) vs rows ≡ used_by_id o vs rows
  used_by-moved None vs rows = refl
  used_by-moved (Some a) vs rows = used-moved a vs rows

  settled_rows-moved : (o : Option (Text × List Text)) (rows : List Row) → settled_rows there o rows ≡ settled_rows c o rows
  settled_rows-moved None rows = refl
  settled_rows-moved (Some p) rows = ap (λ o. used_by_id o p.1 rows) (by_id p.0) ∙ used_by-moved (arg_by_id c p.0) p.1 rows

  settled-moved : (h : Held) → settled there h ≡ settled c h
  settled-moved h = ap (λ (rows : List Row). record h { rows = rows; pending = None }) (settled_rows-moved h.pending h.rows)

  reacted-moved : (a : Rule) (vs : List Text) (h : Held) → reacted there (moved_rule a) vs h ≡ reacted c a vs h
  reacted-moved a vs h = ap (λ (rows : List Row). record h { rows = rows; pending = None })
      (ap (used (moved_rule a) vs) (settled_rows-moved h.pending h.rows) ∙ used-moved a vs (settled c h).rows)

  option-moved : (a : Rule) (v : Option Text) (h : Held) → option_met there (moved_rule a) v h ≡ option_met c a v h
  option-moved a (Some v) h = ap (λ (k : Held). (k, done)) (reacted-moved a (v ∷ []) h)
  option-moved a None h = ap (λ (k : Held). (record k { pending = Some (a.id, []) }, waits a.id)) (settled-moved h)

  flag-moved : (a : Rule) (v : Option Text) (h : Held) → flag_met there (moved_rule a) v h ≡ flag_met c a v h
  flag-moved a (Some v) h = refl
  flag-moved a None h = ap (λ (k : Held). (k, done)) (reacted-moved a [] h)

  long-moved : (o : Option Rule) (v : Option Text) (h : Held) → long_met there (option_map moved_rule o) v h ≡ long_met c o v h
  long-moved None v h = refl
  long-moved (Some a) v h = ap₂ (λ x y. cond (takes_values a) x y) (option-moved a v h) (flag-moved a v h)

  short-moved : (o : Option Rule) (rest : Text) (h : Held) (f g : Held → Held × Outcome) → ((k : Held) → f k ≡ g k)
      → short_met there (option_map moved_rule o) rest h f ≡ short_met c o rest h g
  short-moved None rest h f g rec = refl
  short-moved (Some a) rest h f g rec =
      ap₂ (λ x y. cond (takes_values a) x y) (option-moved a (attached_value rest) h) (ap f (reacted-moved a [] h) ∙ rec (reacted c a [] h))

  step_of_bundle-moved : (o : Option ℕ) (flags : Text) (skip : ℕ) (so_far : Outcome) (h : Held) (f g : Text → ℕ → Outcome → Held → Held × Outcome)
      → ((t : Text) (n : ℕ) (x : Outcome) (k : Held) → f t n x k ≡ g t n x k)
      → bundle_step there o flags skip so_far h f ≡ bundle_step c o flags skip so_far h g
  step_of_bundle-moved None flags skip so_far h f g rec = refl
  step_of_bundle-moved (Some x) flags zero so_far h f g rec =
      let rest = drop (length (encode_utf8 x)) flags in
      ap (λ o. short_met there o rest h (f rest 0 done)) (by_short x) ∙ short-moved (arg_by_short c x) rest h (f rest 0 done) (g rest 0 done) (rec rest 0 done)
  step_of_bundle-moved (Some x) flags (suc skip) so_far h f g rec = rec (drop (length (encode_utf8 x)) flags) skip so_far h

  bundle-moved : (k : ℕ) (flags : Text) (skip : ℕ) (so_far : Outcome) (h : Held) → bundle_met there k flags skip so_far h ≡ bundle_met c k flags skip so_far h
  unfolding bundle_met
  bundle-moved zero flags skip so_far h = refl
  bundle-moved (suc k) flags skip so_far h = step_of_bundle-moved (slice_get (chars flags) 0) flags skip so_far h (bundle_met there k) (bundle_met c k) (bundle-moved k)

  waiting-moved : (o : Option Rule) (id word : Text) (h : Held) → option_word (option_map moved_rule o) id word h ≡ option_word o id word h
  waiting-moved None id word h = refl
  waiting-moved (Some a) id word h = refl

  plain-moved : (w : Waiting) (word : Text) (h : Held) → plain_word there w word h ≡ plain_word c w word h
  plain-moved idle word h = refl
  plain-moved positional word h = refl
  plain-moved (option id) word h = ap (λ (r : Held × Waiting). (r.0, next r.1)) (ap (λ o. option_word o id word h) (by_id id) ∙ waiting-moved (arg_by_id c id) id word h)

  after_flag-moved : (w : Waiting) (word : Text) (h : Held) (o : Outcome) → after_flag there w word h o ≡ after_flag c w word h o
  after_flag-moved w word h done = refl
  after_flag-moved w word h (waits id) = refl
  after_flag-moved w word h plain = plain-moved w word h
  after_flag-moved w word h refused = plain-moved w word h

  long_word-moved : (w : Waiting) (word name : Text) (v : Option Text) (h : Held) → long_word there w word name v h ≡ long_word c w word name v h
  long_word-moved w word name v h =
      let met : long_met there (arg_by_long there name) v h ≡ long_met c (arg_by_long c name) v h =
      ap (λ o. long_met there o v h) (by_long name) ∙ long-moved (arg_by_long c name) v h in
      ap (λ (r : Held × Outcome). after_flag there w word r.0 r.1) met
      ∙ after_flag-moved w word (long_met c (arg_by_long c name) v h).0 (long_met c (arg_by_long c name) v h).1

  short_word-moved : (w : Waiting) (word flags : Text) (h : Held) → short_word there w word flags h ≡ short_word c w word flags h
  short_word-moved w word flags h =
      ap (λ (r : Held × Outcome). after_flag there w word r.0 r.1) (bundle-moved (length flags) flags h.skip plain (record h { skip = 0 }))
      ∙ after_flag-moved w word (bundle c flags h).0 (bundle c flags h).1

  short_or_plain-moved : (w : Waiting) (word : Text) (o : Option Text) (h : Held) → short_or_plain there w word o h ≡ short_or_plain c w word o h
  short_or_plain-moved w word (Some flags) h = short_word-moved w word flags h
  short_or_plain-moved w word None h = plain-moved w word h

  long_or_other-moved : (w : Waiting) (word : Text) (o : Option (Text × Option Text)) (h : Held) → long_or_other there w word o h ≡ long_or_other c w word o h
  long_or_other-moved w word (Some p) h = long_word-moved w word p.0 p.1 h
  long_or_other-moved w word None h = short_or_plain-moved w word (short_of word) h

  other-moved : (o : Option Text) (w : Waiting) (position : ℕ) (word : Text) (h : Held) → subcommand_or_other there o w position word h ≡ subcommand_or_other c o w position word h
  other-moved (Some name) w position word h = refl
  other-moved None w position word h = ap (λ r. cond (bytes_eq word (45 ∷ 45 ∷ [])) (h, trailing position) r) (long_or_other-moved w word (long_of word) h)

  word-moved : (names : Names) (t : Bool) (w : Waiting) (position : ℕ) (word : Text) (h : Held) → word_met there names t w position word h ≡ word_met c names t w position word h
  word-moved names t w position word h = ap (λ r. cond t (h, value) r) (other-moved (subcommand_met names w word) w position word h)

  to_positional-moved : (o : Option Rule) (word : Text) (w : Walk) (h : Held) → to_positional there (option_map moved_rule o) word w h ≡ to_positional c o word w h
  to_positional-moved None word w h = refl
  to_positional-moved (Some a) word w h = ap (λ (k : Held). record {
    held = pushed a.id word (cond (is_pending a h.pending && takes_several a) h k);
    waiting = cond (is_multiple a) positional idle;
    position = next_position a w.position;
    is_trailing = w.is_trailing || a.trailing_var_arg;
    stopped = None;
  }) (settled-moved h)

  after_step-moved : (word : Text) (w : Walk) (h : Held) (step : Step) → after_step there word w h step ≡ after_step c word w h step
  after_step-moved word w h (next waiting) = refl
  after_step-moved word w h (trailing position) = refl
  after_step-moved word w h (subcommand name) = refl
  after_step-moved word w h value = ap (λ o. to_positional there o word w h) (by_index w.position) ∙ to_positional-moved (arg_by_index c w.position) word w h

  walked_from-moved : (names : Names) (o : Option (Text × List Text)) (w : Walk) (word : Text) → walked_from there names o w word ≡ walked_from c names o w word
  walked_from-moved names (Some p) w word = refl
  walked_from-moved names None w word =
      let met = word_met c names w.is_trailing w.waiting w.position word w.held in
      ap (λ (r : Held × Step). after_step there word w r.0 r.1) (word-moved names w.is_trailing w.waiting w.position word w.held)
      ∙ after_step-moved word w met.0 met.1

  walked-moved : (names : Names) (w : Walk) (word : Text) → walked there names w word ≡ walked c names w word
  unfolding walked
  walked-moved names w word = walked_from-moved names w.stopped w word

  walk-moved : (names : Names) (words : List Text) (w : Walk) → fold (walked there names) w words ≡ fold (walked c names) w words
  walk-moved names [] w = refl
  walk-moved names (word ∷ rest) w = ap (λ v. fold (walked there names) v rest) (walked-moved names w word) ∙ walk-moved names rest (walked c names w word)

  -- ---- what passes

  settle_passes-moved : (again : Bool) (h : Held) → settle_passes there again h ≡ settle_passes c again h
  settle_passes-moved again h = go h.pending
    where
      inner : (o : Option Rule) (vs : List Text) → option_map_or (λ a. use_passes again a vs h.rows) (option_map moved_rule o) true ≡ option_map_or (λ a. use_passes again a vs h.rows) o true
      inner None vs = refl
      inner (Some a) vs = use-moved again a vs h.rows

      go : (o : Option (Text × List Text)) → option_map_or (λ p. option_map_or (λ a. use_passes again a p.1 h.rows) (arg_by_id there p.0) true) o true
          ≡ option_map_or (λ p. option_map_or (λ a. use_passes again a p.1 h.rows) (arg_by_id c p.0) true) o true
      go None = refl
      go (Some p) = ap (λ o. option_map_or (λ a. use_passes again a p.1 h.rows) o true) (by_id p.0) ∙ inner (arg_by_id c p.0) p.1

  react_passes-moved : (again : Bool) (a : Rule) (vs : List Text) (h : Held) → react_passes there again (moved_rule a) vs h ≡ react_passes c again a vs h
  react_passes-moved again a vs h = ap₂ (λ x y. x && y) (settle_passes-moved again h)
      (ap (use_passes again (moved_rule a) vs) (settled_rows-moved h.pending h.rows) ∙ use-moved again a vs (settled c h).rows)

  option_passes-moved : (again : Bool) (a : Rule) (v : Option Text) (h : Held) → option_passes there again (moved_rule a) v h ≡ option_passes c again a v h
  option_passes-moved again a (Some v) h = react_passes-moved again a (v ∷ []) h
  option_passes-moved again a None h = settle_passes-moved again h

  long_passes-moved : (again : Bool) (o : Option Rule) (v : Option Text) (h : Held) → long_passes there again (option_map moved_rule o) v h ≡ long_passes c again o v h
  long_passes-moved again None v h = refl
  long_passes-moved again (Some a) v h = ap₂ (λ x y. cond (takes_values a) x (not (is_some v) && y)) (option_passes-moved again a v h) (react_passes-moved again a [] h)

  short_passes-moved : (again : Bool) (o : Option Rule) (rest : Text) (h : Held) (f g : Held → Bool) → ((k : Held) → f k ≡ g k)
      → short_passes there again (option_map moved_rule o) rest h f ≡ short_passes c again o rest h g
  short_passes-moved again None rest h f g rec = refl
  short_passes-moved again (Some a) rest h f g rec = ap₂ (λ x y. cond (takes_values a) x y) (option_passes-moved again a (attached_value rest) h)
      (ap₂ (λ x y. x && y) (react_passes-moved again a [] h) (ap f (reacted-moved a [] h) ∙ rec (reacted c a [] h)))

  bundle_passes-moved : (again : Bool) (o : Option ℕ) (flags : Text) (skip : ℕ) (h : Held) (f g : Text → ℕ → Held → Bool)
      → ((t : Text) (n : ℕ) (k : Held) → f t n k ≡ g t n k) → bundle_step_passes there again o flags skip h f ≡ bundle_step_passes c again o flags skip h g
  bundle_passes-moved again None flags skip h f g rec = refl
  bundle_passes-moved again (Some x) flags zero h f g rec =
      let rest = drop (length (encode_utf8 x)) flags in
      ap (λ o. short_passes there again o rest h (f rest 0)) (by_short x) ∙ short_passes-moved again (arg_by_short c x) rest h (f rest 0) (g rest 0) (rec rest 0)
  bundle_passes-moved again (Some x) flags (suc skip) h f g rec = rec (drop (length (encode_utf8 x)) flags) skip h

  flags_pass-moved : (again : Bool) (k : ℕ) (flags : Text) (skip : ℕ) (h : Held) → flags_pass there again k flags skip h ≡ flags_pass c again k flags skip h
  unfolding flags_pass
  flags_pass-moved again zero flags skip h = refl
  flags_pass-moved again (suc k) flags skip h = bundle_passes-moved again (slice_get (chars flags) 0) flags skip h (flags_pass there again k) (flags_pass c again k) (flags_pass-moved again k)

  flag_word-moved : (again : Bool) (o : Option (Text × Option Text)) (word : Text) (h : Held) → flag_word_passes there again o word h ≡ flag_word_passes c again o word h
  flag_word-moved again (Some p) word h = ap (λ o. long_passes there again o p.1 h) (by_long p.0) ∙ long_passes-moved again (arg_by_long c p.0) p.1 h
  flag_word-moved again None word h = go (short_of word)
    where
      go : (o : Option Text) → option_map_or (λ flags. bundle_passes there again flags h) o true ≡ option_map_or (λ flags. bundle_passes c again flags h) o true
      go None = refl
      go (Some flags) = flags_pass-moved again (length flags) flags h.skip (record h { skip = 0 })

-- a command's shape, with the names of its parsers moved
abbrev pub moved_shape : Shape → Shape
moved_shape s = record s { rules = map moved_rule s.rules }

module _ (s : Shape) (names : Names) where
  other_passes-moved : (o : Option Text) (word : Text) (h : Held) → other_passes (moved_shape s) o word h ≡ other_passes s o word h
  other_passes-moved (Some name) word h = refl
  other_passes-moved None word h = ap (λ x. bytes_eq word (45 ∷ 45 ∷ []) || x) (flag_word-moved s.rules s.args_override_self (long_of word) word h)

  word_passes-moved : (t : Bool) (w : Waiting) (word : Text) (h : Held) → word_passes (moved_shape s) names t w word h ≡ word_passes s names t w word h
  word_passes-moved t w word h = ap (λ x. t || x) (other_passes-moved (subcommand_met names w word) word h)

  step_passes-moved : (position : ℕ) (h : Held) (step : Step) → step_passes (moved_shape s) position h step ≡ step_passes s position h step
  step_passes-moved position h (next w) = refl
  step_passes-moved position h (trailing p) = refl
  step_passes-moved position h (subcommand n) = refl
  step_passes-moved position h value =
      ap (λ o. option_map_or (λ a. positional_passes (map moved_rule s.rules) s.args_override_self a h) o false) (by_index s.rules position) ∙ go (arg_by_index s.rules position)
    where
      go : (o : Option Rule) → option_map_or (λ a. positional_passes (map moved_rule s.rules) s.args_override_self a h) (option_map moved_rule o) false
          ≡ option_map_or (λ a. positional_passes s.rules s.args_override_self a h) o false
      go None = refl
      go (Some a) = ap (λ x. (is_pending a h.pending && takes_several a) || x) (settle_passes-moved s.rules s.args_override_self h)

  turn-moved : (w : Walk) (word : Text) → turn_passes (moved_shape s) names w word ≡ turn_passes s names w word
  turn-moved w word =
      let met = word_met s.rules names w.is_trailing w.waiting w.position word w.held in
      ap (λ x. is_some w.stopped || x) (ap₂ (λ x y. x && y) (word_passes-moved w.is_trailing w.waiting word w.held)
      (ap (λ (r : Held × Step). step_passes (moved_shape s) w.position r.0 r.1) (word-moved s.rules names w.is_trailing w.waiting w.position word w.held)
      ∙ step_passes-moved w.position met.0 met.1))

  pub walk_passes-moved : (words : List Text) (w : Walk) → walk_passes (moved_shape s) names w words ≡ walk_passes s names w words
  unfolding walk_passes
  walk_passes-moved [] w = refl
  walk_passes-moved (word ∷ rest) w = ap₂ (λ x y. x && y) (turn-moved w word)
      (ap (λ v. walk_passes (moved_shape s) names v rest) (walked-moved s.rules names w word) ∙ walk_passes-moved rest (walked s.rules names w word))

-- ---- the rows

default-moved : (rows : List Row) (a : Rule) → with_default rows (moved_rule a) ≡ with_default rows a
default-moved rows a = ap (λ how. cond (has_row a.id rows) rows (default_rows a.id how a.defaults rows)) (reading_stays a.parser)

defaults-moved : (xs : List Rule) (rows : List Row) → fold with_default rows (map moved_rule xs) ≡ fold with_default rows xs
defaults-moved [] rows = refl
defaults-moved (a ∷ xs) rows = ap (λ r. fold with_default r (map moved_rule xs)) (default-moved rows a) ∙ defaults-moved xs (with_default rows a)

pub settle_stays : (c : List Rule) (again : Bool) (h : Held) → settle_passes (map moved_rule c) again h ≡ settle_passes c again h
settle_stays c again h = settle_passes-moved c again h

pub walk_stays : (c : List Rule) (names : Names) (h : Held) (words : List Text) → walk (map moved_rule c) names h words ≡ walk c names h words
walk_stays c names h words = walk-moved c names words (walk_from h)

pub finished_stays : (c : List Rule) (h : Held) → finished (map moved_rule c) h ≡ finished c h
finished_stays c h = ap (λ r. fold with_default r (map moved_rule c)) (settled_rows-moved c h.pending h.rows) ∙ defaults-moved c (settled c h).rows

pub rows_stay : (c : List Rule) (names : Names) (words : List Text) → rows_after (map moved_rule c) names words ≡ rows_after c names words
rows_stay c names words = ap (λ (w : Walk). finished (map moved_rule c) w.held) (walk_stays c names nothing_held words) ∙ finished_stays c (walk c names nothing_held words).held

pub accepts_at_names : (names : Bor (List (Bor Text))) (t : Text) → accepts false (vp.Names (moved_names names)) t ≡ accepts false (vp.Names names) t
accepts_at_names names t = accepts_stays false (Some (vp.Names names)) t
