-- What each use of an option keeps holds of the rows after all words.
use Rattle.std.proofs.Common.{◌≡◌, ◌⊎◌, ◌&&◌, ◌||◌, ℕ, Bool, cond, true, false, not, zero, suc, inl, inr, refl, List, [], ◌∷◌, drop, length, Option, Some, None, is_some}
use Rattle.std.specs.Prelude.{encode_utf8, slice_get}
use Rattle.std.specs.List.{find, fold}
use Rattle.std.specs.Option.{option_map_or}
use Rattle.std.specs.Str.{bytes_eq, chars}
use Rattle.clap.specs.Lexer.{long_of, short_of}
use Rattle.clap.specs.Walk.{Held, Names, Outcome, done, waits, plain, refused, Row, Rule, Step, next, trailing, subcommand, value, Text, Waiting, idle, option, positional, Walk, after_flag, after_step, arg_by_id, arg_by_index, arg_by_long, arg_by_short, attached_value, bundle, bundle_met, bundle_step, flag_met, is_pending, long_met, long_or_other, option_met, option_word, plain_word, reacted, settled, settled_rows, short_met, short_or_plain, subcommand_met, subcommand_or_other, takes_several, takes_values, to_positional, used, used_by_id, walked, walked_from, word_met}
use Rattle.clap.specs.Simple.{Shape}
use Rattle.clap.specs.Takes.{bundle_passes, bundle_step_passes, flag_word_passes, flags_pass, long_passes, option_passes, other_passes, positional_passes, react_passes, settle_passes, short_passes, step_passes, turn_passes, use_passes, walk_passes, word_passes}
use Rattle.clap.proofs.WalkLemmas.{both}

-- the rule is one of these
abbrev pub IsIn : Rule → List Rule → Type 0
IsIn a [] = ⊥
IsIn a (x ∷ xs) = (a ≡ x) ⊎ IsIn a xs

-- the rule that was found, if any, is one of these
abbrev IsOf : List Rule → Option Rule → Type 0
IsOf c None = Unit {0}
IsOf c (Some a) = IsIn a c

found_is_of : (p : Rule → Bool) (xs : List Rule) → IsOf xs (find p xs)
found_is_of p [] = tt
found_is_of p (x ∷ xs) = go (p x) (find p xs) (found_is_of p xs)
  where
    go : (b : Bool) (o : Option Rule) → IsOf xs o → IsOf (x ∷ xs) (cond b (Some x) o)
    go true o h = inl refl
    go false None h = tt
    go false (Some a) h = inr h

-- a fact K of rows, which each use of an option keeps
module _ (c : List Rule) (again : Bool) (K : List Row → Type 0)
    (step : (a : Rule) (vs : List Text) (rows : List Row) → IsIn a c → use_passes again a vs rows ≡ true → K rows → K (used a vs rows)) where
  used_keeps : (o : Option Rule) → IsOf c o → (vs : List Text) (rows : List Row) → option_map_or (λ a. use_passes again a vs rows) o true ≡ true → K rows → K (used_by_id o vs rows)
  used_keeps None of vs rows e k = k
  used_keeps (Some a) of vs rows e k = step a vs rows of e k

  settled_keeps : (h : Held) → settle_passes c again h ≡ true → K h.rows → K (settled_rows c h.pending h.rows)
  settled_keeps h e k = go h.pending e
    where
      go : (o : Option (Text × List Text)) → option_map_or (λ p. option_map_or (λ a. use_passes again a p.1 h.rows) (arg_by_id c p.0) true) o true ≡ true → K (settled_rows c o h.rows)
      go None x = k
      go (Some p) x = used_keeps (arg_by_id c p.0) (found_is_of (λ a. bytes_eq a.id p.0) c) p.1 h.rows x k

  reacted_keeps : (a : Rule) (vs : List Text) (h : Held) → IsIn a c → react_passes c again a vs h ≡ true → K h.rows → K (reacted c a vs h).rows
  reacted_keeps a vs h of e k =
      let parts = both (settle_passes c again h) (use_passes again a vs (settled c h).rows) e in
      step a vs (settled c h).rows of parts.1 (settled_keeps h parts.0 k)

  option_keeps : (a : Rule) (v : Option Text) (h : Held) → IsIn a c → option_passes c again a v h ≡ true → K h.rows → K (option_met c a v h).0.rows
  option_keeps a (Some v) h of e k = reacted_keeps a (v ∷ []) h of e k
  option_keeps a None h of e k = settled_keeps h e k

  flag_keeps : (a : Rule) (v : Option Text) (h : Held) → IsIn a c → (not (is_some v) && react_passes c again a [] h) ≡ true → K h.rows → K (flag_met c a v h).0.rows
  flag_keeps a (Some v) h of e k = k
  flag_keeps a None h of e k = reacted_keeps a [] h of e k

  long_keeps : (o : Option Rule) → IsOf c o → (v : Option Text) (h : Held) → long_passes c again o v h ≡ true → K h.rows → K (long_met c o v h).0.rows
  long_keeps None of v h e k = k
  long_keeps (Some a) of v h e k = go (takes_values a) e
    where
      go : (t : Bool) → cond t (option_passes c again a v h) (not (is_some v) && react_passes c again a [] h) ≡ true → K (cond t (option_met c a v h) (flag_met c a v h)).0.rows
      go true x = option_keeps a v h of x k
      go false x = flag_keeps a v h of x k

  short_keeps : (o : Option Rule) → IsOf c o → (rest : Text) (h : Held) (f : Held → Held × Outcome) (g : Held → Bool)
      → ((x : Held) → g x ≡ true → K x.rows → K (f x).0.rows) → short_passes c again o rest h g ≡ true → K h.rows → K (short_met c o rest h f).0.rows
  short_keeps None of rest h f g rec e k = k
  short_keeps (Some a) of rest h f g rec e k = go (takes_values a) e
    where
      go : (t : Bool) → cond t (option_passes c again a (attached_value rest) h) (react_passes c again a [] h && g (reacted c a [] h)) ≡ true
          → K (cond t (option_met c a (attached_value rest) h) (f (reacted c a [] h))).0.rows
      go true x = option_keeps a (attached_value rest) h of x k
      go false x =
          let parts = both (react_passes c again a [] h) (g (reacted c a [] h)) x in
          rec (reacted c a [] h) parts.1 (reacted_keeps a [] h of parts.0 k)

  bundle_step_keeps : (o : Option ℕ) (flags : Text) (skip : ℕ) (so_far : Outcome) (h : Held) (f : Text → ℕ → Outcome → Held → Held × Outcome) (g : Text → ℕ → Held → Bool)
      → ((t : Text) (n : ℕ) (s : Outcome) (x : Held) → g t n x ≡ true → K x.rows → K (f t n s x).0.rows)
      → bundle_step_passes c again o flags skip h g ≡ true → K h.rows → K (bundle_step c o flags skip so_far h f).0.rows
  bundle_step_keeps None flags skip so_far h f g rec e k = k
  bundle_step_keeps (Some x) flags zero so_far h f g rec e k =
      let rest = drop (length (encode_utf8 x)) flags in
      short_keeps (arg_by_short c x) (found_is_of _ c) rest h (f rest 0 done) (g rest 0) (rec rest 0 done) e k
  bundle_step_keeps (Some x) flags (suc skip) so_far h f g rec e k = rec (drop (length (encode_utf8 x)) flags) skip so_far h e k

  bundle_keeps : (n : ℕ) (flags : Text) (skip : ℕ) (so_far : Outcome) (h : Held) → flags_pass c again n flags skip h ≡ true → K h.rows → K (bundle_met c n flags skip so_far h).0.rows
  unfolding bundle_met flags_pass
  bundle_keeps zero flags skip so_far h e k = k
  bundle_keeps (suc n) flags skip so_far h e k =
      bundle_step_keeps (slice_get (chars flags) 0) flags skip so_far h (bundle_met c n) (flags_pass c again n) (bundle_keeps n) e k

  waiting_keeps : (o : Option Rule) (id word : Text) (h : Held) → K h.rows → K (option_word o id word h).0.rows
  waiting_keeps None id word h k = k
  waiting_keeps (Some a) id word h k = k

  plain_keeps : (w : Waiting) (word : Text) (h : Held) → K h.rows → K (plain_word c w word h).0.rows
  plain_keeps idle word h k = k
  plain_keeps positional word h k = k
  plain_keeps (option id) word h k = waiting_keeps (arg_by_id c id) id word h k

  after_flag_keeps : (w : Waiting) (word : Text) (h : Held) (o : Outcome) → K h.rows → K (after_flag c w word h o).0.rows
  after_flag_keeps w word h done k = k
  after_flag_keeps w word h (waits id) k = k
  after_flag_keeps w word h plain k = plain_keeps w word h k
  after_flag_keeps w word h refused k = plain_keeps w word h k

  flag_word_keeps : (o : Option (Text × Option Text)) (w : Waiting) (word : Text) (h : Held) → flag_word_passes c again o word h ≡ true → K h.rows → K (long_or_other c w word o h).0.rows
  flag_word_keeps (Some p) w word h e k =
      after_flag_keeps w word (long_met c (arg_by_long c p.0) p.1 h).0 (long_met c (arg_by_long c p.0) p.1 h).1
      (long_keeps (arg_by_long c p.0) (found_is_of _ c) p.1 h e k)
  flag_word_keeps None w word h e k = go (short_of word) e
    where
      go : (o : Option Text) → option_map_or (λ flags. bundle_passes c again flags h) o true ≡ true → K (short_or_plain c w word o h).0.rows
      go None x = plain_keeps w word h k
      go (Some flags) x = after_flag_keeps w word (bundle c flags h).0 (bundle c flags h).1 (bundle_keeps (length flags) flags h.skip plain (record h { skip = 0 }) x k)

  to_positional_keeps : (o : Option Rule) (word : Text) (w : Walk) (h : Held) → option_map_or (λ a. positional_passes c again a h) o false ≡ true → K h.rows → K (to_positional c o word w h).held.rows
  to_positional_keeps None word w h e k = k
  to_positional_keeps (Some a) word w h e k = go (is_pending a h.pending && takes_several a) e
    where
      go : (t : Bool) → (t || settle_passes c again h) ≡ true → K (cond t h (settled c h)).rows
      go true x = k
      go false x = settled_keeps h x k

-- the same over the words of a command
module _ (s : Shape) (names : Names) (K : List Row → Type 0)
    (step : (a : Rule) (vs : List Text) (rows : List Row) → IsIn a s.rules → use_passes s.args_override_self a vs rows ≡ true → K rows → K (used a vs rows)) where
  other_keeps : (o : Option Text) (w : Waiting) (position : ℕ) (word : Text) (h : Held) → other_passes s o word h ≡ true → K h.rows → K (subcommand_or_other s.rules o w position word h).0.rows
  other_keeps (Some name) w position word h e k = k
  other_keeps None w position word h e k = go (bytes_eq word (45 ∷ 45 ∷ [])) e
    where
      go : (b : Bool) → (b || flag_word_passes s.rules s.args_override_self (long_of word) word h) ≡ true
          → K (cond b (h, trailing position) (long_or_other s.rules w word (long_of word) h)).0.rows
      go true x = k
      go false x = flag_word_keeps s.rules s.args_override_self K step (long_of word) w word h x k

  word_keeps : (t : Bool) (w : Waiting) (position : ℕ) (word : Text) (h : Held) → word_passes s names t w word h ≡ true → K h.rows → K (word_met s.rules names t w position word h).0.rows
  word_keeps true w position word h e k = k
  word_keeps false w position word h e k = other_keeps (subcommand_met names w word) w position word h e k

  step_keeps : (word : Text) (w : Walk) (h : Held) (x : Step) → step_passes s w.position h x ≡ true → K h.rows → K (after_step s.rules word w h x).held.rows
  step_keeps word w h (next waiting) e k = k
  step_keeps word w h (trailing position) e k = k
  step_keeps word w h (subcommand name) e k = k
  step_keeps word w h value e k = to_positional_keeps s.rules s.args_override_self K step (arg_by_index s.rules w.position) word w h e k

  turn_keeps : (w : Walk) (word : Text) → turn_passes s names w word ≡ true → K w.held.rows → K (walked s.rules names w word).held.rows
  unfolding walked
  turn_keeps w word e k = go w.stopped e
    where
      go : (o : Option (Text × List Text))
          → (is_some o || (word_passes s names w.is_trailing w.waiting word w.held && step_passes s w.position (word_met s.rules names w.is_trailing w.waiting w.position word w.held).0 (word_met s.rules names w.is_trailing w.waiting w.position word w.held).1)) ≡ true
          → K (walked_from s.rules names o w word).held.rows
      go (Some p) x = k
      go None x =
          let met = word_met s.rules names w.is_trailing w.waiting w.position word w.held in
          let parts = both (word_passes s names w.is_trailing w.waiting word w.held) (step_passes s w.position met.0 met.1) x in
          step_keeps word w met.0 met.1 parts.1 (word_keeps w.is_trailing w.waiting w.position word w.held parts.0 k)

  pub walk_keeps : (words : List Text) (w : Walk) → walk_passes s names w words ≡ true → K w.held.rows → K (fold (walked s.rules names) w words).held.rows
  unfolding walk_passes
  walk_keeps [] w e k = k
  walk_keeps (word ∷ rest) w e k =
      let parts = both (turn_passes s names w word) (walk_passes s names (walked s.rules names w word) rest) e in
      walk_keeps rest (walked s.rules names w word) parts.1 (turn_keeps w word parts.0 k)

pub settling_keeps : (c : List Rule) (again : Bool) (K : List Row → Type 0)
    → ((a : Rule) (vs : List Text) (rows : List Row) → IsIn a c → use_passes again a vs rows ≡ true → K rows → K (used a vs rows))
    → (h : Held) → settle_passes c again h ≡ true → K h.rows → K (settled_rows c h.pending h.rows)
settling_keeps c again K step h e k = settled_keeps c again K step h e k
