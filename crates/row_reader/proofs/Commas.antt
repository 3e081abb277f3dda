-- The fields of a line without quotes are the parts between its commas.
use Rattle.std.proofs.Common.{◌≡◌, ◌<◌, ◌≤◌, ◌+◌, ◌-◌, ℕ, suc, List, [], ◌∷◌, ◌++◌, length, take, drop, Bool, true, false, cond, ltb, Option, Some, None, refl, sym, ◌∙◌, ap, arith, inl, inr, subst}
use Rattle.std.specs.Prelude.{◌≢◌, ◌==◌, count_by}
use Rattle.std.specs.List.{All, position_or_len}
use Rattle.std.proofs.lemmas.Bool.Decides.{eqb_tells, Decides-ltb, nat_tests}
use Rattle.std.proofs.lemmas.List.Recursion.{is_count_by}
use Rattle.row_reader.specs.Quotes.{odd_from, odd_quotes}
use Rattle.row_reader.specs.Record.{record_of}
use Rattle.row_reader.specs.Spelled.{IsBare, SpellsField, SpellsFields}
use Rattle.row_reader.specs.Fields.{commas, before_first}
use Rattle.row_reader.specs.declared.quotes.Place.TheVariants.{Start, Plain}
use Rattle.row_reader.proofs.Records.{other}
use Rattle.row_reader.proofs.Spelling.{even_quotes_spell, fields_are_read}

-- no byte is a comma
abbrev pub NoComma : List ℕ → Type 0
NoComma [] = Unit {0}
NoComma (b ∷ bs) = ((b == 44) ≡ false) × NoComma bs

pub commas-bare : (xs : List ℕ) → NoComma xs → commas xs ≡ xs ∷ []
unfolding commas
commas-bare [] h = refl
commas-bare (x ∷ xs) h = rw (h.0, commas-bare xs h.1) refl

pub commas-more : (xs rest : List ℕ) → NoComma xs → commas (xs ++ 44 ∷ rest) ≡ xs ∷ commas rest
unfolding commas
commas-more [] rest h = refl
commas-more (x ∷ xs) rest h = rw (h.0, commas-more xs rest h.1) refl

bare_none : (xs : List ℕ) → IsBare xs → NoComma xs
bare_none [] h = tt
bare_none (x ∷ xs) h = (other x 44 h.1, bare_none xs h.2)

abbrev NoQuote : List ℕ → Type 0
NoQuote [] = Unit {0}
NoQuote (b ∷ bs) = (b ≢ 34) × NoQuote bs

no_quote : (bs : List ℕ) → All (λ b. b ≢ 34) bs → NoQuote bs
no_quote [] h = tt
no_quote (b ∷ bs) h = (h 0 b (omega arith), no_quote bs (λ n d low. h (suc n) d (omega arith)))

NoQuote-split : (xs ys : List ℕ) → NoQuote (xs ++ ys) → NoQuote xs × NoQuote ys
NoQuote-split [] ys h = (tt, h)
NoQuote-split (x ∷ xs) ys h = let r = NoQuote-split xs ys h.1 in ((h.0, r.0), r.1)

abbrev first : List ℕ → ℕ
first [] = 0
first (b ∷ bs) = b

bare_field : (text f : List ℕ) → NoQuote text → SpellsField text f → (text ≡ f) × IsBare f
bare_field text f n (inl h) = h
bare_field [] f n (inr h) = absurd (omega (arith, ap length h))
bare_field (b ∷ bs) f n (inr h) = absurd (n.0 (ap (λ (l : List ℕ). first l) h))

-- fields that are spelled without quotes are the parts between the commas
parts : (fields : List (List ℕ)) (line : List ℕ) → NoQuote line → SpellsFields line fields → commas line ≡ fields
parts [] line n h = absurd h
parts (f ∷ []) line n h = let b = bare_field line f n h in ap commas b.0 ∙ commas-bare f (bare_none f b.1)
parts (f ∷ g ∷ gs) line n h =
    let s = NoQuote-split h.0 (44 ∷ h.1) (subst NoQuote h.2 n) in
    let b = bare_field h.0 f s.0 h.3 in
    ap commas h.2 ∙ ap (λ (t : List ℕ). commas (t ++ 44 ∷ h.1)) b.0 ∙ commas-more f h.1 (bare_none f b.1) ∙ ap (λ (l : List (List ℕ)). f ∷ l) (parts (g ∷ gs) h.1 s.1.1 h.4)

-- without quotes no quotes are odd
even_both : (xs : List ℕ) → NoQuote xs → (odd_from (Some Start) xs ≡ false) × (odd_from (Some Plain) xs ≡ false)
unfolding odd_from
even_both [] h = (refl, refl)
even_both (x ∷ xs) h = elim (eqb_tells x 44) [
  | inl t ↦ (let e = even_both xs h.1 in (rw (other x 34 h.0, t.0) e.0, rw (other x 34 h.0, t.0) e.0))
  | inr t ↦ (let e = even_both xs h.1 in (rw (other x 34 h.0, t.0) e.1, rw (other x 34 h.0, t.0) e.1))
]

pub even_without : (text : List ℕ) → All (λ b. b ≢ 34) text → odd_quotes text ≡ false
even_without text h = (even_both text (no_quote text h)).0

pub record_of_commas : (text : List ℕ) → 0 < length text → All (λ b. b ≢ 34) text → All (λ b. b ≢ 13) text → All (λ b. b ≢ 10) text → record_of text ≡ commas text
record_of_commas text some q r n =
    let s = (even_quotes_spell text r n).0 (even_without text q) in
    fields_are_read text s.0 some r n s.1 ∙ sym (parts s.0 text (no_quote text q) s.1)

-- the place of the first comma
abbrev first_comma : List ℕ → ℕ
first_comma text = position_or_len (λ b. b == 44) text

pub cut_here : (text : List ℕ) → first_comma text < length text → commas text ≡ take (first_comma text) text ∷ commas (drop (first_comma text + 1) text)
unfolding commas
cut_here [] h = absurd (omega arith)
cut_here (b ∷ bs) h = elim (eqb_tells b 44) [
  | inl t ↦ rw t.0 refl
  | inr t ↦ (
      let n = first_comma bs in
      let low : n < length bs = let g : 1 + n < suc (length bs) = rw t.0 at h in omega (arith, g) in
      let later = cut_here bs low in
      let one : 1 + n ≡ suc n = omega arith in
      let two : suc n + 1 ≡ suc (n + 1) = omega arith in
      rw t.0 (rw one (rw two (ap (before_first b) later)))
      )
]

found_by : (b : Bool) (p i : ℕ) → cond b (Some p) None ≡ Some i → (p ≡ i) × (b ≡ true)
found_by true p i e = (cc, refl)
found_by false p i e = absurd (cc)

missed_by : (b : Bool) (p : ℕ) → cond b (Some p) None ≡ None → b ≡ false
missed_by true p e = absurd (cc)
missed_by false p e = refl

-- what the search for a comma answers
pub found : (text : List ℕ) (r : Option ℕ) (i : ℕ) → r ≡ cond (ltb (first_comma text) (length text)) (Some (first_comma text)) None → r ≡ Some i → (first_comma text ≡ i) × (first_comma text < length text)
found text r i asked e = let f = found_by (ltb (first_comma text) (length text)) (first_comma text) i (sym asked ∙ e) in (f.0, (Decides-ltb _ _).0 f.1)

not_below : (a b : ℕ) → ltb a b ≡ false → b ≤ a
not_below a b h = grind (arith, nat_tests)

pub missed : (text : List ℕ) (r : Option ℕ) → r ≡ cond (ltb (first_comma text) (length text)) (Some (first_comma text)) None → r ≡ None → length text ≤ first_comma text
missed text r asked e = not_below (first_comma text) (length text) (missed_by (ltb (first_comma text) (length text)) (first_comma text) (sym asked ∙ e))

pub cut_nowhere : (text : List ℕ) → length text ≤ first_comma text → commas text ≡ text ∷ []
unfolding commas
cut_nowhere [] h = refl
cut_nowhere (b ∷ bs) h = elim (eqb_tells b 44) [
  | inl t ↦ absurd (let g : suc (length bs) ≤ 0 = rw t.0 at h in omega (arith, g))
  | inr t ↦ (let g : suc (length bs) ≤ 1 + first_comma bs = rw t.0 at h in rw t.0 (ap (before_first b) (cut_nowhere bs (omega (arith, g)))))
]

before-some : (b : ℕ) (fs : List (List ℕ)) → 0 < length (before_first b fs)
before-some b [] = omega arith
before-some b (f ∷ fs) = omega arith

commas-some : (text : List ℕ) → 0 < length (commas text)
unfolding commas
commas-some [] = omega arith
commas-some (b ∷ bs) = elim (eqb_tells b 44) [ inl t ↦ rw t.0 (omega arith) | inr t ↦ rw t.0 (before-some b (commas bs)) ]

before-length : (b : ℕ) (fs : List (List ℕ)) → 0 < length fs → length (before_first b fs) ≡ length fs
before-length b [] h = absurd (omega arith)
before-length b (f ∷ fs) h = refl

one_more : (b : ℕ) (bs : List ℕ) → length (commas (b ∷ bs)) - 1 ≡ cond (b == 44) (1 + (length (commas bs) - 1)) (length (commas bs) - 1)
unfolding commas
one_more b bs = elim (eqb_tells b 44) [
  | inl t ↦ rw t.0 (omega (arith, commas-some bs))
  | inr t ↦ rw t.0 (ap (λ (n : ℕ). n - 1) (before-length b (commas bs) (commas-some bs)))
]

no_more : length (commas []) - 1 ≡ 0
unfolding commas
no_more = refl

pub length-commas : (text : List ℕ) → length (commas text) ≡ 1 + count_by (λ b. b == 44) text
length-commas text = omega (arith, commas-some text, is_count_by (λ t. length (commas t) - 1) (λ b. b == 44) no_more one_more text)
