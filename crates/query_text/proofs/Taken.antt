-- What is taken first is the longest that looks like a word, and nothing else is.
use Rattle.std.proofs.Common.{◌≡◌, ◌≢◌, ℕ, ◌<◌, ◌≤◌, Bool, true, false, ◌&&◌, nat_le, nat_lt, if◌then◌else◌, Option, Some, None, List, [], ◌∷◌, ◌++◌, suc, ◌+◌, length, length-append, append-nil, take, get_or, ◌⊎◌, inl, inr, refl, ap, sym, subst, ◌∙◌, arith, length-take-le}
use Rattle.std.specs.Bool.{◌==◌}
use Rattle.std.specs.List.{list_all}
use Rattle.std.proofs.Math.Seq.{take-length}
use Rattle.std.proofs.lemmas.Bool.{and_parts}
use Rattle.std.proofs.lemmas.Bool.Decides.{nat_tests}
use Rattle.query_text.specs.declared.word.Sign.{Sign}
use Rattle.query_text.specs.declared.word.Word.{Word}
use Rattle.query_text.specs.declared.word.Word.TheVariants as W
use Rattle.query_text.specs.Words.{is_letter, is_digit, is_name_byte, short_name, name_word, number_word, decimal_word, decimal_from, numeric_front, quoted_rest, quoted_word, signs, reserved, look_up, front_of}
use Rattle.query_text.specs.Forms.{IsNameForm, IsNumberForm, IsDecimalForm, IsQuotedForm, IsOpenForm, HasForm, IsWord, IsPastLimit, IsLongest, IsBadFront, IsTaken}
use Rattle.query_text.proofs.Forms.{IsFormed, IsFront, front, no_empty, starts_sign, number_head, decimal_head, quoted_head, open_head, sign_head}
use Rattle.query_text.proofs.Inside.{inside_rest}
use Rattle.query_text.proofs.Numeric.{number_alone, decimal_alone, decimal_past}
use Rattle.query_text.proofs.Tables.{found_has}

-- how a reserved word is spelled
abbrev pub is_reserved_form : List ℕ → Bool
is_reserved_form bs = is_letter (get_or bs 0 0) && (list_all is_name_byte bs && nat_le (length bs) 64)

reserved_form : (bs : List ℕ) (s : Sign) → look_up reserved bs ≡ Some s → IsNameForm bs × (length bs ≤ 64)
reserved_form bs s e =
    let t = and_parts (is_letter (get_or bs 0 0)) (list_all is_name_byte bs && nat_le (length bs) 64) (found_has is_reserved_form reserved bs s refl e) in
    let u = and_parts (list_all is_name_byte bs) (nat_le (length bs) 64) t.1 in
    (record { first = t.0; all = u.0 }, grind (arith, nat_tests))

-- a word has a form
pub has_form : (bs : List ℕ) (w : Word) → IsWord bs w → HasForm bs
has_form bs (W.Name n) h = inl h.form
has_form bs (W.Number n) h = inr (inl h.form)
has_form bs (W.Decimal u p) h = inr (inr (inl h.form))
has_form bs (W.Quoted n) h = inr (inr (inr (inl h.0)))
has_form bs (W.Fixed s) (inl e) = inl (reserved_form bs s e).0
has_form bs (W.Fixed s) (inr e) = inr (inr (inr (inr (inr (record { sign = s; found = e })))))
has_form bs W.Bad h = absurd h

longest_of : (bs : List ℕ) (n : ℕ) → ((m : ℕ) → HasForm (take m bs) → length (take m bs) ≤ n) → IsLongest bs n
longest_of bs n most m l k h = let t = most m h in let e = length-take-le m bs k in omega arith

pub front_taken : (bs : List ℕ) → IsTaken bs (front_of bs)
front_taken bs = here (front bs)
  where
    here : IsFront bs (front_of bs) → IsTaken bs (front_of bs)
    here (inl (l, inl w, most)) = inl (l, w, longest_of bs (front_of bs).1 most)
    here (inl (l, inr p, most)) = inr (p.0, inl (l, p.1, longest_of bs (front_of bs).1 most))
    here (inr f) = inr (f.0, inr (f.1, f.2))

pub word_front : (bs : List ℕ) → (front_of bs).0 ≢ W.Bad → ((front_of bs).1 ≤ length bs) × IsWord (take (front_of bs).1 bs) (front_of bs).0
word_front bs good = here (front_taken bs)
  where
    here : IsTaken bs (front_of bs) → ((front_of bs).1 ≤ length bs) × IsWord (take (front_of bs).1 bs) (front_of bs).0
    here (inl t) = (t.0, t.1)
    here (inr t) = absurd (good t.0)

pub longest_front : (bs : List ℕ) (m : ℕ) (w : Word) → (front_of bs).1 < m → m ≤ length bs → IsWord (take m bs) w → ⊥
longest_front bs m w l k h = here (front_taken bs)
  where
    here : IsTaken bs (front_of bs) → ⊥
    here (inl t) = t.2 m l k (has_form (take m bs) w h)
    here (inr (e, inl t)) = t.2 m l k (has_form (take m bs) w h)
    here (inr (e, inr t)) = t.1 m (has_form (take m bs) w h)

pub bad_front : (bs : List ℕ) → (front_of bs).0 ≡ W.Bad → IsBadFront bs (front_of bs).1
bad_front bs bad = here (front_taken bs)
  where
    here : IsTaken bs (front_of bs) → IsBadFront bs (front_of bs).1
    here (inl t) = absurd (subst (IsWord (take (front_of bs).1 bs)) bad t.1)
    here (inr t) = t.1

abbrev pub sign_or_bad : Option Sign → Word
sign_or_bad None = W.Bad
sign_or_bad (Some s) = W.Fixed s

-- the word that these bytes can be
abbrev pub spelled : List ℕ → Word
spelled [] = W.Bad
spelled (b ∷ bs) = if is_letter b then name_word (b ∷ bs) else if is_digit b then (numeric_front (b ∷ bs)).0 else if b == 39 then (quoted_word (quoted_rest bs)).0 else sign_or_bad (look_up signs (b ∷ bs))

letter_spelled : (b : ℕ) (bs : List ℕ) → is_letter b ≡ true → spelled (b ∷ bs) ≡ name_word (b ∷ bs)
letter_spelled b bs e = rw e refl

digit_spelled : (b : ℕ) (bs : List ℕ) → is_digit b ≡ true → spelled (b ∷ bs) ≡ (numeric_front (b ∷ bs)).0
digit_spelled b bs e = let l : is_letter b ≡ false = grind (arith, nat_tests) in rw (l, e) refl

quote_spelled : (b : ℕ) (bs : List ℕ) → b ≡ 39 → spelled (b ∷ bs) ≡ (quoted_word (quoted_rest bs)).0
quote_spelled b bs e = rw e refl

number_spelled : (b : ℕ) (bs : List ℕ) → IsNumberForm (b ∷ bs) → spelled (b ∷ bs) ≡ number_word (b ∷ bs)
number_spelled b bs h = digit_spelled b bs (number_head b bs h) ∙ ap (λ x. x.0) (number_alone (b ∷ bs) h)

decimal_spelled : (b : ℕ) (bs : List ℕ) (h : IsDecimalForm (b ∷ bs)) → spelled (b ∷ bs) ≡ decimal_word h.whole h.fraction
decimal_spelled b bs h = digit_spelled b bs (decimal_head b bs h) ∙ ap (λ x. x.0) (decimal_alone (b ∷ bs) h.whole h.fraction h.pointed h.number h.some h.digits)

quoted_spelled : (b : ℕ) (bs : List ℕ) → IsQuotedForm (b ∷ bs) → spelled (b ∷ bs) ≡ W.Quoted (length (b ∷ bs))
unfolding quoted_rest
quoted_spelled b bs h =
    let q = h.quoted in
    let t : bs ≡ h.inner ++ 39 ∷ [] = cc in
    let l : length h.inner + 1 ≡ length bs = (let k = ap length t ∙ length-append h.inner (39 ∷ []) in omega arith) in
    let r : quoted_rest bs ≡ (true, length h.inner + 1) = ap quoted_rest t ∙ inside_rest h.inner (39 ∷ []) h.inside in
    quote_spelled b bs (quoted_head b bs h) ∙ ap (λ x. (quoted_word x).0) r ∙ ap (λ k. W.Quoted (suc k)) l

open_spelled : (b : ℕ) (bs : List ℕ) → IsOpenForm (b ∷ bs) → spelled (b ∷ bs) ≡ W.Bad
unfolding quoted_rest
open_spelled b bs h =
    let q = h.opened in
    let t : bs ≡ h.inner ++ [] = (let f : bs ≡ h.inner = cc in f ∙ sym (append-nil h.inner)) in
    let r : quoted_rest bs ≡ (false, length h.inner + 0) = ap quoted_rest t ∙ inside_rest h.inner [] h.inside in
    quote_spelled b bs (open_head b bs h) ∙ ap (λ x. (quoted_word x).0) r

sign_spelled : (b : ℕ) (bs : List ℕ) → starts_sign (b ∷ bs) ≡ true → spelled (b ∷ bs) ≡ sign_or_bad (look_up signs (b ∷ bs))
sign_spelled b bs e =
    let l : is_letter b ≡ false = grind (arith, nat_tests) in
    let d : is_digit b ≡ false = grind (arith, nat_tests) in
    let q : (b == 39) ≡ false = grind (arith, nat_tests) in
    rw (l, d, q) refl

is_spelled : (bs : List ℕ) (w : Word) → IsWord bs w → w ≡ spelled bs
is_spelled [] w h = absurd (no_empty (has_form [] w h))
is_spelled (b ∷ bs) (W.Name n) h =
    let s = h.short in
    let e = h.size in
    let t : nat_le (length (b ∷ bs)) 64 ≡ true = grind (arith, nat_tests) in
    let k : name_word (b ∷ bs) ≡ W.Name (length (b ∷ bs)) = rw (h.free, t) refl in
    sym (letter_spelled b bs h.form.first ∙ k ∙ ap (λ m. W.Name m) e)
is_spelled (b ∷ bs) (W.Number n) h =
    let s = h.fits in
    let e = h.spells in
    let t : nat_le (decimal_from 0 (b ∷ bs)) 9223372036854775807 ≡ true = grind (arith, nat_tests) in
    let k : number_word (b ∷ bs) ≡ W.Number (decimal_from 0 (b ∷ bs)) = rw t refl in
    sym (number_spelled b bs h.form ∙ k ∙ ap (λ m. W.Number m) e)
is_spelled (b ∷ bs) (W.Decimal u p) h =
    let f = h.form in
    let s = h.short in
    let m = h.fits in
    let e : decimal_from (decimal_from 0 f.whole) f.fraction ≡ u = h.spells in
    let g : length f.fraction ≡ p = h.size in
    let t : nat_le (length f.fraction) 18 ≡ true = grind (arith, nat_tests) in
    let v : nat_le (decimal_from (decimal_from 0 f.whole) f.fraction) 9223372036854775807 ≡ true = grind (arith, nat_tests) in
    let k : decimal_word f.whole f.fraction ≡ W.Decimal (decimal_from (decimal_from 0 f.whole) f.fraction) (length f.fraction) = rw (t, v) refl in
    sym (decimal_spelled b bs f ∙ k ∙ ap (λ x. W.Decimal x (length f.fraction)) e ∙ ap (λ x. W.Decimal u x) g)
is_spelled (b ∷ bs) (W.Quoted n) h = sym (quoted_spelled b bs h.0 ∙ ap (λ m. W.Quoted m) h.1)
is_spelled (b ∷ bs) (W.Fixed s) (inl e) =
    let k : name_word (b ∷ bs) ≡ W.Fixed s = rw e refl in
    sym (letter_spelled b bs (reserved_form (b ∷ bs) s e).0.first ∙ k)
is_spelled (b ∷ bs) (W.Fixed s) (inr e) = sym (sign_spelled b bs (sign_head (b ∷ bs) (record { sign = s; found = e })) ∙ ap sign_or_bad e)
is_spelled (b ∷ bs) W.Bad h = absurd h

pub one_word : (bs : List ℕ) (v w : Word) → IsWord bs v → IsWord bs w → v ≡ w
one_word bs v w h k = is_spelled bs v h ∙ sym (is_spelled bs w k)

long_is_bad : (bs : List ℕ) → 64 < length bs → name_word bs ≡ W.Bad
long_is_bad bs l = here (look_up reserved bs) refl
  where
    here : (r : Option Sign) → look_up reserved bs ≡ r → short_name r (length bs) ≡ W.Bad
    here (Some s) e = let t = (reserved_form bs s e).1 in absurd (omega arith)
    here None e = let t : nat_le (length bs) 64 ≡ false = grind (arith, nat_tests) in rw t refl

past_is_bad : (bs : List ℕ) → IsPastLimit bs → spelled bs ≡ W.Bad
past_is_bad [] h = refl
past_is_bad (b ∷ bs) (inl h) = letter_spelled b bs h.0.first ∙ long_is_bad (b ∷ bs) h.1
past_is_bad (b ∷ bs) (inr (inr (inl h))) = decimal_spelled b bs h.form ∙ decimal_past h.form.whole h.form.fraction h.past
past_is_bad (b ∷ bs) (inr (inr (inr h))) = open_spelled b bs h
past_is_bad (b ∷ bs) (inr (inl h)) =
    let l = h.1 in
    let t : nat_le (decimal_from 0 (b ∷ bs)) 9223372036854775807 ≡ false = grind (arith, nat_tests) in
    let k : number_word (b ∷ bs) ≡ W.Bad = rw t refl in
    number_spelled b bs h.0 ∙ k

equal : (n m : ℕ) → n ≤ m → (n < m → ⊥) → n ≡ m
equal n m l h = here (nat_lt n m) refl
  where
    here : (x : Bool) → nat_lt n m ≡ x → n ≡ m
    here true e = absurd (h (grind (arith, nat_tests)))
    here false e = grind (arith, nat_tests)

pair : (x y : Word × ℕ) → x.0 ≡ y.0 → x.1 ≡ y.1 → x ≡ y
pair (v, n) (w, m) e f = rw (e, f) refl

-- what is taken, a word or past its limit, looks like a word
pub held_form : (bs : List ℕ) (w : Word) → IsWord bs w ⊎ ((w ≡ W.Bad) × IsPastLimit bs) → HasForm bs
held_form bs w (inl h) = has_form bs w h
held_form bs w (inr (e, inl h)) = inl h.0
held_form bs w (inr (e, inr (inl h))) = inr (inl h.0)
held_form bs w (inr (e, inr (inr (inl h)))) = inr (inr (inl h.form))
held_form bs w (inr (e, inr (inr (inr h)))) = inr (inr (inr (inr (inl h))))

held_spelled : (bs : List ℕ) (w : Word) → IsWord bs w ⊎ ((w ≡ W.Bad) × IsPastLimit bs) → w ≡ spelled bs
held_spelled bs w (inl h) = is_spelled bs w h
held_spelled bs w (inr h) = h.0 ∙ sym (past_is_bad bs h.1)

-- two longest prefixes are one
longest_same : (bs : List ℕ) (x y : Word × ℕ) → x.1 ≤ length bs → IsLongest bs x.1 → IsWord (take x.1 bs) x.0 ⊎ ((x.0 ≡ W.Bad) × IsPastLimit (take x.1 bs)) → IsFormed bs y.0 y.1 → x ≡ y
longest_same bs x y l long h f =
    let low = f.2 x.1 (held_form (take x.1 bs) x.0 h) in
    let k = length-take-le x.1 bs l in
    let e : x.1 ≡ y.1 = equal x.1 y.1 (omega arith) (λ more. long y.1 more f.0 (held_form (take y.1 bs) y.0 f.1)) in
    pair x y (held_spelled (take x.1 bs) x.0 h ∙ ap (λ n. spelled (take n bs)) e ∙ sym (held_spelled (take y.1 bs) y.0 f.1)) e

-- nothing else can be taken
pub only_taken : (bs : List ℕ) (x : Word × ℕ) → IsTaken bs x → x ≡ front_of bs
only_taken bs x t = here (front_of bs) (front bs) t
  where
    here : (y : Word × ℕ) → IsFront bs y → IsTaken bs x → x ≡ y
    here y (inl f) (inl t) = longest_same bs x y t.0 t.2 (inl t.1) f
    here y (inl f) (inr (b, inl t)) = longest_same bs x y t.0 t.2 (inr (b, t.1)) f
    here y (inl f) (inr (b, inr t)) = absurd (t.1 y.1 (held_form (take y.1 bs) y.0 f.1))
    here y (inr f) (inl t) = absurd (f.2 x.1 (has_form (take x.1 bs) x.0 t.1))
    here y (inr f) (inr (b, inl t)) = absurd (f.2 x.1 (held_form (take x.1 bs) x.0 (inr (b, t.1))))
    here y (inr f) (inr (b, inr t)) = pair x y (b ∙ sym f.0) (t.0 ∙ sym f.1)

-- bytes that are a word are read as that word
pub alone : (bs : List ℕ) (w : Word) → IsWord bs w → front_of bs ≡ (w, length bs)
alone bs w h = sym (only_taken bs (w, length bs) (inl (omega arith, subst (λ z. IsWord z w) (sym (take-length bs)) h, (λ m l k f. absurd (omega arith)))))
