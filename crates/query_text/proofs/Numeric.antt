-- Numbers and decimals that stand first.
use Rattle.std.proofs.Common.{◌≡◌, ℕ, zero, suc, ◌+◌, ◌<◌, ◌≤◌, Bool, true, false, ◌&&◌, nat_le, if◌then◌else◌, List, [], ◌∷◌, ◌++◌, length, take, drop, get_or, ◌⊎◌, inl, inr, refl, ap, sym, subst, ◌∙◌, arith, length-take-le, length-append, append_assoc, append-nil, drop-drop, true≢false, get_or-take}
use Rattle.std.specs.Bool.{◌==◌}
use Rattle.std.specs.List.{list_all, prefix_len, take_while}
use Rattle.std.proofs.Math.Seq.{drop-append_seam, take-append_seam, take-append-add, drop-append-add, take-length}
use Rattle.std.proofs.lemmas.Bool.{eqb-true, eq-eqb, and_parts}
use Rattle.std.proofs.lemmas.Bool.Decides.{nat_tests}
use Rattle.std.proofs.lemmas.List.{take-append-drop}
use Rattle.std.proofs.lemmas.List.Folds.{length-prefix_len}
use Rattle.std.proofs.lemmas.List.Sums.{prefix_len-le-length, prefix_len_passes, list_all-from_AllPass}
use Rattle.query_text.specs.declared.word.Word.TheVariants as W
use Rattle.query_text.specs.Words.{is_digit, number_word, number_length, fraction_length, decimal_word, decimal_from, numeric_of, numeric_front}
use Rattle.query_text.specs.Forms.{IsNumberForm, IsDecimalForm, IsWord, IsPastLimit}
use Rattle.query_text.proofs.Numbers.{past_units}

-- a front whose bytes all pass is no longer than the run that passes
pub run_most : (p : ℕ → Bool) (bs : List ℕ) (m : ℕ) → list_all p (take m bs) ≡ true → length (take m bs) ≤ prefix_len p bs
run_most p bs zero h = omega arith
run_most p [] (suc m) h = omega arith
run_most p (b ∷ bs) (suc m) h = let q = and_parts (p b) (list_all p (take m bs)) h in rw q.0 (omega (arith, run_most p bs m q.1))

-- the whole run passes
pub run_all : (p : ℕ → Bool) (bs : List ℕ) → list_all p (take (prefix_len p bs) bs) ≡ true
run_all p bs = list_all-from_AllPass p (take (prefix_len p bs) bs) (λ i d h. let l : i < prefix_len p bs = omega (arith, h, length-prefix_len p bs) in ap p (get_or-take (prefix_len p bs) bs i d l) ∙ prefix_len_passes p bs i d l)

pub run_some : (p : ℕ → Bool) (b : ℕ) (bs : List ℕ) → p b ≡ true → 0 < prefix_len p (b ∷ bs)
run_some p b bs e = rw e (omega arith)

-- bytes that all pass, and then others
run_over : (fs t : List ℕ) → list_all is_digit fs ≡ true → length fs ≤ prefix_len is_digit (fs ++ t)
run_over [] t h = omega arith
run_over (b ∷ fs) t h = let q = and_parts (is_digit b) (list_all is_digit fs) h in rw q.0 (omega (arith, run_over fs t q.1))

run_to : (w t : List ℕ) → prefix_len is_digit t ≡ 0 → list_all is_digit w ≡ true → prefix_len is_digit (w ++ t) ≡ length w
run_to [] t z h = z
run_to (b ∷ w) t z h = let q = and_parts (is_digit b) (list_all is_digit w) h in rw q.0 (omega (arith, run_to w t z q.1))

-- a number before what is no digit
length_to : (w t : List ℕ) → prefix_len is_digit t ≡ 0 → IsNumberForm w → number_length (w ++ t) ≡ length w
length_to [] t z n = absurd (let s = n.some in omega arith)
length_to (b ∷ w) t z n = here (b == 48) refl
  where
    here : (x : Bool) → (b == 48) ≡ x → (if x then 1 else length (take_while is_digit (b ∷ w ++ t))) ≡ suc (length w)
    here true e = sym (n.zero_alone (eqb-true b 48 e))
    here false e = length-prefix_len is_digit (b ∷ w ++ t) ∙ run_to (b ∷ w) t z n.all

of_number : (bs : List ℕ) (n f : ℕ) → n ≡ length bs → f ≡ 0 → numeric_of n f bs ≡ (number_word bs, length bs)
of_number bs n f e g = rw (e, g) (ap (λ z. (number_word z, length bs)) (take-length bs))

-- a number alone
pub number_alone : (bs : List ℕ) → IsNumberForm bs → numeric_front bs ≡ (number_word bs, length bs)
number_alone bs h =
    let n : number_length bs ≡ length bs = ap number_length (sym (append-nil bs)) ∙ length_to bs [] refl h in
    let d : drop (number_length bs) bs ≡ [] = ap (λ k. drop k bs) n ∙ ap (drop (length bs)) (sym (append-nil bs)) ∙ drop-append_seam bs [] in
    of_number bs (number_length bs) (fraction_length (drop (number_length bs) bs)) n (ap fraction_length d)

pub of_decimal : (n f : ℕ) (bs : List ℕ) → 0 < f → numeric_of n f bs ≡ (decimal_word (take n bs) (take f (drop (suc n) bs)), suc n + f)
of_decimal n zero bs h = absurd (omega arith)
of_decimal n (suc f) bs h = refl

-- a decimal alone
pub decimal_alone : (bs w fs : List ℕ) → bs ≡ w ++ 46 ∷ fs → IsNumberForm w → 0 < length fs → list_all is_digit fs ≡ true → numeric_front bs ≡ (decimal_word w fs, length bs)
decimal_alone bs w fs p n s h =
    let l : number_length bs ≡ length w = ap number_length p ∙ length_to w (46 ∷ fs) refl n in
    let d : drop (length w) bs ≡ 46 ∷ fs = ap (drop (length w)) p ∙ drop-append_seam w (46 ∷ fs) in
    let all : prefix_len is_digit fs ≡ length fs = ap (prefix_len is_digit) (sym (append-nil fs)) ∙ run_to fs [] refl h in
    let f : fraction_length (drop (length w) bs) ≡ length fs = ap fraction_length d ∙ length-prefix_len is_digit fs ∙ all in
    let t : take (length w) bs ≡ w = ap (take (length w)) p ∙ take-append_seam w (46 ∷ fs) in
    let o : suc (length w) ≡ length w + 1 = omega arith in
    let e : drop (suc (length w)) bs ≡ fs = ap (λ k. drop k bs) o ∙ ap (drop (length w + 1)) p ∙ drop-append-add w (46 ∷ fs) 1 in
    let g : take (length fs) (drop (suc (length w)) bs) ≡ fs = ap (take (length fs)) e ∙ take-length fs in
    let m : suc (length w) + length fs ≡ length bs = (let q = ap length p ∙ length-append w (46 ∷ fs) in omega arith) in
    ap (λ k. numeric_of k (fraction_length (drop k bs)) bs) l
    ∙ ap (λ k. numeric_of (length w) k bs) f
    ∙ of_decimal (length w) (length fs) bs s
    ∙ ap (λ z. (decimal_word z (take (length fs) (drop (suc (length w)) bs)), suc (length w) + length fs)) t
    ∙ ap (λ z. (decimal_word w z, suc (length w) + length fs)) g
    ∙ ap (λ k. (decimal_word w fs, k)) m

-- the prefix of n bytes is a number, and no longer prefix is one
abbrev pub Numbered : List ℕ → ℕ → Type 0
Numbered bs n = (n ≤ length bs) × IsNumberForm (take n bs) × ((m : ℕ) → IsNumberForm (take m bs) → length (take m bs) ≤ n)

digits_form : (b : ℕ) (bs : List ℕ) → is_digit b ≡ true → (b == 48) ≡ false → IsNumberForm (take (prefix_len is_digit (b ∷ bs)) (b ∷ bs))
digits_form b bs e z =
    let n = prefix_len is_digit (b ∷ bs) in
    let p : length (take n (b ∷ bs)) ≡ n = length-prefix_len is_digit (b ∷ bs) in
    let some : 0 < n = run_some is_digit b bs e in
    let first : get_or (take n (b ∷ bs)) 0 0 ≡ b = get_or-take n (b ∷ bs) 0 0 some in
    record { some = rw p some; all = run_all is_digit (b ∷ bs); zero_alone = λ f. absurd (true≢false (sym (eq-eqb b 48 (sym first ∙ f)) ∙ z)) }

pub numbered : (b : ℕ) (bs : List ℕ) → is_digit b ≡ true → Numbered (b ∷ bs) (number_length (b ∷ bs))
numbered b bs e = here (b == 48) refl
  where
    zero_fits : (m : ℕ) → b ≡ 48 → IsNumberForm (take m (b ∷ bs)) → length (take m (b ∷ bs)) ≤ 1
    zero_fits zero z h = omega arith
    zero_fits (suc m) z h = let t = h.zero_alone z in omega arith

    here : (x : Bool) → (b == 48) ≡ x → Numbered (b ∷ bs) (if x then 1 else length (take_while is_digit (b ∷ bs)))
    here true z =
        let f : IsNumberForm (b ∷ []) = record { some = omega arith; all = rw e refl; zero_alone = λ g. refl } in
        (omega arith, f, λ m. zero_fits m (eqb-true b 48 z))
    here false z =
        let n = prefix_len is_digit (b ∷ bs) in
        let p : n ≡ length (take n (b ∷ bs)) = sym (length-prefix_len is_digit (b ∷ bs)) in
        subst (λ k. Numbered (b ∷ bs) k) p (prefix_len-le-length is_digit (b ∷ bs), digits_form b bs e z, λ m h. run_most is_digit (b ∷ bs) m h.all)

-- a front that is a decimal is no longer than the one that is found
pub decimal_fits : (bs : List ℕ) (m : ℕ) → IsDecimalForm (take m bs) → (0 < fraction_length (drop (number_length bs) bs)) × (length (take m bs) ≤ suc (number_length bs) + fraction_length (drop (number_length bs) bs))
decimal_fits bs m h =
    let w = h.whole in
    let fs = h.fraction in
    let t = fs ++ drop m bs in
    let p : bs ≡ w ++ 46 ∷ t = sym (take-append-drop m bs) ∙ ap (λ z. z ++ drop m bs) h.pointed ∙ append_assoc w (46 ∷ fs) (drop m bs) in
    let n : number_length bs ≡ length w = ap number_length p ∙ length_to w (46 ∷ t) refl h.number in
    let d : drop (number_length bs) bs ≡ 46 ∷ t = ap (λ k. drop k bs) n ∙ ap (drop (length w)) p ∙ drop-append_seam w (46 ∷ t) in
    let f : fraction_length (drop (number_length bs) bs) ≡ prefix_len is_digit t = ap fraction_length d ∙ length-prefix_len is_digit t in
    let r : length fs ≤ prefix_len is_digit t = run_over fs (drop m bs) h.digits in
    let l : length (take m bs) ≡ length w + suc (length fs) = ap length h.pointed ∙ length-append w (46 ∷ fs) in
    let s = h.some in
    (omega arith, omega arith)

-- a point and digits behind it
point_is : (ys : List ℕ) (k : ℕ) → fraction_length ys ≡ suc k → (t : List ℕ) × (ys ≡ 46 ∷ t) × (prefix_len is_digit t ≡ suc k)
point_is [] k e = cc
point_is (y ∷ t) k e = here (y == 46) refl e
  where
    here : (x : Bool) → (y == 46) ≡ x → (if x then length (take_while is_digit t) else 0) ≡ suc k → (u : List ℕ) × (y ∷ t ≡ 46 ∷ u) × (prefix_len is_digit u ≡ suc k)
    here true g e = (t, ap (λ z. z ∷ t) (eqb-true y 46 g), sym (length-prefix_len is_digit t) ∙ e)
    here false g e = cc

-- what a decimal has that is found
abbrev pub Pointed : List ℕ → ℕ → ℕ → Type 0
Pointed bs n f = (suc n + f ≤ length bs) × (take (suc n + f) bs ≡ take n bs ++ 46 ∷ take f (drop (suc n) bs)) × (0 < length (take f (drop (suc n) bs))) × (list_all is_digit (take f (drop (suc n) bs)) ≡ true)

pub pointed : (bs : List ℕ) (n k : ℕ) → n ≤ length bs → fraction_length (drop n bs) ≡ suc k → Pointed bs n (suc k)
pointed bs n k l e =
    let p = point_is (drop n bs) k e in
    let t = p.0 in
    let o : suc n ≡ n + 1 = omega arith in
    let d : drop (suc n) bs ≡ t = ap (λ j. drop j bs) o ∙ sym (drop-drop 1 n bs) ∙ ap (drop 1) p.1 in
    let w : bs ≡ take n bs ++ 46 ∷ t = sym (take-append-drop n bs) ∙ ap (λ z. take n bs ++ z) p.1 in
    let a : length (take n bs) ≡ n = length-take-le n bs l in
    let i : suc n + suc k ≡ length (take n bs) + suc (suc k) = omega arith in
    let fits : suc k ≤ length t = (let q = prefix_len-le-length is_digit t in let r = p.2 in omega arith) in
    let long : length bs ≡ length (take n bs) + suc (length t) = ap length w ∙ length-append (take n bs) (46 ∷ t) in
    let size : length (take (suc k) (drop (suc n) bs)) ≡ suc k = ap (λ z. length (take (suc k) z)) d ∙ length-take-le (suc k) t fits in
    let all : list_all is_digit (take (suc k) t) ≡ true = subst (λ j. list_all is_digit (take j t) ≡ true) p.2 (run_all is_digit t) in (
      omega arith,
      ap (λ j. take j bs) i ∙ ap (take (length (take n bs) + suc (suc k))) w ∙ take-append-add (take n bs) (46 ∷ t) (suc (suc k)) ∙ ap (λ z. take n bs ++ 46 ∷ take (suc k) z) (sym d),
      omega arith,
      subst (λ z. list_all is_digit (take (suc k) z) ≡ true) (sym d) all,
    )

-- a decimal is a word or past its limit
pub decimal_is : (bs w fs : List ℕ) → bs ≡ w ++ 46 ∷ fs → IsNumberForm w → 0 < length fs → list_all is_digit fs ≡ true → IsWord bs (decimal_word w fs) ⊎ ((decimal_word w fs ≡ W.Bad) × IsPastLimit bs)
decimal_is bs w fs p n s h = here (nat_le (length fs) 18) (nat_le (decimal_from (decimal_from 0 w) fs) 9223372036854775807) refl refl
  where
    here : (x y : Bool) → nat_le (length fs) 18 ≡ x → nat_le (decimal_from (decimal_from 0 w) fs) 9223372036854775807 ≡ y
        → IsWord bs (if x && y then W.Decimal (decimal_from (decimal_from 0 w) fs) (length fs) else W.Bad) ⊎ (((if x && y then W.Decimal (decimal_from (decimal_from 0 w) fs) (length fs) else W.Bad) ≡ W.Bad) × IsPastLimit bs)
    here true true e f = inl (record { form = record { whole = w; fraction = fs; pointed = p; number = n; some = s; digits = h }; spells = refl; size = refl; short = grind (arith, nat_tests); fits = grind (arith, nat_tests) })
    here true false e f = inr (refl, inr (inr (inl (record { form = record { whole = w; fraction = fs; pointed = p; number = n; some = s; digits = h }; past = inr (grind (arith, nat_tests)) }))))
    here false y e f = inr (refl, inr (inr (inl (record { form = record { whole = w; fraction = fs; pointed = p; number = n; some = s; digits = h }; past = inl (grind (arith, nat_tests)) }))))

-- a decimal past its limit is no word
pub decimal_past : (w fs : List ℕ) → (18 < length fs) ⊎ (9223372036854775808 ≤ decimal_from (decimal_from 0 w) fs) → decimal_word w fs ≡ W.Bad
decimal_past w fs (inl h) = let t : nat_le (length fs) 18 ≡ false = grind (arith, nat_tests) in rw t refl
decimal_past w fs (inr h) = past_units w fs (omega arith)
