-- The numbers that are read digit by digit.
use Rattle.std.proofs.Common.{◌≡◌, ◌<◌, ◌≤◌, ◌^◌, ◌+◌, ◌-◌, ◌*◌, ◌/◌, ℕ, ℤ, zero, suc, List, [], ◌∷◌, ◌++◌, length, take, drop, get_or, Bool, true, false, cond, Option, Some, None, refl, sym, ◌∙◌, ap, subst, arith, inl, inr}
use Rattle.std.specs.Prelude.{◌≢◌, ◌==◌, ◌&&◌, IfSome, IfNone, pos, negsuc, decimal, nat_lt}
use Rattle.std.specs.Char.{digit_value}
use Rattle.std.specs.Str.Parse.{AllDigits, digits_value, digits_value_after}
use Rattle.std.proofs.lemmas.Bool.Decides.{Decides-ltb, eqb_tells, nat_tests}
use Rattle.std.proofs.lemmas.Fmt.{digits_decimal, digits_value-decimal, decimal-digits_value, decimal_digit, decimal_nonempty, first_decimal, decimal_injective}
use Rattle.std.proofs.lemmas.List.{length-append, length-drop}
use Rattle.std.proofs.lemmas.Grind.{pow_more}
use Rattle.std.proofs.Math.Nat.{pow-le-pow_right}
use Rattle.row_reader.specs.NumberTexts.{fraction, units_text, number_text}
use Rattle.row_reader.proofs.Digits.{own, read_digits, HasDigits, length-fraction, digits_fraction, value-fraction}
use Rattle.row_reader.proofs.Units.{quotient-le}
use Rattle.row_reader.specs.Number.{units_of, number_of, below_zero, above_zero, has_minus, fits_i64}
use Rattle.row_reader.proofs.Lines.{drop_at}
use Rattle.row_reader.proofs.Numbers.{number_of-none}
use Rattle.row_reader.proofs.Places.{units_of-none, units_of-spelled, units_first, units_injective}

pub IfNone-any : {A : Type 0} (P : Type 0) (r : Option A) → P → IfNone r P
IfNone-any P None p = p
IfNone-any P (Some x) p = tt

value-le : (ds : List ℕ) (n : ℕ) → n ≤ digits_value_after 10 n ds
value-le [] n = omega arith
value-le (d ∷ ds) n = omega (arith, value-le ds (n * 10 + digit_value d))

-- one digit more is more than the number so far
pub too_great : (bs : List ℕ) (i n m d : ℕ) → i < length bs → digit_value (get_or bs i 0) ≡ d → digits_value_after 10 n (drop i bs) ≡ m → n * 10 + d ≤ m
too_great bs i n m d h g e =
    let s : digits_value_after 10 n (drop i bs) ≡ digits_value_after 10 (n * 10 + digit_value (get_or bs i 0)) (drop (i + 1) bs) = ap (digits_value_after 10 n) (drop_at bs i h) in
    omega (arith, s, e, g, value-le (drop (i + 1) bs) (n * 10 + digit_value (get_or bs i 0)))

-- no digits stand where another byte does
pub no_more : (bs : List ℕ) (i : ℕ) → i < length bs → AllDigits 10 (drop i bs) → 10 ≤ digit_value (get_or bs i 0) → ⊥
no_more bs i h all other = let here = subst (AllDigits 10) (drop_at bs i h) all in omega (arith, here.0, other)

-- fewer than twenty digits have a number of 64 bits
pub power_up_to : (i j : ℕ) → i ≤ j → 10 ^ i ≤ 10 ^ j
power_up_to i j h = pow-le-pow_right (omega arith) h

pub one_digit_more : (n d i : ℕ) → n < 10 ^ i → d < 10 → n * 10 + d < 10 ^ (i + 1)
one_digit_more n d i h low = omega (arith, pow_more 10 i, h, low)

pub below_short : (n i : ℕ) → n < 10 ^ i → i ≤ 19 → n < 2 ^ 64
below_short n i h low = omega (arith, power_up_to i 19 low, h)

pub digit_fits : (n d i k : ℕ) → n < 10 ^ i → i < k → k ≤ 19 → d < 10 → n * 10 + d < 2 ^ 64
digit_fits n d i k h below low digit = below_short (n * 10 + d) (i + 1) (one_digit_more n d i h digit) (omega (arith, below, low))

-- a canonical text of digits
pub whole_some : (r : Option ℕ) (bs : List ℕ) → 0 < length bs → get_or bs 0 0 ≢ 48 → IfSome r (λ n. AllDigits 10 bs) → IfSome r (λ n. n ≡ digits_value_after 10 0 bs) → IfSome r (λ n. n < 2 ^ 64) →
    IfSome r (λ n. bs ≡ decimal n)
whole_some None bs some first d v s = tt
whole_some (Some n) bs some first d v s = sym (ap decimal v ∙ decimal-digits_value own bs d some (λ z. absurd (first z)) (omega (arith, v, s)))

pub whole_none : (r : Option ℕ) (bs : List ℕ) → IfNone r (AllDigits 10 bs → digits_value_after 10 0 bs < 2 ^ 64 → ⊥) → IfNone r ((n : ℕ) → n < 2 ^ 64 → bs ≡ decimal n → ⊥)
whole_none (Some m) bs h = tt
whole_none None bs h = λ n low e. h (subst (AllDigits 10) (sym e) (digits_decimal own n low)) (let v : digits_value 10 bs ≡ n = ap (digits_value 10) e ∙ digits_value-decimal own n low in omega (arith, v, low))

pub no_digits : (bs : List ℕ) (n : ℕ) → length bs ≡ 0 → n < 2 ^ 64 → bs ≡ decimal n → ⊥
no_digits bs n h low e = absurd (omega (arith, h, ap length e, decimal_nonempty n low))

pub one_zero : (bs : List ℕ) → length bs ≡ 1 → get_or bs 0 0 ≡ 48 → bs ≡ decimal 0
one_zero [] h e = absurd (omega arith)
one_zero (b ∷ []) h e = ap (λ (x : ℕ). x ∷ []) e ∙ sym (decimal_digit 0 (omega arith))
one_zero (b ∷ c ∷ bs) h e = absurd (omega arith)

pub leading_zero : (bs : List ℕ) (n : ℕ) → length bs ≢ 1 → get_or bs 0 0 ≡ 48 → n < 2 ^ 64 → bs ≡ decimal n → ⊥
leading_zero bs zero h f low e = h (ap length (e ∙ decimal_digit 0 (omega arith)))
leading_zero bs (suc n) h f low e = absurd (omega (arith, f, ap (λ (l : List ℕ). get_or l 0 0) e, first_decimal (suc n) (omega arith) low))

pub above_limit : (bs : List ℕ) (n limit : ℕ) → limit ≤ n → n < 2 ^ 64 → bs ≡ decimal n → number_of limit bs ≡ None
above_limit bs n limit h low e = number_of-none limit bs (λ m l p. absurd (omega (arith, l, h, decimal_injective m n (omega (arith, l, h, low)) low (sym p ∙ e))))

-- the parts of a text with a point
append_first : (a c b d : List ℕ) → length b ≡ length d → a ++ 46 ∷ b ≡ c ++ 46 ∷ d → (a ≡ c) × (b ≡ d)
append_first [] [] b d l e = (refl, ap (λ (x : List ℕ). drop 1 x) e)
append_first [] (y ∷ c) b d l e = absurd (omega (arith, l, ap length e, length-append c (46 ∷ d)))
append_first (x ∷ a) [] b d l e = absurd (omega (arith, l, ap length e, length-append a (46 ∷ b)))
append_first (x ∷ a) (y ∷ c) b d l e =
    let s = append_first a c b d l (ap (λ (t : List ℕ). drop 1 t) e) in
    let first : x ≡ y = ap (λ (t : List ℕ). get_or t 0 0) e in
    (ap (λ (h : ℕ). h ∷ a) first ∙ ap (λ (t : List ℕ). y ∷ t) s.0, s.1)

pub units_some : (r : Option ℕ) (bs whole rest : List ℕ) (k w : ℕ) → 0 < k → bs ≡ whole ++ 46 ∷ rest → length rest ≡ k → whole ≡ decimal w → IfSome r (λ n. AllDigits 10 rest) →
    IfSome r (λ n. n ≡ digits_value_after 10 w rest) → IfSome r (λ n. bs ≡ units_text k n)
units_some None bs whole rest k w some e l h d v = tt
units_some (Some n) bs whole rest zero w some e l h d v = absurd (omega arith)
units_some (Some n) bs whole rest (suc k) w some e l h d v =
    let r : HasDigits (suc k) n w rest = subst (λ (m : ℕ). HasDigits (suc k) m w rest) (sym v) (subst (λ (j : ℕ). HasDigits j (digits_value_after 10 w rest) w rest) l (read_digits rest w d)) in
    e ∙ ap (λ (x : List ℕ). x ++ 46 ∷ rest) (h ∙ ap decimal (sym r.whole)) ∙ ap (λ (x : List ℕ). decimal (n / 10 ^ suc k) ++ 46 ∷ x) (sym r.digits)

pub units_none : (r : Option ℕ) (bs whole rest : List ℕ) (k w : ℕ) → 0 < k → bs ≡ whole ++ 46 ∷ rest → length rest ≡ k → whole ≡ decimal w → w < 2 ^ 64 →
    IfNone r (AllDigits 10 rest → digits_value_after 10 w rest < 2 ^ 64 → ⊥) → IfNone r ((n : ℕ) → n < 2 ^ 64 → bs ≡ units_text k n → ⊥)
units_none (Some m) bs whole rest k w some e l h low none = tt
units_none None bs whole rest zero w some e l h low none = absurd (omega arith)
units_none None bs whole rest (suc k) w some e l h low none = λ n small p.
    let q = n / 10 ^ suc k in
    let s = append_first whole (decimal q) rest (fraction (suc k) n) (l ∙ sym (length-fraction (suc k) n)) (sym e ∙ p) in
    let same : w ≡ q = decimal_injective w q low (omega (arith, quotient-le n (10 ^ suc k), small)) (sym h ∙ s.0) in
    let v : digits_value_after 10 w rest ≡ n = ap (λ (x : ℕ). digits_value_after 10 x rest) same ∙ ap (digits_value_after 10 q) s.1 ∙ value-fraction (suc k) n in
    none (subst (AllDigits 10) (sym s.1) (digits_fraction (suc k) n)) (omega (arith, v, small))

pub no_whole : (bs whole rest : List ℕ) (k n : ℕ) → 0 < k → bs ≡ whole ++ 46 ∷ rest → length rest ≡ k → ((m : ℕ) → m < 2 ^ 64 → whole ≡ decimal m → ⊥) → n < 2 ^ 64 → bs ≡ units_text k n → ⊥
no_whole bs whole rest zero n some e l none low p = absurd (omega arith)
no_whole bs whole rest (suc k) n some e l none low p =
    let s = append_first whole (decimal (n / 10 ^ suc k)) rest (fraction (suc k) n) (l ∙ sym (length-fraction (suc k) n)) (sym e ∙ p) in
    none (n / 10 ^ suc k) (omega (arith, quotient-le n (10 ^ suc k), low)) s.0

pub no_point : (bs : List ℕ) (k n : ℕ) → 0 < k → ((a b : List ℕ) → bs ≡ a ++ 46 ∷ b → length b ≡ k → ⊥) → bs ≡ units_text k n → ⊥
no_point bs zero n some none p = absurd (omega arith)
no_point bs (suc k) n some none p = none (decimal (n / 10 ^ suc k)) (fraction (suc k) n) p (length-fraction (suc k) n)

-- with a sign and without
minus_by_first : (p q : Bool) (bs : List ℕ) (b : ℕ) → (p && q) ≡ true → ((q ≡ true) → b ≡ 45) → b ≡ 45
minus_by_first true true bs b h f = f refl
minus_by_first true false bs b h f = absurd (cc)
minus_by_first false q bs b h f = absurd (cc)

pub equal : (a b : ℕ) → (a == b) ≡ true → a ≡ b
equal a b h = elim (eqb_tells a b) [ inl t ↦ t.1 | inr t ↦ absurd (let f : (a == b) ≡ false = t.0 in cc) ]

minus_is : (bs : List ℕ) → has_minus bs ≡ true → bs ≡ 45 ∷ drop 1 bs
unfolding has_minus
minus_is [] h = absurd (cc)
minus_is (b ∷ bs) h = ap (λ (x : ℕ). x ∷ bs) (minus_by_first (nat_lt 0 (suc (length bs))) (b == 45) bs b h (λ e. equal b 45 e))

has_it : (rest : List ℕ) → has_minus (45 ∷ rest) ≡ true
unfolding has_minus
has_it rest = let some : nat_lt 0 (suc (length rest)) ≡ true = (Decides-ltb 0 (suc (length rest))).1 (omega arith) in rw some refl

minus_not : (bs rest : List ℕ) → has_minus bs ≡ false → bs ≡ 45 ∷ rest → ⊥
minus_not bs rest h e = let g : has_minus bs ≡ true = ap has_minus e ∙ has_it rest in absurd (cc)

minus_z : (bs : List ℕ) (k : ℕ) (z : ℤ) → has_minus bs ≡ true → fits_i64 z ≡ true → bs ≡ number_text k z → (n : ℕ) × (z ≡ negsuc n) × (drop 1 bs ≡ units_text k (suc n)) × (n < 2 ^ 63)
minus_z bs k (pos n) h f e =
    let low : n < 2 ^ 63 = (Decides-ltb _ _).0 f in
    absurd (omega (arith, ap (λ (l : List ℕ). get_or l 0 0) (minus_is bs h), ap (λ (l : List ℕ). get_or l 0 0) e, units_first k n (omega arith)))
minus_z bs k (negsuc n) h f e = (n, refl, ap (λ (l : List ℕ). drop 1 l) e, (Decides-ltb _ _).0 f)

pub minus_none : (bs : List ℕ) (k : ℕ) → has_minus bs ≡ true → ((n : ℕ) → n < 2 ^ 64 → drop 1 bs ≡ units_text k n → ⊥) → units_of k bs ≡ None
minus_none bs k h none = units_of-none k bs (λ z f e. let m = minus_z bs k z h f e in none (suc m.0) (omega (arith, m.3)) m.2)

minus_by : (b : Bool) (bs : List ℕ) (k units : ℕ) → has_minus bs ≡ true → units < 2 ^ 64 → drop 1 bs ≡ units_text k units → (nat_lt 0 units && nat_lt units (2 ^ 63 + 1)) ≡ b →
    cond b (Some (negsuc (units - 1))) None ≡ units_of k bs
minus_by true bs k units h low e t =
    let some : 0 < units = grind (arith, nat_tests, t) in
    let most : units < 2 ^ 63 + 1 = grind (arith, nat_tests, t) in
    let same : suc (units - 1) ≡ units = omega (arith, some) in
    sym (units_of-spelled k bs (negsuc (units - 1)) ((Decides-ltb _ _).1 (omega (arith, some, most))) (minus_is bs h ∙ ap (λ (l : List ℕ). 45 ∷ l) (e ∙ ap (units_text k) (sym same))))
minus_by false bs k units h low e t = sym (units_of-none k bs (λ z f p.
    let m = minus_z bs k z h f p in
    let same : suc m.0 ≡ units = units_injective k (suc m.0) units (omega (arith, m.3)) low (sym m.2 ∙ e) in
    let both : (nat_lt 0 units && nat_lt units (2 ^ 63 + 1)) ≡ true = rw ((Decides-ltb 0 units).1 (omega (arith, same)), (Decides-ltb units (2 ^ 63 + 1)).1 (omega (arith, same, m.3))) refl in
    absurd (cc)))

pub minus_some : (bs : List ℕ) (k units : ℕ) → has_minus bs ≡ true → units < 2 ^ 64 → drop 1 bs ≡ units_text k units → below_zero units ≡ units_of k bs
minus_some bs k units h low e = minus_by (nat_lt 0 units && nat_lt units (2 ^ 63 + 1)) bs k units h low e refl

plain_z : (bs : List ℕ) (k : ℕ) (z : ℤ) → has_minus bs ≡ false → fits_i64 z ≡ true → bs ≡ number_text k z → (n : ℕ) × (z ≡ pos n) × (bs ≡ units_text k n) × (n < 2 ^ 63)
plain_z bs k (pos n) h f e = (n, refl, e, (Decides-ltb _ _).0 f)
plain_z bs k (negsuc n) h f e = absurd (minus_not bs (units_text k (suc n)) h e)

pub plain_none : (bs : List ℕ) (k : ℕ) → has_minus bs ≡ false → ((n : ℕ) → n < 2 ^ 64 → bs ≡ units_text k n → ⊥) → units_of k bs ≡ None
plain_none bs k h none = units_of-none k bs (λ z f e. let m = plain_z bs k z h f e in none m.0 (omega (arith, m.3)) m.2)

plain_by : (b : Bool) (bs : List ℕ) (k units : ℕ) → has_minus bs ≡ false → units < 2 ^ 64 → bs ≡ units_text k units → nat_lt units (2 ^ 63) ≡ b → cond b (Some (pos units)) None ≡ units_of k bs
plain_by true bs k units h low e t = sym (units_of-spelled k bs (pos units) t e)
plain_by false bs k units h low e t = sym (units_of-none k bs (λ z f p.
    let m = plain_z bs k z h f p in
    let same : m.0 ≡ units = units_injective k m.0 units (omega (arith, m.3)) low (sym m.2 ∙ e) in
    let small : nat_lt units (2 ^ 63) ≡ true = (Decides-ltb units (2 ^ 63)).1 (omega (arith, same, m.3)) in
    absurd (cc)))

pub plain_some : (bs : List ℕ) (k units : ℕ) → has_minus bs ≡ false → units < 2 ^ 64 → bs ≡ units_text k units → above_zero units ≡ units_of k bs
plain_some bs k units h low e = plain_by (nat_lt units (2 ^ 63)) bs k units h low e refl

take_whole : (xs : List ℕ) → take (length xs) xs ≡ xs
take_whole [] = refl
take_whole (x ∷ xs) = ap (λ (l : List ℕ). x ∷ l) (take_whole xs)

pub rest_all : (xs : List ℕ) (i : ℕ) → take (length xs - i) (drop i xs) ≡ drop i xs
rest_all xs i = ap (λ (n : ℕ). take n (drop i xs)) (sym (length-drop i xs)) ∙ take_whole (drop i xs)
