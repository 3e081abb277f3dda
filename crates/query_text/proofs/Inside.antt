-- What stands between quotes.
use Rattle.std.proofs.Common.{◌≡◌, ℕ, zero, suc, ◌+◌, ◌<◌, ◌≤◌, Bool, true, false, ◌||◌, ◌&&◌, if◌then◌else◌, List, [], ◌∷◌, ◌++◌, length, take, get_or, refl, ap, ◌∙◌, arith}
use Rattle.std.proofs.lemmas.Bool.{eqb-true, and_parts}
use Rattle.std.proofs.lemmas.Bool.Decides.{nat_tests}
use Rattle.std.specs.Bool.{◌==◌}
use Rattle.query_text.specs.Words.{quoted_rest, after_one}
use Rattle.query_text.specs.Spots.{is_inside, is_plain}

-- behind the opening quote: n bytes with the closing quote, or n bytes without one
abbrev pub Rests : List ℕ → Bool → ℕ → Type 0
Rests bs true zero = ⊥
Rests bs true (suc k) = (k < length bs) × (get_or bs k 0 ≡ 39) × (is_inside (take k bs) ≡ true)
Rests bs false n = (n ≤ length bs) × (is_inside (take n bs) ≡ true)

abbrev pub Behind : List ℕ → Bool × ℕ → Type 0
Behind bs r = Rests bs r.0 r.1

plain_more : (b : ℕ) (bs : List ℕ) → (b == 39) ≡ false → (b == 10 || b == 13) ≡ false → is_inside bs ≡ true → is_inside (b ∷ bs) ≡ true
unfolding is_inside
plain_more b [] f g h = rw (f, g) refl
plain_more b (c ∷ bs) f g h = rw (f, g) h

one_more : (b : ℕ) (bs : List ℕ) (x : Bool) (n : ℕ) → (b == 39) ≡ false → (b == 10 || b == 13) ≡ false → Rests bs x n → Rests (b ∷ bs) x (suc n)
one_more b bs true zero f g h = absurd h
one_more b bs true (suc k) f g h = (omega (arith, h.0), h.1, plain_more b (take k bs) f g h.2)
one_more b bs false n f g h = (omega (arith, h.0), plain_more b (take n bs) f g h.1)

two_more : (b c : ℕ) (bs : List ℕ) (x : Bool) (n : ℕ) → (b == 39) ≡ true → (c == 39) ≡ true → Rests bs x n → Rests (b ∷ c ∷ bs) x (suc (suc n))
unfolding is_inside
two_more b c bs true zero f g h = absurd h
two_more b c bs true (suc k) f g h = (omega (arith, h.0), h.1, rw (f, g) h.2)
two_more b c bs false n f g h = (omega (arith, h.0), rw (f, g) h.1)

-- what was found behind an opening quote
pub rests : (bs : List ℕ) → Behind bs (quoted_rest bs)
unfolding quoted_rest is_inside
rests [] = (omega arith, refl)
rests (b ∷ []) = one (b == 39) (b == 10 || b == 13) refl refl
  where
    one : (x y : Bool) → (b == 39) ≡ x → (b == 10 || b == 13) ≡ y → Behind (b ∷ []) (if x then (true, 1) else if y then (false, 0) else (false, 1))
    one true y f g = (omega arith, eqb-true b 39 f, refl)
    one false true f g = (omega arith, refl)
    one false false f g = (omega arith, plain_more b [] f g refl)
rests (b ∷ c ∷ bs) = two (b == 39) (c == 39) (b == 10 || b == 13) refl refl refl (rests bs) (rests (c ∷ bs))
  where
    two : (x y z : Bool) → (b == 39) ≡ x → (c == 39) ≡ y → (b == 10 || b == 13) ≡ z → Behind bs (quoted_rest bs) → Behind (c ∷ bs) (quoted_rest (c ∷ bs))
        → Behind (b ∷ c ∷ bs) (if x then (if y then after_one (after_one (quoted_rest bs)) else (true, 1)) else if z then (false, 0) else after_one (quoted_rest (c ∷ bs)))
    two true true z f g l h k = two_more b c bs _ _ f g h
    two true false z f g l h k = (omega arith, eqb-true b 39 f, refl)
    two false y true f g l h k = (omega arith, refl)
    two false y false f g l h k = one_more b (c ∷ bs) _ _ f l k

-- what was found lies within the bytes
pub rest_fits : (bs : List ℕ) → (quoted_rest bs).1 ≤ length bs
rest_fits bs = here (quoted_rest bs).0 (quoted_rest bs).1 (rests bs)
  where
    here : (x : Bool) (n : ℕ) → Rests bs x n → n ≤ length bs
    here true zero h = absurd h
    here true (suc k) h = omega (arith, h.0)
    here false n h = h.0

pub other_rest : (b : ℕ) (bs : List ℕ) → (b == 39) ≡ false → (b == 10 || b == 13) ≡ false → quoted_rest (b ∷ bs) ≡ after_one (quoted_rest bs)
unfolding quoted_rest
other_rest b [] f g = rw (f, g) refl
other_rest b (c ∷ bs) f g = rw (f, g) refl

pub pair_rest : (b c : ℕ) (bs : List ℕ) → (b == 39) ≡ true → (c == 39) ≡ true → quoted_rest (b ∷ c ∷ bs) ≡ after_one (after_one (quoted_rest bs))
unfolding quoted_rest
pair_rest b c bs e f = rw (e, f) refl

plain_parts : (b : ℕ) → is_plain b ≡ true → ((b == 39) ≡ false) × ((b == 10 || b == 13) ≡ false)
plain_parts b h = (grind (arith, nat_tests), grind (arith, nat_tests))

pair_is : (r : Bool × ℕ) (n : ℕ) → r.1 ≡ n → r ≡ (r.0, n)
pair_is (x, m) n e = ap (λ k. (x, k)) e

plain_on : (b : ℕ) (bs : List ℕ) (x : Bool) (n m : ℕ) → is_plain b ≡ true → quoted_rest bs ≡ (x, n) → suc n ≡ m → quoted_rest (b ∷ bs) ≡ (x, m)
plain_on b bs x n m h e f = let q = plain_parts b h in other_rest b bs q.0 q.1 ∙ ap after_one e ∙ ap (λ k. (x, k)) f

-- behind bytes that may stand between quotes goes on what is found behind them
pub inside_rest : (inner t : List ℕ) → is_inside inner ≡ true → quoted_rest (inner ++ t) ≡ ((quoted_rest t).0, length inner + (quoted_rest t).1)
unfolding is_inside
inside_rest [] t h = pair_is (quoted_rest t) (0 + (quoted_rest t).1) (omega arith)
inside_rest (b ∷ []) t h = plain_on b t (quoted_rest t).0 (quoted_rest t).1 (1 + (quoted_rest t).1) h (pair_is (quoted_rest t) (quoted_rest t).1 refl) (omega arith)
inside_rest (b ∷ c ∷ inner) t h = here (b == 39) refl h (inside_rest inner t) (inside_rest (c ∷ inner) t)
  where
    here : (x : Bool) → (b == 39) ≡ x → (if x then c == 39 && is_inside inner else is_plain b && is_inside (c ∷ inner)) ≡ true
        → (is_inside inner ≡ true → quoted_rest (inner ++ t) ≡ ((quoted_rest t).0, length inner + (quoted_rest t).1))
        → (is_inside (c ∷ inner) ≡ true → quoted_rest (c ∷ inner ++ t) ≡ ((quoted_rest t).0, suc (length inner) + (quoted_rest t).1))
        → quoted_rest (b ∷ c ∷ inner ++ t) ≡ ((quoted_rest t).0, suc (suc (length inner)) + (quoted_rest t).1)
    here true e h k l =
        let q = and_parts (c == 39) (is_inside inner) h in
        let f : suc (suc (length inner + (quoted_rest t).1)) ≡ suc (suc (length inner)) + (quoted_rest t).1 = omega arith in
        pair_rest b c (inner ++ t) e q.0 ∙ ap (λ r. after_one (after_one r)) (k q.1) ∙ ap (λ n. ((quoted_rest t).0, n)) f
    here false e h k l =
        let q = and_parts (is_plain b) (is_inside (c ∷ inner)) h in
        let f : suc (suc (length inner) + (quoted_rest t).1) ≡ suc (suc (length inner)) + (quoted_rest t).1 = omega arith in
        plain_on b (c ∷ inner ++ t) (quoted_rest t).0 (suc (length inner) + (quoted_rest t).1) (suc (suc (length inner)) + (quoted_rest t).1) q.0 (l q.1) f

abbrev Long : Bool × ℕ → Type 0
Long r = 1 ≤ r.1

-- a closing quote stands first
pub quote_first : (t : List ℕ) → Long (quoted_rest (39 ∷ t))
unfolding quoted_rest
quote_first [] = omega arith
quote_first (c ∷ t) = here (c == 39)
  where
    here : (x : Bool) → Long (if x then after_one (after_one (quoted_rest t)) else (true, 1))
    here true = omega arith
    here false = omega arith
