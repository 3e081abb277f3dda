-- The number that a text spells.
use Rattle.std.proofs.Common.{◌≡◌, ◌≤◌, ◌<◌, ◌^◌, ℕ, List, Bool, true, false, cond, Some, None, refl, sym, ◌∙◌, ap, arith}
use Rattle.std.proofs.lemmas.Bool.Decides.{nat_tests, Decides-ltb}
use Rattle.std.proofs.lemmas.Slice.Eq.{slice_eq-Decides}
use Rattle.std.proofs.lemmas.Fmt.{decimal_is_IsNumeral}
use Rattle.std.specs.Bool.{Decides}
use Rattle.std.specs.Prelude.{Option, IfSome, IfNone, decimal, nat_lt, nat_eq, ◌&&◌}
use Rattle.std.specs.Str.Parse.{digits_value}
use Rattle.row_reader.specs.Number.{number_of, same_text}

pub nat_eq-Decides : (a b : ℕ) → Decides (nat_eq a b) (a ≡ b)
nat_eq-Decides a b = grind (arith, nat_tests)

pub same_text-Decides : (a b : List ℕ) → Decides (same_text a b) (a ≡ b)
same_text-Decides a b = slice_eq-Decides nat_eq-Decides a b (same_text a b) refl

pub number_of-spelled : (limit : ℕ) (n : ℕ) (bs : List ℕ) → n < limit → limit ≤ 2 ^ 64 → bs ≡ decimal n → number_of limit bs ≡ Some n
unfolding number_of
number_of-spelled limit n bs below small e =
    let value : digits_value 10 bs ≡ n = ap (digits_value 10) e ∙ (decimal_is_IsNumeral n (omega arith)).1 in
    let same : same_text (decimal n) bs ≡ true = (same_text-Decides (decimal n) bs).1 (sym e) in
    let low : nat_lt n limit ≡ true = (Decides-ltb n limit).1 below in
    rw (value, low, same) refl

-- whatever passes both tests is so spelled
passes : (p q : Bool) (n : ℕ) → ((p ≡ true) → (q ≡ true) → ⊥) → cond (p && q) (Some n) None ≡ None
passes true true n h = absurd (h refl refl)
passes true false n h = refl
passes false q n h = refl

pub number_of-none : (limit : ℕ) (bs : List ℕ) → ((n : ℕ) → n < limit → bs ≡ decimal n → ⊥) → number_of limit bs ≡ None
unfolding number_of
number_of-none limit bs none = passes (nat_lt (digits_value 10 bs) limit) (same_text (decimal (digits_value 10 bs)) bs) (digits_value 10 bs)
    (λ p q. none (digits_value 10 bs) ((Decides-ltb _ _).0 p) (sym ((same_text-Decides _ bs).0 q)))

passed : (p q : Bool) (n m : ℕ) → cond (p && q) (Some n) None ≡ Some m → (p ≡ true) × (q ≡ true) × (n ≡ m)
passed true true n m e = (refl, refl, cc)
passed true false n m e = absurd (cc)
passed false q n m e = absurd (cc)

pub number_of-is : (limit : ℕ) (bs : List ℕ) (n : ℕ) → number_of limit bs ≡ Some n → (n < limit) × (bs ≡ decimal n)
unfolding number_of
number_of-is limit bs n e =
    let p = passed (nat_lt (digits_value 10 bs) limit) (same_text (decimal (digits_value 10 bs)) bs) (digits_value 10 bs) n e in
    let below : digits_value 10 bs < limit = (Decides-ltb _ _).0 p.0 in
    (omega (arith, p.2, below), sym ((same_text-Decides _ bs).0 p.1) ∙ ap decimal p.2)

-- a number of 64 bits
pub number_of-whole : (r : Option ℕ) (bs : List ℕ) → IfSome r (λ n. bs ≡ decimal n) → IfSome r (λ n. n < 2 ^ 64) → IfNone r ((n : ℕ) → n < 2 ^ 64 → bs ≡ decimal n → ⊥) → r ≡ number_of (2 ^ 64) bs
number_of-whole None bs is small none = sym (number_of-none (2 ^ 64) bs none)
number_of-whole (Some n) bs is small none = sym (number_of-spelled (2 ^ 64) n bs small (omega arith) is)
