-- Numbers of digits.
use Rattle.std.proofs.Common.{◌≡◌, if◌then◌else◌, Option, Some, ℕ, ◌+◌, ◌-◌, ◌*◌, ◌<◌, ◌≤◌, zero, suc, Bool, take, drop, List, [], ◌∷◌, None, length, get_or, arith, ap, sym, ◌∙◌, refl, true, false, nat_le, ◌&&◌}
use Rattle.std.proofs.lemmas.Bool.{lt-leb}
use Rattle.std.proofs.lemmas.Bool.Decides.{nat_tests}
use Rattle.query_text.specs.declared.word.Word.{Word}
use Rattle.query_text.specs.declared.word.Word.TheVariants as W
use Rattle.query_text.specs.Words.{decimal_from, within_greatest, number_length, fraction_length, numeric_of, numeric_front, decimal_word}

-- more digits make no smaller number
pub decimal_grows : (n : ℕ) (ds : List ℕ) → n ≤ decimal_from n ds
decimal_grows n [] = omega arith
decimal_grows n (d ∷ ds) = let h = decimal_grows (n * 10 + (d - 48)) ds in omega arith

past : (n : ℕ) → 9223372036854775807 < n → None ≡ within_greatest n
past n h = rw (lt-leb n 9223372036854775807 h) refl

-- a number that has come past the greatest stays past it
pub past_greatest : (n d : ℕ) (ds : List ℕ) (all : ℕ) → 0 < length ds → decimal_from n ds ≡ all → 9223372036854775807 < n * 10 + (get_or ds 0 d - 48) → None ≡ within_greatest all
past_greatest n d [] all l e h = absurd (omega arith)
past_greatest n d (b ∷ ds) all l e h = let g = decimal_grows (n * 10 + (b - 48)) ds in past all (omega arith)

never : (x : Bool) (w : Word) → (if x && false then w else W.Bad) ≡ W.Bad
never true w = refl
never false w = refl

-- so many units are too many
pub past_units : (ds fs : List ℕ) → 9223372036854775807 < decimal_from (decimal_from 0 ds) fs → decimal_word ds fs ≡ W.Bad
past_units ds fs h =
    let t : nat_le (decimal_from (decimal_from 0 ds) fs) 9223372036854775807 ≡ false = lt-leb (decimal_from (decimal_from 0 ds) fs) 9223372036854775807 h in
    rw t (never (nat_le (length fs) 18) _)

-- so are the units of the whole part
pub past_whole : (ds fs : List ℕ) (r : Option ℕ) → r ≡ within_greatest (decimal_from 0 ds) → r ≡ None → W.Bad ≡ decimal_word ds fs
past_whole ds fs r e f = here (nat_le (decimal_from 0 ds) 9223372036854775807) refl (sym e ∙ f)
  where
    here : (x : Bool) → nat_le (decimal_from 0 ds) 9223372036854775807 ≡ x → (if x then Some (decimal_from 0 ds) else None) ≡ None → W.Bad ≡ decimal_word ds fs
    here true g h = cc
    here false g h =
        let l = decimal_grows (decimal_from 0 ds) fs in
        let m : 9223372036854775807 < decimal_from 0 ds = grind (arith, nat_tests) in
        sym (past_units ds fs (omega arith))

-- the decimal that stands first
pub decimal_first : (bs : List ℕ) (n f : ℕ) (w : Word) → n ≡ number_length bs → f ≡ fraction_length (drop n bs) → (f ≡ 0 → ⊥) → w ≡ decimal_word (take n bs) (take (n + 1 + f - (n + 1)) (drop (n + 1) bs)) → (w, n + 1 + f) ≡ numeric_front bs
decimal_first bs n f w e g h v =
    let m : n + 1 + f - (n + 1) ≡ f = omega arith in
    ap (λ x. (x, n + 1 + f)) (v ∙ ap (λ k. decimal_word (take n bs) (take k (drop (n + 1) bs))) m) ∙ here f g h ∙ ap (λ k. numeric_of k (fraction_length (drop k bs)) bs) e
  where
    here : (k : ℕ) → k ≡ fraction_length (drop n bs) → (k ≡ 0 → ⊥) → (decimal_word (take n bs) (take k (drop (n + 1) bs)), n + 1 + k) ≡ numeric_of n (fraction_length (drop n bs)) bs
    here zero g h = absurd (h refl)
    here (suc k) g h =
        let p : n + 1 ≡ suc n = omega arith in
        let q : n + 1 + suc k ≡ suc n + suc k = omega arith in
        ap (λ i. (decimal_word (take n bs) (take (suc k) (drop i bs)), n + 1 + suc k)) p ∙ ap (λ i. (decimal_word (take n bs) (take (suc k) (drop (suc n) bs)), i)) q ∙ ap (λ i. numeric_of n i bs) g
