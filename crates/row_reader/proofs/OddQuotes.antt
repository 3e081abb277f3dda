-- Whether quotes are odd, byte by byte.
use Rattle.std.proofs.Common.{◌≡◌, ◌<◌, ℕ, zero, suc, ◌+◌, List, [], ◌∷◌, length, drop, get_or, true, Option, Some, None, refl, sym, ◌∙◌, ap, arith}
use Rattle.row_reader.specs.Quotes.{odd_from, next_place, then_next, is_odd_end}
use Rattle.row_reader.specs.declared.quotes.Place.{Place}

pub odd_from-past : (xs : List ℕ) (i : ℕ) (p : Option Place) (b : ℕ) → i < length xs → get_or xs i 0 ≡ b → odd_from p (drop i xs) ≡ odd_from (then_next p b) (drop (suc i) xs)
unfolding odd_from
odd_from-past [] i p b h e = absurd (omega arith)
odd_from-past (x ∷ xs) zero p b h e = ap (λ y. odd_from (then_next p y) xs) e
odd_from-past (x ∷ xs) (suc i) p b h e = odd_from-past xs i p b (omega arith) e

pub odd_from-none : (xs : List ℕ) → odd_from None xs ≡ true
unfolding odd_from
odd_from-none [] = refl
odd_from-none (x ∷ xs) = odd_from-none xs

pub odd_from-end : (xs : List ℕ) (i : ℕ) (p : Option Place) → i ≡ length xs → odd_from p (drop i xs) ≡ is_odd_end p
unfolding odd_from
odd_from-end [] i p e = rw e refl
odd_from-end (x ∷ xs) zero p e = absurd (omega arith)
odd_from-end (x ∷ xs) (suc i) p e = odd_from-end xs i p (omega arith)

pub odd_from-bad : (xs : List ℕ) (i : ℕ) (p : Place) (b : ℕ) → i < length xs → get_or xs i 0 ≡ b → None ≡ next_place p b → odd_from (Some p) (drop i xs) ≡ true
odd_from-bad xs i p b h e n = odd_from-past xs i (Some p) b h e ∙ ap (λ q. odd_from q (drop (suc i) xs)) (sym n) ∙ odd_from-none (drop (suc i) xs)

pub odd_from-good : (xs : List ℕ) (i : ℕ) (p q : Place) (b : ℕ) → i < length xs → get_or xs i 0 ≡ b → Some q ≡ next_place p b → odd_from (Some p) (drop i xs) ≡ odd_from (Some q) (drop (i + 1) xs)
odd_from-good xs i p q b h e n = let z : suc i ≡ i + 1 = omega arith in
    odd_from-past xs i (Some p) b h e ∙ ap (λ o. odd_from o (drop (suc i) xs)) (sym n) ∙ ap (λ k. odd_from (Some q) (drop k xs)) z

pub ruleset quote_steps = (odd_from-past, odd_from-none, odd_from-end)
