-- What is read of a line has no byte that the line has not.
use Rattle.std.proofs.Common.{◌≡◌, ◌<◌, ◌+◌, ℕ, zero, suc, ◌-◌, List, [], ◌∷◌, length, take, drop, get_or, Bool, true, false, cond, refl, sym, subst, arith}
use Rattle.std.specs.Prelude.{◌≢◌, ◌&&◌, ◌||◌, nat_lt, ◌==◌}
use Rattle.std.specs.List.{All}
use Rattle.std.proofs.lemmas.List.Elements.{All-take, All-drop}
use Rattle.row_reader.specs.Line.{stripped, has_mark, text_of, AreSimple}

by_stripped : (t : Bool) (k : ℕ) (xs : List ℕ) → All (λ x. x ≢ k) xs → All (λ x. x ≢ k) (cond t (take (length xs - 1) xs) xs)
by_stripped true k xs h = All-take (λ x. x ≢ k) (length xs - 1) xs h
by_stripped false k xs h = h

without_stripped : (k : ℕ) (xs : List ℕ) → All (λ x. x ≢ k) xs → All (λ x. x ≢ k) (stripped xs)
unfolding stripped
without_stripped k xs h = by_stripped (nat_lt 0 (length xs) && (get_or xs (length xs - 1) 0 == 13)) k xs h

by_mark : (t : Bool) (k : ℕ) (xs : List ℕ) → All (λ x. x ≢ k) xs → All (λ x. x ≢ k) (cond t (drop 3 xs) xs)
by_mark true k xs h = All-drop (λ x. x ≢ k) 3 xs h
by_mark false k xs h = h

pub without_text_of : (k : ℕ) (first : Bool) (xs : List ℕ) → All (λ x. x ≢ k) xs → All (λ x. x ≢ k) (text_of first xs)
unfolding text_of
without_text_of k first xs h = by_mark (first && has_mark (stripped xs)) k (stripped xs) (without_stripped k xs h)

-- what simple bytes are
pub simple_ascii : (xs : List ℕ) → AreSimple xs → (n : ℕ) → get_or xs n 0 < 128
simple_ascii [] h n = omega arith
simple_ascii (x ∷ xs) h zero = h.0
simple_ascii (x ∷ xs) h (suc n) = simple_ascii xs h.3 n

pub simple_no_return : (xs : List ℕ) → AreSimple xs → (n d : ℕ) → n < length xs → get_or xs n d ≢ 13
simple_no_return [] h n d low = absurd (omega arith)
simple_no_return (x ∷ xs) h zero d low = h.1
simple_no_return (x ∷ xs) h (suc n) d low = simple_no_return xs h.3 n d (omega arith)

pub simple_no_quote : (xs : List ℕ) → AreSimple xs → (n d : ℕ) → n < length xs → get_or xs n d ≢ 34
simple_no_quote [] h n d low = absurd (omega arith)
simple_no_quote (x ∷ xs) h zero d low = h.2
simple_no_quote (x ∷ xs) h (suc n) d low = simple_no_quote xs h.3 n d (omega arith)

-- one byte more from behind is simple
pub drop_at : (xs : List ℕ) (i : ℕ) → i < length xs → drop i xs ≡ get_or xs i 0 ∷ drop (i + 1) xs
drop_at [] i h = absurd (omega arith)
drop_at (x ∷ xs) zero h = refl
drop_at (x ∷ xs) (suc i) h = let z : suc i + 1 ≡ suc (i + 1) = omega arith in rw z (drop_at xs i (omega arith))

pub simple_from : (xs : List ℕ) (i : ℕ) → i < length xs → (get_or xs i 0 < 128) × (get_or xs i 0 ≢ 13) × (get_or xs i 0 ≢ 34) → AreSimple (drop (i + 1) xs) → AreSimple (drop i xs)
simple_from xs i low h more = subst AreSimple (sym (drop_at xs i low)) (h.0, h.1, h.2, more)

pub both_false : (a b : Bool) → (a || b) ≡ false → (a ≡ false) × (b ≡ false)
both_false true b e = absurd (cc)
both_false false b e = (refl, e)

-- what is left of simple bytes behind a first part is simple
pub simple_behind : (n : ℕ) (xs : List ℕ) → AreSimple xs → AreSimple (drop n xs)
simple_behind zero xs h = h
simple_behind (suc n) [] h = h
simple_behind (suc n) (x ∷ xs) h = simple_behind n xs h.3

-- simple bytes behind a simple first part are simple together
pub simple_parts : (n : ℕ) (xs : List ℕ) → AreSimple (take n xs) → AreSimple (drop n xs) → AreSimple xs
simple_parts zero xs first more = more
simple_parts (suc n) [] first more = more
simple_parts (suc n) (x ∷ xs) first more = (first.0, first.1, first.2, simple_parts n xs first.3 more)
