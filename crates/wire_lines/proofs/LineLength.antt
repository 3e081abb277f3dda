-- The length of the first line.
use Rattle.std.proofs.Common.{◌≡◌, ◌≤◌, ◌<◌, ◌==◌, ◌∙◌, ℕ, zero, suc, Bool, true, false, List, [], ◌∷◌, length, refl, ap, arith, if◌then◌else◌}
use Rattle.memchr.specs.Find.{Nowhere, Passes, is_byte}
use Rattle.wire_lines.specs.Lines.{line_len}

pub line_len-le : (xs : List ℕ) → line_len xs ≤ length xs
line_len-le [] = omega arith
line_len-le (x ∷ xs) = grind (arith, line_len-le xs)

first : (b : Bool) (n : ℕ) → b ≡ true → (if b then 0 else suc n) ≡ 0
first true n e = refl
first false n e = cc

later : (b : Bool) (n : ℕ) → (b ≡ true → ⊥) → (if b then 0 else suc n) ≡ suc n
later true n h = absurd (h refl)
later false n h = refl

-- where an LF is found
pub line_len-found : (xs : List ℕ) (k : ℕ) → k < length xs → Nowhere (Passes (is_byte 10) xs) 0 k → Passes (is_byte 10) xs k → line_len xs ≡ k
line_len-found [] k h before at = absurd (omega arith)
line_len-found (x ∷ xs) zero h before at = first (x == 10) (line_len xs) at
line_len-found (x ∷ xs) (suc k) h before at =
    later (x == 10) (line_len xs) (before 0 (omega arith) (omega arith))
    ∙ ap suc (line_len-found xs k (omega arith) (λ i low high. before (suc i) (omega arith) (omega arith)) at)

-- where there is none
pub line_len-all : (xs : List ℕ) → Nowhere (Passes (is_byte 10) xs) 0 (length xs) → line_len xs ≡ length xs
line_len-all [] none = refl
line_len-all (x ∷ xs) none =
    later (x == 10) (line_len xs) (none 0 (omega arith) (omega arith))
    ∙ ap suc (line_len-all xs (λ i low high. none (suc i) (omega arith) (omega arith)))
