-- What is known where a cutter has answered.
use Rattle.std.proofs.Common.{◌≡◌, ◌≤◌, ◌<◌, ℕ, ◌+◌, ◌-◌, min, List, length, take, drop, Bool, true, false, cond, refl, arith, ltb}
use Rattle.std.proofs.lemmas.Bool.Decides.{nat_tests, Decides-ltb}
use Rattle.wire_lines.specs.Lines.{line_len}
use Rattle.wire_lines.specs.Cutter.{CutterState, Given, Overlong, Overfull, Wanting}
use Rattle.wire_lines.specs.Next.{next_of, next, after_found, after_next}
use Rattle.wire_lines.specs.declared.cutter.Found.{Found}
use Rattle.wire_lines.specs.declared.cutter.Found.TheVariants.{TooLong, Line, TooMany, More}

abbrev by_tests : Bool → Bool → Bool → ℕ → Found
by_tests t1 t2 t3 n = cond t1 TooLong (cond t2 (Line n) (cond t3 TooMany More))

not_less : (a b : ℕ) → ltb a b ≡ false → b ≤ a
not_less a b h = grind (arith, nat_tests)

-- a line was given
pub record IsGiven (s : CutterState) (number : ℕ) (bytes : List ℕ) : Type 0 where
  pub number_is : number ≡ s.number + 1
  pub bytes_is : bytes ≡ take (line_len s.rest) s.rest
  pub not_long : min (s.total - s.passed) (line_len s.rest) ≤ s.longest
  pub within : line_len s.rest < length s.rest
  pub room : line_len s.rest < s.total - s.passed
  pub after : after_next s ≡ record s { passed = s.passed + (line_len s.rest + 1); number = s.number + 1; rest = drop (line_len s.rest + 1) s.rest; wants_bytes = false }

given_by : (t1 t2 t3 : Bool) (s : CutterState) (n number : ℕ) (bytes : List ℕ) → Given number bytes ≡ next_of s (by_tests t1 t2 t3 n) → (t1 ≡ false) × (t2 ≡ true) × (number ≡ s.number + 1) × (bytes ≡ take n s.rest) × (after_found s (by_tests t1 t2 t3 n) ≡ after_found s (Line n))
given_by true t2 t3 s n number bytes h = absurd (cc)
given_by false true t3 s n number bytes h = (refl, refl, cc, cc, refl)
given_by false false true s n number bytes h = absurd (cc)
given_by false false false s n number bytes h = absurd (cc)

-- so it is where the answer is a line
pub given : (s : CutterState) (number : ℕ) (bytes : List ℕ) → Given number bytes ≡ next s → IsGiven s number bytes
given s number bytes h =
    let g = given_by (ltb s.longest (min (s.total - s.passed) (line_len s.rest))) (ltb (line_len s.rest) (min (s.total - s.passed) (length s.rest))) (ltb (s.total - s.passed) (length s.rest)) s (line_len s.rest) number bytes h in
    let low : line_len s.rest < min (s.total - s.passed) (length s.rest) = (Decides-ltb _ _).0 g.1 in
    record { number_is = g.2; bytes_is = g.3; not_long = not_less _ _ g.0; within = omega arith; room = omega arith; after = g.4 }

-- the next line is too long
pub record IsOverlong (s : CutterState) (number : ℕ) : Type 0 where
  pub number_is : number ≡ s.number + 1
  pub long : s.longest < min (s.total - s.passed) (line_len s.rest)
  pub after : after_next s ≡ record s { wants_bytes = false }

overlong_by : (t1 t2 t3 : Bool) (s : CutterState) (n number : ℕ) → Overlong number ≡ next_of s (by_tests t1 t2 t3 n) → (t1 ≡ true) × (number ≡ s.number + 1) × (after_found s (by_tests t1 t2 t3 n) ≡ after_found s TooLong)
overlong_by true t2 t3 s n number h = (refl, cc, refl)
overlong_by false true t3 s n number h = absurd (cc)
overlong_by false false true s n number h = absurd (cc)
overlong_by false false false s n number h = absurd (cc)

-- so it is where the answer is a line that is too long
pub overlong : (s : CutterState) (number : ℕ) → Overlong number ≡ next s → IsOverlong s number
overlong s number h =
    let g = overlong_by (ltb s.longest (min (s.total - s.passed) (line_len s.rest))) (ltb (line_len s.rest) (min (s.total - s.passed) (length s.rest))) (ltb (s.total - s.passed) (length s.rest)) s (line_len s.rest) number h in
    record { number_is = g.1; long = (Decides-ltb _ _).0 g.0; after = g.2 }

-- more bytes were fed than the input may have
pub record IsOverfull (s : CutterState) : Type 0 where
  pub not_long : s.total - s.passed ≤ s.longest
  pub no_line : s.total - s.passed ≤ line_len s.rest
  pub full : s.total - s.passed < length s.rest
  pub after : after_next s ≡ record s { wants_bytes = false }

overfull_by : (t1 t2 t3 : Bool) (s : CutterState) (n : ℕ) → Overfull ≡ next_of s (by_tests t1 t2 t3 n) → (t1 ≡ false) × (t2 ≡ false) × (t3 ≡ true) × (after_found s (by_tests t1 t2 t3 n) ≡ after_found s TooMany)
overfull_by true t2 t3 s n h = absurd (cc)
overfull_by false true t3 s n h = absurd (cc)
overfull_by false false true s n h = (refl, refl, refl, refl)
overfull_by false false false s n h = absurd (cc)

-- so it is where the answer is too many bytes
pub overfull : (s : CutterState) → Overfull ≡ next s → IsOverfull s
overfull s h =
    let g = overfull_by (ltb s.longest (min (s.total - s.passed) (line_len s.rest))) (ltb (line_len s.rest) (min (s.total - s.passed) (length s.rest))) (ltb (s.total - s.passed) (length s.rest)) s (line_len s.rest) h in
    let a : min (s.total - s.passed) (line_len s.rest) ≤ s.longest = not_less _ _ g.0 in
    let b : min (s.total - s.passed) (length s.rest) ≤ line_len s.rest = not_less _ _ g.1 in
    let c : s.total - s.passed < length s.rest = (Decides-ltb _ _).0 g.2 in
    record { not_long = omega arith; no_line = omega arith; full = c; after = g.3 }

-- more bytes are asked for
pub record IsWanting (s : CutterState) : Type 0 where
  pub no_line : length s.rest ≤ line_len s.rest
  pub short : min (s.total - s.passed) (line_len s.rest) ≤ s.longest
  pub room : length s.rest ≤ s.total - s.passed
  pub after : after_next s ≡ record s { wants_bytes = true }

wanting_by : (t1 t2 t3 : Bool) (s : CutterState) (n : ℕ) → Wanting ≡ next_of s (by_tests t1 t2 t3 n) → (t1 ≡ false) × (t2 ≡ false) × (t3 ≡ false) × (after_found s (by_tests t1 t2 t3 n) ≡ after_found s More)
wanting_by true t2 t3 s n h = absurd (cc)
wanting_by false true t3 s n h = absurd (cc)
wanting_by false false true s n h = absurd (cc)
wanting_by false false false s n h = (refl, refl, refl, refl)

-- so it is where the answer is a wish for more bytes
pub wanting : (s : CutterState) → Wanting ≡ next s → IsWanting s
wanting s h =
    let g = wanting_by (ltb s.longest (min (s.total - s.passed) (line_len s.rest))) (ltb (line_len s.rest) (min (s.total - s.passed) (length s.rest))) (ltb (s.total - s.passed) (length s.rest)) s (line_len s.rest) h in
    let a : min (s.total - s.passed) (line_len s.rest) ≤ s.longest = not_less _ _ g.0 in
    let b : min (s.total - s.passed) (length s.rest) ≤ line_len s.rest = not_less _ _ g.1 in
    let c : length s.rest ≤ s.total - s.passed = not_less _ _ g.2 in
    record { no_line = omega arith; short = a; room = c; after = g.3 }
