-- Reciprocals of divisors. Callers read nothing of this: only the field of `Divisor` and its private calls cite it.
use Rattle.std.specs.Prelude.{ℤ, pos, negsuc, ℕ, ◌+◌, ◌*◌, ◌^◌, ◌<◌, ◌≤◌}

-- factor / 2 ^ (63 + shift) is the reciprocal of `by`, rounded up by so little that no quotient of a number below 2 ^ 63 is off.
-- The divisor 3 has the shift 2 and the factor 2 ^ 65 / 3, rounded up
pub record IsReciprocal (by factor shift : ℕ) : Type 0 where
  pub above : 1 ≤ by
  pub below : by < 2 ^ 63
  pub small : shift < 64
  pub high : 2 ^ 63 * 2 ^ shift ≤ factor * by
  pub low : factor * by < 2 ^ 63 * 2 ^ shift + 2 ^ shift

-- the number that is not negative of a and -1 - a: of 5 it is 5, and of -5 it is 4
abbrev pub size_of : ℤ → ℕ
size_of (pos a) = a
size_of (negsuc a) = a
