-- How much admission may hold.
use Rattle.std.specs.Prelude.{ℕ, zero, suc, ◌+◌, ◌*◌, length}
use Rattle.plan_laws.specs.Held.{reaching}
use Rattle.admission.specs.Admission.{Admission, rows}

-- the numbers of the first n streams together. Of 3 and 5: 8
abbrev pub together : ℕ → (ℕ → ℕ) → ℕ
together zero f = 0
together (suc n) f = f 0 + together n (λ s. f (suc s))

-- how much may be held of n streams from a punctuation p on: two edges for each row that does not end before it, and the open
-- starts, dropped ones too. Of a row over [1, 4), one over [1, 9) and an open start at 5, from 5 on: 2 * 2 + 1
abbrev pub may_hold : ℕ → ℕ → Admission → ℕ
may_hold n p a = 2 * together n (λ s. reaching p (rows a s)) + length a.opens
