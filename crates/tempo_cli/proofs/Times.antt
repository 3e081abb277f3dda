-- When a checkpoint is due.
use Rattle.std.proofs.Common.{◌≡◌, ◌≤◌, ℕ, min, true, false, inl, inr, sym, ◌∙◌, arith}
use Rattle.std.specs.Prelude.{nat_le}
use Rattle.std.proofs.lemmas.Bool.Decides.{nat_tests, leb_tells}
use Rattle.tw_rows.specs.Instant.{inf}

pub sat_le : (x l : ℕ) → l ≤ inf → nat_le (min x 18446744073709551615) l ≡ nat_le x l
unfolding inf
sat_le x l low = elim (leb_tells x l) [
  | inl h ↦ (let t : nat_le (min x 18446744073709551615) l ≡ true = grind (arith, nat_tests) in t ∙ sym h.0)
  | inr h ↦ (let t : nat_le (min x 18446744073709551615) l ≡ false = grind (arith, nat_tests) in t ∙ sym h.0)
]
