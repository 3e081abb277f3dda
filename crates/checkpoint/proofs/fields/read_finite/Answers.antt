use Rattle.std.proofs.Common.{◌≡◌, ◌≤◌, ◌^◌, ℕ, List, Option, Some, None, refl, sym, ◌∙◌, arith}
use Rattle.std.specs.Prelude.{IsNone, IfSome, ◌↔◌}
use Rattle.tw_rows.specs.Instant.{inf}
use Rattle.row_reader.specs.Number.{number_of}
use Rattle.row_reader.proofs.Numbers.{number_of-is}
use Rattle.row_reader.proofs.ReadBack.{inf-is}
use Rattle.checkpoint.proofs.fields.read_finite.Goals as goal

-- a number below 2 ^ 61 is an instant
is_instant : (made : Option ℕ) (text : List ℕ) (n : ℕ) → number_of (2 ^ 61) text ≡ Some n → (IsNone made ↔ (inf ≤ n)) → IfSome made (λ t. t ≡ n) → made ≡ number_of (2 ^ 61) text
is_instant None text n spelled none some = absurd (let low = (number_of-is (2 ^ 61) text n spelled).0 in let high : inf ≤ n = none.0 refl in omega (arith, inf-is, low, high))
is_instant (Some t) text n spelled none some = (λ i. Some (some i)) ∙ sym spelled

pub returns-in-Some : goal.returns-in-Some
returns-in-Some c = is_instant _ _ c.in-Some.number (sym c.read_number.ensures ∙ c.in-Some.is) c.new.ensures.none c.new.ensures.some
