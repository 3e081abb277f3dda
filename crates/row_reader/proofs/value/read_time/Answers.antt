use Rattle.std.proofs.Common.{◌≡◌, ◌≤◌, ◌^◌, ℕ, List, Option, Some, None, refl, sym, ◌∙◌, ap, arith}
use Rattle.std.specs.Prelude.{IsNone, IfSome, ◌↔◌}
use Rattle.tw_rows.specs.Instant.{inf}
use Rattle.row_reader.specs.Values.{time_of}
use Rattle.row_reader.proofs.Numbers.{number_of-is}
use Rattle.row_reader.proofs.value.read_time.Goals as goal

inf-is : inf ≡ 2 ^ 61
unfolding inf
inf-is = refl

-- a number below 2 ^ 60 is an instant
is_instant : (made : Option ℕ) (bytes text : List ℕ) (n : ℕ) → bytes ≡ text → time_of bytes ≡ Some n → (IsNone made ↔ (inf ≤ n)) → IfSome made (λ t. t ≡ n) → made ≡ time_of text
is_instant None bytes text n same spelled none some =
    let low = (number_of-is (2 ^ 60) bytes n spelled).0 in
    let high : inf ≤ n = none.0 refl in
    absurd (omega (arith, inf-is, low, high))
is_instant (Some t) bytes text n same spelled none some = ap Some some ∙ sym spelled ∙ ap time_of same

pub returns-in-Some : goal.returns-in-Some
returns-in-Some c = is_instant _ _ _ c.in-Some.number refl (sym c.read_number.ensures ∙ c.in-Some.is) c.new.ensures.none c.new.ensures.some
