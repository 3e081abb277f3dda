-- What is known of single lives below a time.
use Rattle.std.specs.Prelude.{◌≡◌, ℕ, ◌≤◌, Bool, true, false, cond, List, ◌++◌, refl}
use Rattle.std.proofs.Common.{sym, arith}
use Rattle.std.proofs.lemmas.Bool.Decides.{nat_tests}
use Rattle.tw_rows.specs.Instant.{inf}
use Rattle.tw_rows.specs.Bag.{total}
use Rattle.tw_rows.specs.Event.{Event, AreEvents, seen, Known}
use Rattle.tw_rows.proofs.Bags.{total-append}
use Rattle.tw_rows.proofs.Knowing.{Known-refl}
use Rattle.key_nodes.specs.Joins.{with_life}

-- a life that starts at c or later is not seen below c
pub late_life : {R : Type 0} (w : Event R → ℕ) (c : ℕ) (row : R) (s e : ℕ) → c ≤ s → total (seen w c) (with_life row s e) ≡ 0
late_life w c row s e late = grind (arith, nat_tests)

-- nor is an end at c or later
pub open_life : {R : Type 0} (w : Event R → ℕ) (c : ℕ) (row : R) (s e : ℕ) → c ≤ e → e ≤ inf → total (seen w c) (with_life row s e) ≡ total (seen w c) (with_life row s inf)
open_life w c row s e late low = grind (arith, nat_tests)

-- more items where a test is true, of no weight there
pub more_weigh : {X : Type 0} (v : X → ℕ) (b : Bool) (xs new : List X) → (b ≡ true → total v new ≡ 0) → total v (cond b (xs ++ new) xs) ≡ total v xs
more_weigh v true xs new none = (let a = total-append v xs new in let z = none refl in omega (arith, a, z))
more_weigh v false xs new none = refl

pub Known-equal : {R : Type 0} (c : ℕ) (a b : List (Event R)) → c ≤ inf → AreEvents a → a ≡ b → Known c a b
Known-equal c a b low valid e = (let f : b ≡ a = sym e in rw f (Known-refl c a low valid))
