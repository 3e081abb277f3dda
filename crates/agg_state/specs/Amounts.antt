-- What aggregates tell of a bag of ints, and what they keep of it. A bag is given as a list in any order.
use Rattle.std.specs.Prelude.{◌≡◌, ℕ, ◌≤◌, ◌^◌, ◌||◌, nat_lt, ℤ, Bool, cond, Option, None, Some, List, length, unwrap_or}
use Rattle.std.specs.Ordering.{int_cmp, int_eq}
use Rattle.std.specs.BTreeMap.{BTreeMap, get}
use Rattle.tw_rows.specs.Bag.{total}
use Rattle.plan_model.specs.Amounts.{exact_sum, most_rows, is_outside_i64}

-- the number that is made of the bag, where the bag is not too large and the number is not. Of the sum: 7 of 3 and 4, and
-- nothing of 2^63 - 1 and 1
abbrev pub told : (List ℤ → ℤ) → (List ℤ → Bool) → List ℤ → Option ℤ
told made is_large bag = cond (nat_lt most_rows (length bag) || is_large bag) None (Some (made bag))

-- how many of the ints are none of 64 bits
abbrev pub wide : List ℤ → ℕ
wide bag = total (λ x. cond (is_outside_i64 x) 1 0) bag

-- how often an int stands in the bag. 7 in 7, 4, 7: twice
abbrev pub times : ℤ → List ℤ → ℕ
times v bag = total (λ x. cond (int_eq v x) 1 0) bag

-- the number of ints of a bag of ints of 64 bits, of which there are at most 2^63
pub record IsCounted (count : ℕ) (bag : List ℤ) : Type 0 where
  pub is_count : count ≡ length bag
  pub few : count ≤ 2 ^ 63

-- their number and their sum
pub record IsSummed (sum : ℤ) (count : ℕ) (bag : List ℤ) : Type 0 where
  pub is_sum : sum ≡ exact_sum bag
  pub is_count : count ≡ length bag
  pub few : count ≤ 2 ^ 63
  pub narrow : wide bag ≡ 0

-- the ints with how often each stands there, none with 0, and their number
pub record IsBag (counts : BTreeMap ℤ ℕ) (len : ℕ) (bag : List ℤ) : Type 0 where
  pub counted : (v : ℤ) → unwrap_or (get int_cmp counts v) 0 ≡ times v bag
  pub there : (v : ℤ) → get int_cmp counts v ≡ Some 0 → ⊥
  pub is_len : len ≡ length bag
  pub few : len ≤ 2 ^ 63
