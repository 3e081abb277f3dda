-- Multisets: two lists are the same multiset where every weight finds them equally heavy.
use Rattle.std.specs.Prelude.{◌≡◌, ℕ, ◌+◌, List, [], ◌∷◌}

-- the weights of the items, added up. With weight 1 for each it is the length
abbrev pub total : {X : Type 0} → (X → ℕ) → List X → ℕ
total w [] = 0
total w (x ∷ xs) = w x + total w xs

-- the lists are equal as multisets: whatever weights the items have, both weigh the same.
-- With weight 1 for one item and 0 for every other it says that the item stands as often in both
pub record SameBag {X : Type 0} (xs ys : List X) : Type 0 where
  pub weigh : (w : X → ℕ) → total w xs ≡ total w ys
