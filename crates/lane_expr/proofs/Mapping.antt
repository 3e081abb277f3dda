-- A list whose items are changed one after another.
use Rattle.std.proofs.Common.{◌≡◌, ℕ, zero, suc, ◌+◌, ◌<◌, List, [], ◌∷◌, ◌++◌, map, take, drop, set, length, get_or, refl, ap, arith, add-one}

module _ {X : Type 0} (f : X → X) where
  -- with the first k items changed
  abbrev pub changed : ℕ → List X → List X
  changed k xs = map f (take k xs) ++ drop k xs

  pub changed-here : (k : ℕ) (xs : List X) (d : X) → get_or (changed k xs) k d ≡ get_or xs k d
  changed-here zero xs d = refl
  changed-here (suc k) [] d = refl
  changed-here (suc k) (x ∷ xs) d = changed-here k xs d

  pub length-changed : (k : ℕ) (xs : List X) → length (changed k xs) ≡ length xs
  length-changed zero xs = refl
  length-changed (suc k) [] = refl
  length-changed (suc k) (x ∷ xs) = ap suc (length-changed k xs)

  one : (k : ℕ) (xs : List X) (d : X) → k < length xs → set (changed k xs) k (f (get_or xs k d)) ≡ changed (suc k) xs
  one k [] d lt = absurd (omega arith)
  one zero (x ∷ xs) d lt = refl
  one (suc k) (x ∷ xs) d lt = ap (λ l. f x ∷ l) (one k xs d (omega arith))

  pub changed-next : (k : ℕ) (xs : List X) (d : X) → k < length xs → set (changed k xs) k (f (get_or xs k d)) ≡ changed (k + 1) xs
  changed-next k xs d lt = rw add-one (one k xs d lt)
