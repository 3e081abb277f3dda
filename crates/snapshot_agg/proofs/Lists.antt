-- The first edges of a list, and its first items.
use Rattle.std.specs.Prelude.{◌≡◌, ℕ, zero, suc, ◌<◌, List, [], ◌∷◌, ◌++◌, length, get_or, take, drop, refl}
use Rattle.std.proofs.Common.{ap, arith}
use Rattle.tw_rows.specs.declared.edge.Edge.{Edge}
use Rattle.sweep_laws.specs.Sweeps.{StartsAt}

pub starts_at : (due : List Edge) (i : ℕ) (d : Edge) → i < length due → StartsAt (get_or due i d).sync (drop i due)
starts_at [] i d low = absurd (omega (arith, low))
starts_at (x ∷ due) zero d low = refl
starts_at (x ∷ due) (suc i) d low = starts_at due i d (omega (arith, low))

-- the items of a list, and what stood behind them
pub whole_items : {X : Type 0} (n : ℕ) (xs ys : List X) → n ≡ length xs → take n (xs ++ ys) ≡ xs
whole_items zero [] ys e = refl
whole_items (suc n) [] ys e = absurd (omega (arith, e))
whole_items zero (x ∷ xs) ys e = absurd (omega (arith, e))
whole_items (suc n) (x ∷ xs) ys e = ap (λ l. x ∷ l) (whole_items n xs ys (omega (arith, e)))
