-- The order of a list of edges is that of their ranks.
use Rattle.std.specs.Prelude.{◌↔◌, ℕ, zero, suc, ◌<◌, ◌≤◌, List, [], ◌∷◌, ◌++◌, length, get_or}
use Rattle.std.specs.List.Sorted.{IsNonDecreasingBy}
use Rattle.std.proofs.Common.{arith}
use Rattle.tw_rows.specs.declared.edge.Edge.{Edge}
use Rattle.edge_history.specs.Order.{rank, Rises}

rises_from : (r : ℕ) (xs : List Edge) → IsNonDecreasingBy rank xs →
    ((d : Edge) → 0 < length xs → r ≤ rank (get_or xs 0 d)) → Rises r xs
rises_from r [] up low = tt
rises_from r (e ∷ xs) up low = (
  low e (omega arith),
  rises_from (rank e) xs (λ i j d a b. up (suc i) (suc j) d (omega (arith, a)) (omega (arith, b)))
      (λ d h. up 0 1 d (omega arith) (omega (arith, h))),
)

-- from what a sort ensures
pub rises_from_sorted : (xs : List Edge) → IsNonDecreasingBy rank xs → Rises 0 xs
rises_from_sorted xs up = rises_from 0 xs up (λ d h. omega arith)

rises_above : (r : ℕ) (xs : List Edge) (j : ℕ) (d : Edge) → Rises r xs → j < length xs → r ≤ rank (get_or xs j d)
rises_above r [] j d k low = absurd (omega (arith, low))
rises_above r (x ∷ xs) zero d k low = k.0
rises_above r (x ∷ xs) (suc j) d k low =
    let a = rises_above (rank x) xs j d k.1 (omega (arith, low)) in
    omega (arith, a, k.0)

rises_between : (r : ℕ) (xs : List Edge) (i j : ℕ) (d : Edge) → Rises r xs → i ≤ j → j < length xs →
    rank (get_or xs i d) ≤ rank (get_or xs j d)
rises_between r [] i j d k le low = absurd (omega (arith, low))
rises_between r (x ∷ xs) zero zero d k le low = omega arith
rises_between r (x ∷ xs) zero (suc j) d k le low = rises_above (rank x) xs j d k.1 (omega (arith, low))
rises_between r (x ∷ xs) (suc i) zero d k le low = absurd (omega (arith, le))
rises_between r (x ∷ xs) (suc i) (suc j) d k le low =
    rises_between (rank x) xs i j d k.1 (omega (arith, le)) (omega (arith, low))

pub sorted_from_rises : (xs : List Edge) → Rises 0 xs → IsNonDecreasingBy rank xs
sorted_from_rises xs k = λ i j d le low. rises_between 0 xs i j d k le low

pub rises-sorted : (xs : List Edge) → Rises 0 xs ↔ IsNonDecreasingBy rank xs
rises-sorted xs = (sorted_from_rises xs, rises_from_sorted xs)

-- a list in order from a lower rank on, and its parts
pub Rises-less : (r s : ℕ) (es : List Edge) → s ≤ r → Rises r es → Rises s es
Rises-less r s [] le h = tt
Rises-less r s (e ∷ es) le h = (omega (arith, le, h.0), h.1)

pub Rises-front : (r : ℕ) (xs ys : List Edge) → Rises r (xs ++ ys) → Rises r xs
Rises-front r [] ys h = tt
Rises-front r (x ∷ xs) ys h = (h.0, Rises-front (rank x) xs ys h.1)

pub Rises-back : (r : ℕ) (xs ys : List Edge) → Rises r (xs ++ ys) → Rises r ys
Rises-back r [] ys h = h
Rises-back r (x ∷ xs) ys h = Rises-less (rank x) r ys h.0 (Rises-back (rank x) xs ys h.1)
