-- The times at which coalesced events of a row start and end.
use Rattle.std.specs.Prelude.{◌≡◌, ℕ, zero, suc, ◌+◌, ◌<◌, ◌≤◌, Bool, List, [], ◌∷◌, ◌++◌, replicate}
use Rattle.std.proofs.Common.{sym, ◌∙◌, ap, arith, add-zero, add-suc}
use Rattle.std.proofs.lemmas.List.{append-nil, append_assoc}
use Rattle.key_nodes.specs.Coalesced.{rise_times, fall_times}

-- all times are before c
abbrev pub AllBelow : ℕ → List ℕ → Type 0
AllBelow c [] = Unit {0}
AllBelow c (x ∷ xs) = (x < c) × AllBelow c xs

pub below_append : (c d n : ℕ) (xs : List ℕ) → c ≤ d → AllBelow c xs → n < d → (k : ℕ) → AllBelow d (xs ++ replicate k n)
below_append c d n [] low h m zero = tt
below_append c d n [] low h m (suc k) = (m, below_append c d n [] low tt m k)
below_append c d n (x ∷ xs) low h m k = ((let a = h.0 in omega (arith, a, low)), below_append c d n xs low h.1 m k)

-- all times are from c on
abbrev pub AllFrom : ℕ → List ℕ → Type 0
AllFrom c [] = Unit {0}
AllFrom c (x ∷ xs) = (c ≤ x) × AllFrom c xs

from_append : (c : ℕ) (xs ys : List ℕ) → AllFrom c xs → AllFrom c ys → AllFrom c (xs ++ ys)
from_append c [] ys h k = k
from_append c (x ∷ xs) ys h k = (h.0, from_append c xs ys h.1 k)

from_replicate : (c t n : ℕ) → c ≤ t → AllFrom c (replicate n t)
from_replicate c t zero h = tt
from_replicate c t (suc n) h = (h, from_replicate c t n h)

-- a longer list goes on with times from c on
abbrev pub Rest : ℕ → List ℕ → List ℕ → Type 0
Rest c xs ys = (more : List ℕ) × (ys ≡ xs ++ more) × AllFrom c more

rest_more : (c t n : ℕ) (xs ys : List ℕ) → c ≤ t → Rest c xs ys → Rest c xs (ys ++ replicate n t)
rest_more c t n xs ys low h = (h.0 ++ replicate n t, ap (λ l. l ++ replicate n t) h.1 ∙ append_assoc xs h.0 (replicate n t), from_append c h.0 (replicate n t) h.2 (from_replicate c t n low))

module _ {R : Type 0} (same : R → R → Bool) (f : ℕ → List R) (r : R) where
  pub rises_below : (n : ℕ) → AllBelow n (rise_times same f r n)
  rises_below zero = tt
  rises_below (suc t) = below_append t (suc t) t (rise_times same f r t) (omega arith) (rises_below t) (omega arith) _

  pub falls_below : (n : ℕ) → AllBelow n (fall_times same f r n)
  falls_below zero = tt
  falls_below (suc t) = below_append t (suc t) t (fall_times same f r t) (omega arith) (falls_below t) (omega arith) _

  pub rises_rest : (c d : ℕ) → Rest c (rise_times same f r c) (rise_times same f r (c + d))
  rises_rest c zero = ([], ap (rise_times same f r) (add-zero c) ∙ sym (append-nil (rise_times same f r c)), tt)
  rises_rest c (suc d) = rw (add-suc c d) (rest_more c (c + d) _ (rise_times same f r c) (rise_times same f r (c + d)) (omega arith) (rises_rest c d))

  pub falls_rest : (c d : ℕ) → Rest c (fall_times same f r c) (fall_times same f r (c + d))
  falls_rest c zero = ([], ap (fall_times same f r) (add-zero c) ∙ sym (append-nil (fall_times same f r c)), tt)
  falls_rest c (suc d) = rw (add-suc c d) (rest_more c (c + d) _ (fall_times same f r c) (fall_times same f r (c + d)) (omega arith) (falls_rest c d))
