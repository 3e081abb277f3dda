-- Counts of events that do not end before a time.
use Rattle.std.specs.Prelude.{◌≡◌, ℕ, ◌≤◌, nat_le, nat_lt, cond, ◌&&◌, List, [], ◌∷◌, length, refl}
use Rattle.std.proofs.Common.{arith}
use Rattle.std.proofs.lemmas.Bool.Decides.{nat_tests}
use Rattle.tw_rows.specs.Bag.{total}
use Rattle.tw_rows.specs.Event.{Event, alive}
use Rattle.tw_rows.proofs.Lives.{total-alive}
use Rattle.key_nodes.proofs.Bags.{total_le}
use Rattle.plan_laws.specs.Held.{reaching}

pub length_total : {X : Type 0} (xs : List X) → length xs ≡ total (λ x. 1) xs
length_total [] = refl
length_total (x ∷ xs) = let h = length_total xs in omega (arith, h)

pub reaching_all : {R : Type 0} (es : List (Event R)) → reaching 0 es ≡ length es
reaching_all {R} es = go es
  where
    one : (n : ℕ) → cond {A = ℕ} (nat_le 0 n) 1 0 ≡ 1
    one n = grind (arith, nat_tests)

    go : (es : List (Event R)) → total (λ e. cond (nat_le 0 e.end) 1 0) es ≡ length es
    go [] = refl
    go (e ∷ es) = (let a = one e.end in let h = go es in omega (arith, a, h))

pub reaching_falls : {R : Type 0} (m n : ℕ) (es : List (Event R)) → m ≤ n → reaching n es ≤ reaching m es
reaching_falls m n es low = total_le _ _ es (λ e. one e.end)
  where
    one : (x : ℕ) → cond (nat_le n x) 1 0 ≤ cond (nat_le m x) 1 0
    one x = grind (arith, nat_tests)

pub alive_reaches : {R : Type 0} (t : ℕ) (es : List (Event R)) → length (alive es t) ≤ reaching t es
alive_reaches t es =
    rw (length_total (alive es t), total-alive (λ x. 1) es t) (total_le _ _ es (λ e. one e.start e.end))
  where
    one : (s n : ℕ) → cond (nat_le s t && nat_lt t n) 1 0 ≤ cond (nat_le t n) 1 0
    one s n = grind (arith, nat_tests)
