-- The order of what an instant tells, and how early open starts are.
use Rattle.std.specs.Prelude.{◌≡◌, ℕ, zero, suc, ◌*◌, ◌<◌, nat_eq, nat_lt, Bool, true, cond, List, ◌++◌, take, drop, replicate, refl}
use Rattle.std.proofs.Common.{◌∙◌, ap, arith}
use Rattle.std.proofs.lemmas.Bool.Decides.{nat_tests}
use Rattle.std.proofs.lemmas.List.{take-append-drop}
use Rattle.tw_rows.specs.Instant.{inf}
use Rattle.tw_rows.specs.declared.edge.Edge.{Edge}
use Rattle.tw_rows.proofs.Bags.{SameBag-refl, total-map, total_zero}
use Rattle.edge_history.specs.Order.{failing, rank}
use Rattle.edge_history.proofs.Sums.{sum_eq, weaker, failing-append, failing-parts}
use Rattle.sweep_laws.specs.Queues.{Cells, rise, fall, open_starts, queue_ends, queue_starts}
use Rattle.sweep_laws.specs.Sweeps.{InOrder}
use Rattle.sweep_laws.proofs.Ordering.{adds_order}

failing_take : {X : Type 0} (p : X → Bool) (n : ℕ) (xs : List X) → failing p xs ≡ 0 → failing p (take n xs) ≡ 0
failing_take p n xs h = (failing-parts p (take n xs) (drop n xs) (ap (failing p) (take-append-drop n xs) ∙ h)).0

pub failing_drop : {X : Type 0} (p : X → Bool) (n : ℕ) (xs : List X) → failing p xs ≡ 0 → failing p (drop n xs) ≡ 0
failing_drop p n xs h = (failing-parts p (take n xs) (drop n xs) (ap (failing p) (take-append-drop n xs) ∙ h)).1

end_rank : (t s : ℕ) (r : Cells) → nat_lt s t ≡ true → cond {A = ℕ} (nat_eq (rank (record { sync = t; other = s; cells = r })) (2 * t)) 0 1 ≡ 0
end_rank t s r h = grind (arith, nat_tests)

start_rank : (t : ℕ) (r : Cells) → t < inf → cond {A = ℕ} (nat_eq (rank (record { sync = t; other = inf; cells = r })) (suc (2 * t))) 0 1 ≡ 0
start_rank t r low = grind (arith, nat_tests)

-- ends of starts before the instant
pub ends_more : (t n : ℕ) (r : Cells) (since : List ℕ) (a b : List Edge) → b ≡ a ++ queue_ends t n r since → failing (λ s. nat_lt s t) since ≡ 0 →
    InOrder (2 * t) a → InOrder (2 * t) b
ends_more t n r since a b is early up =
    let f : ℕ → Edge = λ s. record { sync = t; other = s; cells = r } in
    adds_order (2 * t) a b (queue_ends t n r since) (record { added = queue_ends t n r since; is = is; bag = SameBag-refl _ })
    (total-map (λ e. cond (nat_eq (rank e) (2 * t)) 0 1) f (take n since)
    ∙ (sum_eq (λ s. nat_lt s t) _ (λ s. 0) (take n since) (λ s h. end_rank t s r h) (failing_take (λ s. nat_lt s t) n since early) ∙ total_zero (take n since))) up

starts_ranked : (t n : ℕ) (r : Cells) → t < inf → failing (λ e. nat_eq (rank e) (suc (2 * t))) (queue_starts t n r) ≡ 0
starts_ranked t zero r low = refl
starts_ranked t (suc n) r low = let a = start_rank t r low in let b = starts_ranked t n r low in omega (arith, a, b)

pub starts_more : (t n : ℕ) (r : Cells) (a b : List Edge) → b ≡ a ++ queue_starts t n r → t < inf → InOrder (suc (2 * t)) a → InOrder (suc (2 * t)) b
starts_more t n r a b is low up =
    adds_order (suc (2 * t)) a b (queue_starts t n r) (record { added = queue_starts t n r; is = is; bag = SameBag-refl _ }) (starts_ranked t n r low) up

-- open starts are before the instant
repeated_early : (t n : ℕ) → failing (λ s. nat_lt s (suc t)) (replicate n t) ≡ 0
repeated_early t zero = refl
repeated_early t (suc n) = let a = one t in let b = repeated_early t n in omega (arith, a, b)
  where
    one : (t : ℕ) → cond {A = ℕ} (nat_lt t (suc t)) 0 1 ≡ 0
    one t = grind (arith, nat_tests)

pub starts_early : (same : Cells → Cells → Bool) (f : ℕ → List Cells) (r : Cells) (t : ℕ) → failing (λ s. nat_lt s t) (open_starts same f r t) ≡ 0
starts_early same f r zero = refl
starts_early same f r (suc t) =
    let q = open_starts same f r t in
    failing-append (λ s. nat_lt s (suc t)) (drop (fall same f r t) q) (replicate (rise same f r t) t)
    (weaker (λ s. nat_lt s t) (λ s. nat_lt s (suc t)) (drop (fall same f r t) q) (λ s h. later s t h) (failing_drop (λ s. nat_lt s t) (fall same f r t) q (starts_early same f r t)))
    (repeated_early t (rise same f r t))
  where
    later : (s t : ℕ) → nat_lt s t ≡ true → nat_lt s (suc t) ≡ true
    later s t h = grind (arith, nat_tests)
