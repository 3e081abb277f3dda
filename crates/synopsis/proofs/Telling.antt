-- What the moves of an instant tell, row by row.
use Rattle.std.specs.Prelude.{◌≡◌, ℕ, zero, suc, ◌+◌, ◌-◌, ◌<◌, Bool, true, false, cond, not, Result, Ok, Err, OnOk, List, [], ◌∷◌, ◌++◌, map, flat_map, take, drop, replicate, get_or, length, refl}
use Rattle.std.proofs.Common.{sym, ◌∙◌, ap, arith}
use Rattle.std.proofs.lemmas.List.{append-nil, append_assoc, drop-drop, take_more}
use Rattle.tw_rows.specs.Bag.{total}
use Rattle.tw_rows.specs.SameCells.{same_cells, cells_are_same, same_itself}
use Rattle.tw_rows.specs.declared.cells.Datum.{Datum}
use Rattle.tw_rows.specs.declared.edge.Edge.{Edge}
use Rattle.tw_rows.proofs.Bags.{total-append, total-flat_map, total-map, total-add, total_same}
use Rattle.edge_history.specs.Order.{failing}
use Rattle.edge_history.proofs.Sums.{sum_eq}
use Rattle.sweep_laws.specs.Queues.{queue_ends, queue_starts, queue_told}
use Rattle.synopsis.specs.declared.moves.Moves.{Moves}
use Rattle.synopsis.specs.Kept.{ends_of, starts_of, rows_of, AreOnce}

pub no_ends : (at count : ℕ) (cells : List Datum) (answer : List Edge) (since : List ℕ) → since ≡ [] → answer ≡ answer ++ queue_ends at count cells since
no_ends at count cells answer since e = sym (append-nil answer) ∙ ap (λ l. answer ++ map (λ s. record { sync = at; other = s; cells = cells }) l) (nothing count ∙ ap (take count) (sym e))
  where
    nothing : (i : ℕ) → [] ≡ take {A = ℕ} i []
    nothing zero = refl
    nothing (suc i) = refl

-- a number of each move of a row, added up
abbrev pub sum_at : (Moves → ℕ) → List Moves → List Datum → ℕ
sum_at v ms c = total (λ m. cond (same_cells m.cells c) (v m) 0) ms

abbrev pub net_ends : Moves → ℕ
net_ends m = m.ends - m.starts

abbrev pub net_starts : Moves → ℕ
net_starts m = m.starts - m.ends

-- other rows have no part in it
apart_zero : (v : Moves → ℕ) (k c : List Datum) → same_cells k c ≡ true → (ms : List Moves) → failing (λ n. not (same_cells k n.cells)) ms ≡ 0 → sum_at v ms c ≡ 0
apart_zero v k c is [] h = refl
apart_zero v k c is (n ∷ ms) h =
    let r = apart_zero v k c is ms (omega (arith, h)) in
    let z = one (same_cells n.cells c) refl (same_cells k n.cells) refl (omega (arith, h)) in
    omega (arith, r, z)
  where
    one : (p : Bool) → same_cells n.cells c ≡ p → (q : Bool) → same_cells k n.cells ≡ q → cond {A = ℕ} (not q) 0 1 ≡ 0 → cond p (v n) 0 ≡ 0
    one false e q u z = refl
    one true e true u z = absurd (omega (arith, z))
    one true e false u z =
        let a = cells_are_same n.cells c e in
        let b = cells_are_same k c is in
        let s : same_cells k n.cells ≡ true = ap (same_cells k) (a ∙ sym b) ∙ same_itself k in
        absurd (cc (s, u))

-- where no row stands twice, the differences are those of the sums
net_step : (b : Bool) (u v n x y : ℕ) → n ≡ x - y → (b ≡ true → (n ≡ 0) × (x ≡ 0) × (y ≡ 0)) → cond b (u - v) 0 + n ≡ (cond b u 0 + x) - (cond b v 0 + y)
net_step true u v n x y e h = let k = h refl in let a = k.0 in let b = k.1 in let c = k.2 in omega (arith, a, b, c)
net_step false u v n x y e h = omega (arith, e)

pub once_net : (u v : Moves → ℕ) (ms : List Moves) → AreOnce ms → (c : List Datum) → sum_at (λ m. u m - v m) ms c ≡ sum_at u ms c - sum_at v ms c
once_net u v [] once c = refl
once_net u v (m ∷ ms) once c =
    net_step (same_cells m.cells c) (u m) (v m) _ _ _ (once_net u v ms once.1 c)
    (λ is. (apart_zero (λ m. u m - v m) m.cells c is ms once.0, apart_zero u m.cells c is ms once.0, apart_zero v m.cells c is ms once.0))

-- no move before this one is of its row
pub before_zero : (v : Moves → ℕ) (ms : List Moves) (i : ℕ) (x : Moves) → AreOnce ms → i < length ms → x ≡ get_or ms i x → sum_at v (take i ms) x.cells ≡ 0
before_zero v [] i x once low is = absurd (omega (arith, low))
before_zero v (m ∷ ms) zero x once low is = refl
before_zero v (m ∷ ms) (suc i) x once low is =
    let r = before_zero v ms i x once.1 (omega (arith, low)) is in
    let a = among ms i once.0 (omega (arith, low)) is in
    let z = ap (λ b. cond b (v m) 0) a in
    omega (arith, r, z)
  where
    is_false : (b : Bool) → cond {A = ℕ} (not b) 0 1 ≡ 0 → b ≡ false
    is_false true h = absurd (omega (arith, h))
    is_false false h = refl

    among : (ns : List Moves) (j : ℕ) → failing (λ n. not (same_cells m.cells n.cells)) ns ≡ 0 → j < length ns → x ≡ get_or ns j x → same_cells m.cells x.cells ≡ false
    among [] j h low e = absurd (omega (arith, low))
    among (n ∷ ns) zero h low e = ap (λ (y : Moves). same_cells m.cells y.cells) e ∙ is_false (same_cells m.cells n.cells) (omega (arith, h))
    among (n ∷ ns) (suc j) h low e = among ns j (omega (arith, h)) (omega (arith, low)) e

-- one more move
pub sum_more : (v : Moves → ℕ) (ms : List Moves) (i : ℕ) (x : Moves) (c : List Datum) → i < length ms → x ≡ get_or ms i x →
    sum_at v (take (i + 1) ms) c ≡ sum_at v (take i ms) c + cond (same_cells x.cells c) (v x) 0
sum_more v ms i x c low is =
    let a = ap (λ l. sum_at v l c) (take_more ms i x low) ∙ total-append (λ m. cond (same_cells m.cells c) (v m) 0) (take i ms) (get_or ms i x ∷ []) in
    let b = ap (λ (m : Moves). cond (same_cells m.cells c) (v m) 0) is in
    omega (arith, a, b)

pub weigh_more : (g : Moves → ℕ) (ms : List Moves) (i : ℕ) (x : Moves) → i < length ms → x ≡ get_or ms i x → total g (take (i + 1) ms) ≡ total g (take i ms) + g x
weigh_more g ms i x low is =
    let a = ap (total g) (take_more ms i x low) ∙ total-append g (take i ms) (get_or ms i x ∷ []) in
    let b = ap g is in
    omega (arith, a, b)

pub dropped_more : (b : Bool) (n m k : ℕ) (xs now new : List ℕ) → now ≡ drop n xs → new ≡ cond b (drop k now) now → m ≡ n + cond b k 0 → new ≡ drop m xs
dropped_more true n m k xs now new is e s = e ∙ (ap (drop k) is ∙ (drop-drop k n xs ∙ ap (λ j. drop j xs) (sym s)))
dropped_more false n m k xs now new is e s = e ∙ (is ∙ ap (λ j. drop j xs) (let z : n ≡ m = omega (arith, s) in z))

replicate-add : (n k t : ℕ) → replicate n t ++ replicate k t ≡ replicate (n + k) t
replicate-add zero k t = (let e : k ≡ 0 + k = omega arith in ap (λ j. replicate j t) e)
replicate-add (suc n) k t = ap (λ l. t ∷ l) (replicate-add n k t) ∙ (let e : suc (n + k) ≡ suc n + k = omega arith in ap (λ j. replicate j t) e)

pub grown_more : (b : Bool) (n m k t : ℕ) (xs now new : List ℕ) → now ≡ xs ++ replicate n t → new ≡ cond b (now ++ replicate k t) now → m ≡ n + cond b k 0 → new ≡ xs ++ replicate m t
grown_more true n m k t xs now new is e s =
    e ∙ (ap (λ l. l ++ replicate k t) is ∙ (append_assoc xs (replicate n t) (replicate k t) ∙ ap (λ l. xs ++ l) (replicate-add n k t ∙ ap (λ j. replicate j t) (sym s))))
grown_more false n m k t xs now new is e s = e ∙ (is ∙ ap (λ j. xs ++ replicate j t) (let z : n ≡ m = omega (arith, s) in z))

-- each row's own numbers are the sums
own : (F : ℕ → ℕ → Moves → ℕ) (ms : List Moves) → AreOnce ms → total (λ m. F (ends_of ms m.cells) (starts_of ms m.cells) m) ms ≡ total (λ m. F m.ends m.starts m) ms
own F [] once = refl
own F (m ∷ ms) once =
    let ih = own F ms once.1 in
    let i = same_itself m.cells in
    let a : ends_of (m ∷ ms) m.cells ≡ m.ends = (let x = ap (λ b. cond b m.ends 0) i in let y = apart_zero (λ n. n.ends) m.cells m.cells i ms once.0 in omega (arith, x, y)) in
    let b : starts_of (m ∷ ms) m.cells ≡ m.starts = (let x = ap (λ b. cond b m.starts 0) i in let y = apart_zero (λ n. n.starts) m.cells m.cells i ms once.0 in omega (arith, x, y)) in
    let h = ap (λ n. F n (starts_of (m ∷ ms) m.cells) m) a ∙ ap (λ n. F m.ends n m) b in
    let t = sum_eq (λ n. not (same_cells m.cells n.cells)) (λ n. F (ends_of (m ∷ ms) n.cells) (starts_of (m ∷ ms) n.cells) n) (λ n. F (ends_of ms n.cells) (starts_of ms n.cells) n) ms
    (λ n p. ap (λ k. F k (starts_of (m ∷ ms) n.cells) n) (other n m.ends (ends_of ms n.cells) p) ∙ ap (λ k. F (ends_of ms n.cells) k n) (other n m.starts (starts_of ms n.cells) p)) once.0 in
    omega (arith, ih, h, t)
  where
    other : (n : Moves) (k s : ℕ) → not (same_cells m.cells n.cells) ≡ true → cond (same_cells m.cells n.cells) k 0 + s ≡ s
    other n k s p = pick (same_cells m.cells n.cells) p
      where
        pick : (b : Bool) → not b ≡ true → cond b k 0 + s ≡ s
        pick true h = absurd (cc)
        pick false h = omega arith

-- both passes together
pub both_told : (w : Edge → ℕ) (at : ℕ) (since : List Datum → List ℕ) (ms : List Moves) → AreOnce ms →
    total w (flat_map (queue_told at (ends_of ms) (starts_of ms) since) (rows_of ms))
    ≡ total (λ m. total w (queue_ends at (m.ends - m.starts) m.cells (since m.cells))) ms + total (λ m. total w (queue_starts at (m.starts - m.ends) m.cells)) ms
both_told w at since ms once =
    total-flat_map w (queue_told at (ends_of ms) (starts_of ms) since) (rows_of ms)
    ∙ (total-map (λ r. total w (queue_told at (ends_of ms) (starts_of ms) since r)) (λ (m : Moves). m.cells) ms
    ∙ (own (λ e s m. total w (queue_ends at (e - s) m.cells (since m.cells) ++ queue_starts at (s - e) m.cells)) ms once
    ∙ (total_same _ (λ m. total w (queue_ends at (m.ends - m.starts) m.cells (since m.cells)) + total w (queue_starts at (m.starts - m.ends) m.cells)) ms
    (λ m. total-append w (queue_ends at (m.ends - m.starts) m.cells (since m.cells)) (queue_starts at (m.starts - m.ends) m.cells))
    ∙ total-add (λ m. total w (queue_ends at (m.ends - m.starts) m.cells (since m.cells))) (λ m. total w (queue_starts at (m.starts - m.ends) m.cells)) ms)))

-- what follows where a call succeeds
pub on_ok : {A B : Type 0} (r : Result A B) (P Q : Type 0) → OnOk r P → (P → Q) → OnOk r Q
on_ok (Ok x) P Q h f = f h
on_ok (Err x) P Q h f = tt
