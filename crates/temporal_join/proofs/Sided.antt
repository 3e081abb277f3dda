-- What is kept of a side: its rows by their keys and its rows with ends, and what is pending beside them.
use Rattle.std.specs.Prelude.{◌≡◌, ℕ, ◌+◌, ◌<◌, nat_eq, Bool, true, false, cond, List, [], ◌∷◌, ◌++◌, length, get_or, take, refl}
use Rattle.std.proofs.Common.{sym, ◌∙◌, ap, arith}
use Rattle.std.proofs.lemmas.Bool.Decides.{nat_tests}
use Rattle.std.proofs.lemmas.Grind.{flat_map-append}
use Rattle.std.proofs.lemmas.List.{append-nil, length-append, map-append, take_more}
use Rattle.tw_rows.specs.Bag.{total}
use Rattle.tw_rows.specs.Instant.{inf}
use Rattle.tw_rows.specs.declared.edge.Edge.{Edge}
use Rattle.tw_rows.specs.declared.edge.HeldRow.{HeldRow}
use Rattle.tw_rows.proofs.Bags.{total-append, total-map}
use Rattle.edge_history.specs.History.{CellEvent}
use Rattle.end_queue.specs.Pending.{Pending}
use Rattle.sweep_laws.specs.Pairs.{Held}
use Rattle.sweep_sides.specs.Waiting.{queued, AreTimed}
use Rattle.temporal_join.specs.Lives.{end_of, end_weight, row_of, life_rows, wait_of, life_waits}
use Rattle.temporal_join.specs.declared.lives.Life.{Life}

pub waits_more : (lives : List Life) (i : ℕ) (x : Life) → i < length lives → x ≡ get_or lives i x → length (life_waits (take (i + 1) lives)) ≡ length (life_waits (take i lives)) + length (wait_of x)
waits_more lives i x low is =
    let a = ap (λ l. length (life_waits l)) (take_more lives i x low ∙ ap (λ y. take i lives ++ y ∷ []) (sym is)) in
    let b = ap (λ (l : List Pending). length l) (flat_map-append wait_of (take i lives) (x ∷ [])) ∙ length-append (life_waits (take i lives)) (wait_of x ++ []) in
    let c = ap (λ (l : List Pending). length l) (append-nil (wait_of x)) in
    omega (arith, a, b, c)

-- THE WEIGHTS OF A SIDE
pub rows_weight : (w : HeldRow → ℕ) (rows : List HeldRow) (lives : List Life) → total w (rows ++ life_rows lives) ≡ total w rows + total (λ l. w (row_of l)) lives
rows_weight w rows lives =
    let a = total-append w rows (life_rows lives) in
    let b = total-map w row_of lives in
    omega (arith, a, b)

one_weight : (w : Edge → ℕ) (b : Bool) (l : Life) → total w (queued (cond b [] (record { at = l.edge.other; edge = end_of l } ∷ []))) ≡ cond b 0 (w (end_of l))
one_weight w true l = refl
one_weight w false l = omega arith

ends_weight : (w : Edge → ℕ) (lives : List Life) → total w (queued (life_waits lives)) ≡ total (end_weight w) lives
ends_weight w [] = refl
ends_weight w (l ∷ lives) =
    let a = ap (total w) (map-append (λ (p : Pending). p.edge) (wait_of l) (life_waits lives)) ∙ total-append w (queued (wait_of l)) (queued (life_waits lives)) in
    let b = one_weight w (nat_eq l.edge.other inf) l in
    let r = ends_weight w lives in
    omega (arith, a, b, r)

pub pending_weight : (w : Edge → ℕ) (q : List Pending) (lives : List Life) → total w (queued (q ++ life_waits lives)) ≡ total w (queued q) + total (end_weight w) lives
pending_weight w q lives =
    let a = ap (total w) (map-append (λ (p : Pending). p.edge) q (life_waits lives)) ∙ total-append w (queued q) (queued (life_waits lives)) in
    let b = ends_weight w lives in
    omega (arith, a, b)

-- each end waits for its time
one_timed : (b : Bool) (l : Life) → AreTimed (cond b [] (record { at = l.edge.other; edge = end_of l } ∷ []))
one_timed true l = refl
one_timed false l = same l.edge.other
  where
    same : (n : ℕ) → cond {A = ℕ} (nat_eq n n) 0 1 + 0 ≡ 0
    same n = grind (arith, nat_tests)

waits_timed : (lives : List Life) → AreTimed (life_waits lives)
waits_timed [] = refl
waits_timed (l ∷ lives) =
    let t : Pending → ℕ = λ p. cond (nat_eq p.at p.edge.sync) 0 1 in
    let a = total-append t (wait_of l) (life_waits lives) in
    let b = one_timed (nat_eq l.edge.other inf) l in
    let r = waits_timed lives in
    omega (arith, a, b, r)

pub timed_with : (q : List Pending) (lives : List Life) → AreTimed q → AreTimed (q ++ life_waits lives)
timed_with q lives h =
    let a = total-append (λ (p : Pending). cond {A = ℕ} (nat_eq p.at p.edge.sync) 0 1) q (life_waits lives) in
    let b = waits_timed lives in
    omega (arith, a, b, h)

pub timed_of : (q : List Pending) (lives : List Life) → AreTimed (q ++ life_waits lives) → AreTimed q
timed_of q lives h = (let a = total-append (λ (p : Pending). cond {A = ℕ} (nat_eq p.at p.edge.sync) 0 1) q (life_waits lives) in omega (arith, a, h))

-- the same rows
pub held_same : (a b : List CellEvent) (t : ℕ) (l l2 r r2 : List HeldRow) → ((w : HeldRow → ℕ) → total w l2 ≡ total w l) → ((w : HeldRow → ℕ) → total w r2 ≡ total w r) → Held a b t l r → Held a b t l2 r2
held_same a b t l l2 r r2 e f h = record {
  left_rows = record { weigh = λ w. e w ∙ h.left_rows.weigh w };
  right_rows = record { weigh = λ w. f w ∙ h.right_rows.weigh w };
}

-- nothing in a list of both
pub none_first : {X : Type 0} (xs ys : List X) → xs ++ ys ≡ [] → xs ≡ []
none_first [] ys h = refl
none_first (x ∷ xs) ys h = absurd (cc (h))

pub none_second : {X : Type 0} (xs ys : List X) → xs ++ ys ≡ [] → ys ≡ []
none_second [] ys h = h
none_second (x ∷ xs) ys h = absurd (cc (h))

pub no_lives : (lives : List Life) → life_rows lives ≡ [] → lives ≡ []
no_lives [] h = refl
no_lives (l ∷ lives) h = absurd (cc (h))
