-- The rows of edges move one by one.
use Rattle.std.specs.Prelude.{◌≡◌, ℕ, suc, ◌+◌, ◌-◌, ◌*◌, ◌<◌, nat_lt, Bool, true, false, cond, List, [], ◌∷◌, ◌++◌, take, drop, replicate, length, get_or, refl}
use Rattle.std.proofs.Common.{sym, ◌∙◌, ap, arith}
use Rattle.std.proofs.lemmas.List.{append-nil, take_more}
use Rattle.tw_rows.specs.Instant.{inf}
use Rattle.tw_rows.specs.SameCells.{same_cells}
use Rattle.tw_rows.specs.declared.cells.Datum.{Datum}
use Rattle.tw_rows.specs.declared.edge.Edge.{Edge}
use Rattle.tw_rows.proofs.Bags.{total-append}
use Rattle.edge_history.specs.Order.{failing, is_end}
use Rattle.sweep_laws.specs.Queues.{queue_ends, queue_starts}
use Rattle.sweep_laws.specs.Sweeps.{InOrder}
use Rattle.sweep_laws.proofs.Ordering.{order_later}
use Rattle.synopsis.specs.declared.held.Held.{Held}
use Rattle.synopsis.specs.Holding.{since_of, move_of, MovesOnce}
use Rattle.synopsis.proofs.Ordered.{ends_more, starts_more}

-- an end edge ends its row once, and any other starts it once
pub moved_end : (t : ℕ) (x : Edge) (old new : Held) (before after : List Edge) → is_end x ≡ true →
    ((c : List Datum) → since_of new c ≡ cond (same_cells x.cells c) (drop 1 (since_of old c)) (since_of old c)) →
    after ≡ before ++ queue_ends t 1 x.cells (since_of old x.cells) → MovesOnce t x old new before after
moved_end t x old new before after end since told = record {
  since = λ c. since c ∙ (pick (same_cells x.cells c) (since_of old c)
      ∙ sym (ap (λ e. cond (same_cells x.cells c) (drop (cond {A = ℕ} e 1 0 - cond {A = ℕ} e 0 1) (since_of old c) ++ replicate (cond {A = ℕ} e 0 1 - cond {A = ℕ} e 1 0) t) (since_of old c)) end));
  told = told ∙ (ap (λ l. before ++ l) (sym (append-nil (queue_ends t 1 x.cells (since_of old x.cells))))
      ∙ sym (ap (λ e. before ++ (queue_ends t (cond {A = ℕ} e 1 0 - cond {A = ℕ} e 0 1) x.cells (since_of old x.cells) ++ queue_starts t (cond {A = ℕ} e 0 1 - cond {A = ℕ} e 1 0) x.cells)) end));
}
  where
    pick : (b : Bool) (l : List ℕ) → cond b (drop 1 l) l ≡ cond b (drop 1 l ++ []) l
    pick true l = sym (append-nil (drop 1 l))
    pick false l = refl

pub moved_start : (t : ℕ) (x : Edge) (old new : Held) (before after : List Edge) → is_end x ≡ false →
    ((c : List Datum) → since_of new c ≡ cond (same_cells x.cells c) (since_of old c ++ replicate 1 t) (since_of old c)) →
    after ≡ before ++ queue_starts t 1 x.cells → MovesOnce t x old new before after
moved_start t x old new before after end since told = record {
  since = λ c. since c
      ∙ sym (ap (λ e. cond (same_cells x.cells c) (drop (cond {A = ℕ} e 1 0 - cond {A = ℕ} e 0 1) (since_of old c) ++ replicate (cond {A = ℕ} e 0 1 - cond {A = ℕ} e 1 0) t) (since_of old c)) end);
  told = told
      ∙ sym (ap (λ e. before ++ (queue_ends t (cond {A = ℕ} e 1 0 - cond {A = ℕ} e 0 1) x.cells (since_of old x.cells) ++ queue_starts t (cond {A = ℕ} e 0 1 - cond {A = ℕ} e 1 0) x.cells)) end);
}

-- what is told of it is in order
pub end_ordered : (t : ℕ) (x : Edge) (since : List ℕ) (before after : List Edge) → is_end x ≡ true →
    after ≡ before ++ (queue_ends t ((move_of x).ends - (move_of x).starts) x.cells since ++ queue_starts t ((move_of x).starts - (move_of x).ends) x.cells) →
    failing (λ s. nat_lt s t) since ≡ 0 → InOrder (2 * t) before → InOrder (2 * t) after
end_ordered t x since before after end told early up =
    ends_more t 1 x.cells since before after
    (told
    ∙ (ap (λ e. before ++ (queue_ends t (cond {A = ℕ} e 1 0 - cond {A = ℕ} e 0 1) x.cells since ++ queue_starts t (cond {A = ℕ} e 0 1 - cond {A = ℕ} e 1 0) x.cells)) end
    ∙ ap (λ l. before ++ l) (append-nil (queue_ends t 1 x.cells since)))) early up

pub start_ordered : (t : ℕ) (x : Edge) (since : List ℕ) (before after : List Edge) → is_end x ≡ false →
    after ≡ before ++ (queue_ends t ((move_of x).ends - (move_of x).starts) x.cells since ++ queue_starts t ((move_of x).starts - (move_of x).ends) x.cells) →
    t < inf → InOrder (suc (2 * t)) before → InOrder (suc (2 * t)) after
start_ordered t x since before after end told low up =
    starts_more t 1 x.cells before after
    (told
    ∙ ap (λ e. before ++ (queue_ends t (cond {A = ℕ} e 1 0 - cond {A = ℕ} e 0 1) x.cells since ++ queue_starts t (cond {A = ℕ} e 0 1 - cond {A = ℕ} e 1 0) x.cells)) end) low up

-- one more edge
pub count_more : (es : List Edge) (i : ℕ) (x : Edge) → i < length es → x ≡ get_or es i x →
    failing is_end (take (i + 1) es) ≡ failing is_end (take i es) + cond (is_end x) 0 1
count_more es i x low is =
    let a = ap (failing is_end) (take_more es i x low) ∙ total-append (λ e. cond (is_end e) 0 1) (take i es) (get_or es i x ∷ []) in
    let b = ap (λ e. cond {A = ℕ} (is_end e) 0 1) is in
    omega (arith, a, b)

pub last_ends : (x : Edge) (n : ℕ) → n + cond (is_end x) 0 1 ≡ 0 → (is_end x ≡ true) × (n ≡ 0)
last_ends x n h = go (is_end x) h
  where
    go : (b : Bool) → n + cond b 0 1 ≡ 0 → (b ≡ true) × (n ≡ 0)
    go true h = (refl, omega (arith, h))
    go false h = absurd (omega (arith, h))

-- in order either way: before an end all that was told are ends
pub moved_ordered : (t : ℕ) (x : Edge) (since : List ℕ) (before after : List Edge) →
    after ≡ before ++ (queue_ends t ((move_of x).ends - (move_of x).starts) x.cells since ++ queue_starts t ((move_of x).starts - (move_of x).ends) x.cells) →
    t < inf → failing (λ s. nat_lt s t) since ≡ 0 → (is_end x ≡ true → InOrder (2 * t) before) → InOrder (suc (2 * t)) before → InOrder (suc (2 * t)) after
moved_ordered t x since before after told low early ends up = go (is_end x) refl
  where
    go : (b : Bool) → is_end x ≡ b → InOrder (suc (2 * t)) after
    go true e = order_later _ _ after (omega arith) (end_ordered t x since before after e told early (ends e))
    go false e = start_ordered t x since before after e told low up
