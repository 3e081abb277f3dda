-- Rows that move alone, and what the moves of an instant tell.
use Rattle.std.specs.Prelude.{◌≡◌, ℕ, suc, ◌+◌, ◌*◌, ◌<◌, nat_lt, cond, List, [], ◌∷◌, length, get_or, flat_map}
use Rattle.std.proofs.Common.{sym, ◌∙◌, ap, arith}
use Rattle.tw_rows.specs.Bag.{total}
use Rattle.tw_rows.specs.Instant.{inf}
use Rattle.tw_rows.specs.SameCells.{same_cells}
use Rattle.tw_rows.specs.declared.cells.Datum.{Datum}
use Rattle.tw_rows.specs.declared.edge.Edge.{Edge}
use Rattle.edge_history.specs.Order.{failing}
use Rattle.key_nodes.specs.Coalesced.{how_often, coalesced}
use Rattle.sweep_laws.specs.Queues.{AreMoves, open_starts, queue_told}
use Rattle.sweep_laws.specs.Sweeps.{InOrder, Tells}
use Rattle.sweep_laws.proofs.Ordering.{order_later}
use Rattle.sweep_laws.proofs.Queueing.{touched_told}
use Rattle.synopsis.specs.declared.moves.Moves.{Moves}
use Rattle.synopsis.specs.Kept.{ends_of, starts_of, rows_of, AreOnce}
use Rattle.synopsis.proofs.Once.{cells_tell, either_way, none_of, all_distinct}
use Rattle.synopsis.proofs.Ordered.{starts_early}

-- the one row of a list counts once
pub lone_counted : (rows : List (List Datum)) (x d c : List Datum) → length rows ≡ 1 → x ≡ get_or rows 0 d → cond {A = ℕ} (same_cells x c) 1 0 + 0 ≡ how_often same_cells c rows
lone_counted [] x d c one is = absurd (omega (arith, one))
lone_counted (r ∷ []) x d c one is = ap (λ b. cond {A = ℕ} b 1 0 + 0) (either_way x c ∙ ap (same_cells c) is)
lone_counted (r ∷ s ∷ rows) x d c one is = absurd (omega (arith, one))

-- what the moves of an instant tell are the news of the coalesced events
pub tells_of : (f : ℕ → List (List Datum)) (at : ℕ) (ms : List Moves) (ends starts : List Datum → ℕ) (old : List Datum → List ℕ) (before after : List Edge) → at < inf →
    AreMoves same_cells f at ends starts → ((c : List Datum) → old c ≡ open_starts same_cells f c at) → AreOnce ms → ((c : List Datum) → ends_of ms c ≡ ends c) → ((c : List Datum) → starts_of ms c ≡ starts c) →
    ((w : Edge → ℕ) → total w after ≡ total w before + total w (flat_map (queue_told at (ends_of ms) (starts_of ms) old) (rows_of ms))) →
    (((c : List Datum) → failing (λ s. nat_lt s at) (old c) ≡ 0) → InOrder (2 * at) before → InOrder (suc (2 * at)) after) → Tells (coalesced same_cells f) at (suc at) before after
tells_of f at ms ends starts old before after low moves is once is_ends is_starts told order =
    let so : AreMoves same_cells f at (ends_of ms) (starts_of ms) = λ r. (
    let m = moves r in
    let a = is_ends r in
    let b = is_starts r in
    omega (arith, m, a, b)) in
    record {
      weigh = λ w.
          told w
          ∙ ap (λ n. total w before + n)
          (ap (λ l. total w (flat_map (queue_told at (ends_of ms) (starts_of ms) old) l)) (sym (all_distinct ms once))
          ∙ touched_told same_cells f cells_tell at low (ends_of ms) (starts_of ms) so old is (rows_of ms)
          (λ r none. none_of (λ m. m.ends) r ms none ∙ sym (none_of (λ m. m.starts) r ms none)) w);
      order = λ up. order_later _ _ after (omega arith) (order (λ q. ap (failing (λ s. nat_lt s at)) (is q) ∙ starts_early same_cells f q at) up);
    }
