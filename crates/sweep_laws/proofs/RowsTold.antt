-- What is told of rows that end at an instant, and of rows that start there.
use Rattle.std.specs.Prelude.{◌≡◌, ℕ, suc, ◌+◌, ◌*◌, ◌<◌, nat_eq, Bool, true, false, cond, List, [], ◌∷◌, map, refl}
use Rattle.std.proofs.Common.{◌∙◌, arith}
use Rattle.std.proofs.lemmas.Bool.Decides.{nat_tests}
use Rattle.tw_rows.specs.Instant.{inf}
use Rattle.tw_rows.specs.declared.edge.Edge.{Edge}
use Rattle.tw_rows.specs.declared.edge.HeldRow.{HeldRow}
use Rattle.tw_rows.specs.Bag.{total}
use Rattle.tw_rows.proofs.Bags.{total-map, total_same, total_zero}
use Rattle.edge_history.specs.Order.{failing, rank}
use Rattle.edge_history.specs.History.{CellEvent}
use Rattle.edge_history.specs.Balance.{news_of}
use Rattle.edge_history.specs.Opens.{ended_of, started_of, is_early, is_new}
use Rattle.edge_history.proofs.Sums.{sum_eq}
use Rattle.edge_history.proofs.Telling.{is_event}
use Rattle.sweep_laws.specs.Sweeps.{InOrder}
use Rattle.sweep_laws.specs.Moves.{ending, starting, Adds, told_at}
use Rattle.sweep_laws.proofs.Ordering.{adds_order}

pub split_gap : (g : Bool) (n : ℕ) → n ≡ cond g n 0 + cond g 0 n
split_gap true n = omega arith
split_gap false n = omega arith

-- one event's end and start among the news of an instant
pub ended_one : (v : HeldRow → ℕ) (t : ℕ) (e : CellEvent) → is_event e ≡ true →
    total (λ x. total v (ended_of x)) (news_of t (suc t) e) ≡ cond (nat_eq e.end t) (v (record { cells = e.row; start = e.start })) 0
ended_one v t e h = grind (arith, nat_tests)

pub started_one : (v : HeldRow → ℕ) (t : ℕ) (e : CellEvent) → is_event e ≡ true →
    total (λ x. total v (started_of x)) (news_of t (suc t) e) ≡ cond (nat_eq e.start t) (v (record { cells = e.row; start = e.start })) 0
started_one v t e h = grind (arith, nat_tests)

pub cond_row : (v : HeldRow → ℕ) (b : Bool) (r : HeldRow) → total v (cond b (r ∷ []) []) ≡ cond b (v r) 0
cond_row v true r = omega arith
cond_row v false r = refl

pub end_early : (w : Edge → ℕ) (t : ℕ) (r : HeldRow) → is_early t r ≡ true → w (told_at false t r) ≡ ending t w r
unfolding is_early
end_early w t r h = grind (arith, nat_tests)

pub begin_early : (w : Edge → ℕ) (t : ℕ) (r : HeldRow) → is_early t r ≡ true → starting t w r ≡ 0
unfolding is_early
begin_early w t r h = grind (arith, nat_tests)

pub start_new : (w : Edge → ℕ) (t : ℕ) (r : HeldRow) → is_new t r ≡ true → w (told_at true t r) ≡ starting t w r
unfolding is_new
start_new w t r h = grind (arith, nat_tests)

pub end_new : (w : Edge → ℕ) (t : ℕ) (r : HeldRow) → is_new t r ≡ true → ending t w r ≡ 0
unfolding is_new
end_new w t r h = grind (arith, nat_tests)

end_rank : (t : ℕ) (r : HeldRow) → is_early t r ≡ true → cond {A = ℕ} (nat_eq (rank (told_at false t r)) (2 * t)) 0 1 ≡ 0
unfolding is_early
end_rank t r h = grind (arith, nat_tests)

start_rank : (t : ℕ) (r : HeldRow) → t < inf → cond {A = ℕ} (nat_eq (rank (told_at true t r)) (suc (2 * t))) 0 1 ≡ 0
start_rank t r low = grind (arith, nat_tests)

-- the order of an answer stays
pub ends_in_order : (t : ℕ) (rows : List HeldRow) (before after : List Edge) → Adds before after (map (told_at false t) rows) → failing (is_early t) rows ≡ 0 →
    InOrder (2 * t) before → InOrder (2 * t) after
ends_in_order t rows before after adds early up =
    adds_order (2 * t) before after _ adds
    (total-map (λ e. cond (nat_eq (rank e) (2 * t)) 0 1) (told_at false t) rows ∙ sum_eq (is_early t) _ (λ r. 0) rows (λ r h. end_rank t r h) early ∙ total_zero rows) up

pub starts_in_order : (t : ℕ) (rows : List HeldRow) (before after : List Edge) → t < inf → Adds before after (map (told_at true t) rows) →
    InOrder (suc (2 * t)) before → InOrder (suc (2 * t)) after
starts_in_order t rows before after low adds up =
    adds_order (suc (2 * t)) before after _ adds
    (total-map (λ e. cond (nat_eq (rank e) (suc (2 * t))) 0 1) (told_at true t) rows ∙ total_same _ (λ r. 0) rows (λ r. start_rank t r low) ∙ total_zero rows) up
