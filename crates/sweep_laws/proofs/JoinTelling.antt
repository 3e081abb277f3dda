-- What a join tells of an instant, and that it tells nothing between instants.
use Rattle.std.specs.Prelude.{◌≡◌, ℕ, suc, ◌+◌, ◌*◌, ◌<◌, ◌≤◌, nat_eq, Bool, true, false, cond, List, flat_map}
use Rattle.std.proofs.Common.{◌∙◌, arith}
use Rattle.std.proofs.lemmas.Bool.Decides.{nat_tests}
use Rattle.tw_rows.specs.Instant.{inf}
use Rattle.tw_rows.specs.Bag.{SameBag, total}
use Rattle.tw_rows.specs.Event.{AreEvents}
use Rattle.tw_rows.specs.declared.cells.Datum.{Datum}
use Rattle.tw_rows.specs.declared.edge.Edge.{Edge}
use Rattle.tw_rows.specs.declared.edge.HeldRow.{HeldRow}
use Rattle.tw_rows.proofs.Bags.{total-flat_map, total_same, total_zero, SameBag-trans, SameBag-sym}
use Rattle.edge_history.specs.Order.{failing, rank}
use Rattle.edge_history.specs.History.{CellEvent}
use Rattle.edge_history.specs.Balance.{news}
use Rattle.edge_history.specs.Opens.{opens, ended_rows, started_rows, is_early}
use Rattle.edge_history.proofs.Sums.{sum_eq, failing-same}
use Rattle.edge_history.proofs.Telling.{is_event}
use Rattle.edge_history.proofs.Retaining.{AreEvents-none_fails}
use Rattle.edge_history.proofs.Opening.{rows_after, ends_there, opens_stay, opens_early, starts_new, news_within}
use Rattle.key_nodes.specs.Joins.{joined_one, joined}
use Rattle.sweep_laws.specs.Sweeps.{Tells}
use Rattle.sweep_laws.specs.Moves.{Adds, told_at}
use Rattle.sweep_laws.specs.Pairs.{pair_of, pairs, pairs_told, Held}
use Rattle.sweep_laws.proofs.Ordering.{order_later, adds_order}
use Rattle.sweep_laws.proofs.Moving.{moves_told, still_between}
use Rattle.sweep_laws.proofs.Pairing.{opens_joined, pairs_same}
use Rattle.sweep_laws.proofs.JoinInstants.{no_pairs, told_left, told_right, instant_moves}

module _ (meets : List Datum → List Datum → Bool) (pair : List Datum → List Datum → List Datum) where
  -- the events of pairs are events
  event_pair : (e f : CellEvent) → is_event e ≡ true → is_event f ≡ true → total (λ x. cond {A = ℕ} (is_event x) 0 1) (joined_one meets pair e f) ≡ 0
  event_pair e f a b = grind (arith, nat_tests)

  pub joins_valid : (a b : List CellEvent) → failing is_event a ≡ 0 → failing is_event b ≡ 0 → failing is_event (joined meets pair a b) ≡ 0
  joins_valid a b va vb =
      let v : CellEvent → ℕ = λ x. cond (is_event x) 0 1 in
      total-flat_map v (λ e. flat_map (joined_one meets pair e) b) a
      ∙ sum_eq is_event _ (λ e. 0) a (λ e h. total-flat_map v (joined_one meets pair e) b ∙ sum_eq is_event _ (λ f. 0) b (λ f k. event_pair e f h k) vb ∙ total_zero b) va ∙ total_zero a

  end_rank : (t : ℕ) (l r : HeldRow) → is_early t l ≡ true → is_early t r ≡ true → total (λ x. cond {A = ℕ} (nat_eq (rank (told_at false t x)) (2 * t)) 0 1) (pair_of meets pair l r) ≡ 0
  unfolding is_early
  end_rank t l r a b = grind (arith, nat_tests)

  start_rank : (t : ℕ) (x : HeldRow) → t < inf → cond {A = ℕ} (nat_eq (rank (told_at true t x)) (suc (2 * t))) 0 1 ≡ 0
  start_rank t x low = grind (arith, nat_tests)

  start_ranks : (t : ℕ) (xs : List HeldRow) → t < inf → total (λ x. cond {A = ℕ} (nat_eq (rank (told_at true t x)) (suc (2 * t))) 0 1) xs ≡ 0
  start_ranks t xs low = total_same _ _ xs (λ x. start_rank t x low) ∙ total_zero xs

  module _ (a b : List CellEvent) (t : ℕ) (now_left now_right : List Edge) (left0 left1 left2 right0 right1 right2 : List HeldRow) (answer0 answer1 answer2 answer3 answer4 : List Edge)
      (low : t < inf) (lives_a : AreEvents a) (lives_b : AreEvents b) (is_left : SameBag now_left (news t (suc t) a)) (is_right : SameBag now_right (news t (suc t) b)) (held : Held a b t left0 right0)
      (l1 : ((w : HeldRow → ℕ) → total w (ended_rows now_left) ≤ total w left0) → (w : HeldRow → ℕ) → total w left0 ≡ total w left1 + total w (ended_rows now_left))
      (a1 : ((w : HeldRow → ℕ) → total w (ended_rows now_left) ≤ total w left0) → Adds answer0 answer1 (pairs_told meets pair false false t (ended_rows now_left) right0))
      (r1 : ((w : HeldRow → ℕ) → total w (ended_rows now_right) ≤ total w right0) → (w : HeldRow → ℕ) → total w right0 ≡ total w right1 + total w (ended_rows now_right))
      (a2 : ((w : HeldRow → ℕ) → total w (ended_rows now_right) ≤ total w right0) → Adds answer1 answer2 (pairs_told meets pair true false t (ended_rows now_right) left1))
      (l2 : (w : HeldRow → ℕ) → total w left2 ≡ total w left1 + total w (started_rows now_left)) (a3 : Adds answer2 answer3 (pairs_told meets pair false true t (started_rows now_left) right1))
      (r2 : (w : HeldRow → ℕ) → total w right2 ≡ total w right1 + total w (started_rows now_right)) (a4 : Adds answer3 answer4 (pairs_told meets pair true true t (started_rows now_right) left2)) where
    valid_a : failing is_event a ≡ 0
    valid_a = AreEvents-none_fails a lives_a

    valid_b : failing is_event b ≡ 0
    valid_b = AreEvents-none_fails b lives_b

    fit_left : (w : HeldRow → ℕ) → total w (ended_rows now_left) ≤ total w left0
    fit_left = ends_there a t now_left left0 valid_a is_left held.left_rows

    fit_right : (w : HeldRow → ℕ) → total w (ended_rows now_right) ≤ total w right0
    fit_right = ends_there b t now_right right0 valid_b is_right held.right_rows

    early_left : failing (is_early t) left0 ≡ 0
    early_left = failing-same (is_early t) left0 (opens t a) held.left_rows (opens_early t a)

    early_right : failing (is_early t) right0 ≡ 0
    early_right = failing-same (is_early t) right0 (opens t b) held.right_rows (opens_early t b)

    early_1 : failing (is_early t) left1 ≡ 0
    early_1 = let h = l1 fit_left (λ r. cond (is_early t r) 0 1) in let e = early_left in omega (arith, h, e)

    early_2 : failing (is_early t) (ended_rows now_left) ≡ 0
    early_2 = let h = l1 fit_left (λ r. cond (is_early t r) 0 1) in let e = early_left in omega (arith, h, e)

    early_3 : failing (is_early t) (ended_rows now_right) ≡ 0
    early_3 = let h = r1 fit_right (λ r. cond (is_early t r) 0 1) in let e = early_right in omega (arith, h, e)

    pub held_then : Held a b (suc t) left2 right2
    held_then = record {
      left_rows = rows_after a t now_left left0 left2 valid_a is_left held.left_rows (λ w. let x = l1 fit_left w in let y = l2 w in omega (arith, x, y));
      right_rows = rows_after b t now_right right0 right2 valid_b is_right held.right_rows (λ w. let x = r1 fit_right w in let y = r2 w in omega (arith, x, y));
    }

    pub told_then : Tells (joined meets pair a b) t (suc t) answer0 answer4
    told_then = record {
      weigh = moves_told t (joined meets pair a b) (pairs meets pair left0 right0) (pairs meets pair left2 right2) answer0 answer4 (joins_valid a b valid_a valid_b)
          (SameBag-trans _ _ _ (pairs_same meets pair _ _ _ _ held.left_rows held.right_rows) (SameBag-sym _ _ (opens_joined meets pair t a b)))
          (SameBag-trans _ _ _ (pairs_same meets pair _ _ _ _ held_then.left_rows held_then.right_rows) (SameBag-sym _ _ (opens_joined meets pair (suc t) a b)))
          (instant_moves meets pair t left0 left1 left2 (ended_rows now_left) (started_rows now_left) right0 right1 right2 (ended_rows now_right) (started_rows now_right) answer0 answer1 answer2 answer3 answer4
          (l1 fit_left) l2 (r1 fit_right) r2 early_left early_right (starts_new t a now_left is_left) (starts_new t b now_right is_right) (a1 fit_left) (a2 fit_right) a3 a4);
      order = λ up.
          let e1 = told_left meets pair (λ e. cond (nat_eq (rank e) (2 * t)) 0 1) false t (ended_rows now_left) right0 ∙ no_pairs meets pair (is_early t) (is_early t) _ (ended_rows now_left) right0 early_2 early_right (λ l r p q. end_rank t l r p q) in
          let e2 = told_right meets pair (λ e. cond (nat_eq (rank e) (2 * t)) 0 1) false t (ended_rows now_right) left1 ∙ no_pairs meets pair (is_early t) (is_early t) _ left1 (ended_rows now_right) early_1 early_3 (λ l r p q. end_rank t l r p q) in
          let s3 = told_left meets pair (λ e. cond (nat_eq (rank e) (suc (2 * t))) 0 1) true t (started_rows now_left) right1 ∙ start_ranks t (pairs meets pair (started_rows now_left) right1) low in
          let s4 = told_right meets pair (λ e. cond (nat_eq (rank e) (suc (2 * t))) 0 1) true t (started_rows now_right) left2 ∙ start_ranks t (pairs meets pair left2 (started_rows now_right)) low in
          let u1 = adds_order (2 * t) answer0 answer1 _ (a1 fit_left) e1 up in
          let u2 = adds_order (2 * t) answer1 answer2 _ (a2 fit_right) e2 u1 in
          let u3 = adds_order (suc (2 * t)) answer2 answer3 _ a3 s3 (order_later (2 * t) (suc (2 * t)) answer2 (omega arith) u2) in
          let u4 = adds_order (suc (2 * t)) answer3 answer4 _ a4 s4 u3 in
          order_later (suc (2 * t)) (2 * suc t) answer4 (omega arith) u4;
    }

  -- between instants: where neither side has news, the pairs have none
  pub held_between : (a b : List CellEvent) (u t : ℕ) (left right : List HeldRow) → AreEvents a → AreEvents b → u ≤ t →
      ((w : Edge → ℕ) → total w (news u t a) ≡ 0) → ((w : Edge → ℕ) → total w (news u t b) ≡ 0) → Held a b u left right →
      Held a b t left right × ((w : Edge → ℕ) → total w (news u t (joined meets pair a b)) ≡ 0)
  held_between a b u t left right lives_a lives_b low none_a none_b h =
      let va = AreEvents-none_fails a lives_a in
      let vb = AreEvents-none_fails b lives_b in (
        record {
          left_rows = SameBag-trans _ _ _ h.left_rows (SameBag-sym _ _ (opens_stay u t a low va none_a));
          right_rows = SameBag-trans _ _ _ h.right_rows (SameBag-sym _ _ (opens_stay u t b low vb none_b));
        },
        still_between u t (joined meets pair a b) low (joins_valid a b va vb) (λ v p q.
            SameBag-trans _ _ _ (opens_joined meets pair (suc v) a b) (SameBag-trans _ _ _
            (pairs_same meets pair _ _ _ _ (stay a v p q va none_a) (stay b v p q vb none_b)) (SameBag-sym _ _ (opens_joined meets pair v a b)))),
      )
    where
      stay : (c : List CellEvent) (v : ℕ) → u ≤ v → v < t → failing is_event c ≡ 0 → ((w : Edge → ℕ) → total w (news u t c) ≡ 0) → SameBag (opens (suc v) c) (opens v c)
      stay c v p q valid none = opens_stay v (suc v) c (omega arith) valid (λ x. let m = news_within x u v t c p q in let z = none x in omega (arith, m, z))
