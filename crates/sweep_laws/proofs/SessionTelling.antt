-- One instant of sessions, and the time between two.
use Rattle.std.specs.Prelude.{◌≡◌, ℕ, zero, suc, ◌-◌, not, ◌+◌, ◌<◌, ◌≤◌, Bool, true, false, cond, List, map, refl}
use Rattle.std.proofs.Common.{sym, ◌∙◌, subst, arith}
use Rattle.tw_rows.specs.Instant.{inf}
use Rattle.tw_rows.specs.Bag.{SameBag, total}
use Rattle.tw_rows.specs.declared.cells.Datum.{Datum}
use Rattle.tw_rows.specs.declared.edge.Edge.{Edge}
use Rattle.tw_rows.specs.declared.edge.HeldRow.{HeldRow}
use Rattle.tw_rows.proofs.Bags.{total-map, total-flat_map, total_same, total-add, total_zero, SameBag-trans, SameBag-sym}
use Rattle.edge_history.specs.Order.{failing}
use Rattle.edge_history.specs.History.{CellEvent}
use Rattle.edge_history.specs.Balance.{news}
use Rattle.edge_history.specs.Opens.{opens, started_of, started_rows, is_early, is_new}
use Rattle.edge_history.proofs.Sums.{sum_eq, failing-same}
use Rattle.edge_history.proofs.Telling.{is_event}
use Rattle.edge_history.proofs.Opening.{opens_early, starts_new, news_within}
use Rattle.key_nodes.specs.Runs.{Tells}
use Rattle.key_nodes.specs.Sessions.{key_starts, sessions}
use Rattle.sweep_laws.specs.Moves.{ending, starting, Adds, told_at}
use Rattle.sweep_laws.specs.Sessioning.{is_gap}
use Rattle.sweep_laws.proofs.Adding.{adds_weigh}
use Rattle.sweep_laws.proofs.RowsTold.{split_gap, end_early, begin_early, start_new, end_new}
use Rattle.sweep_laws.proofs.Moving.{moves_told, still_between}
use Rattle.sweep_laws.proofs.SessionSteps.{sessions_step}

module _ {K : Type 0} (key : List Datum → K) (same : K → K → Bool) (decides : Tells same) where
  -- rows1 once the sessions with a gap at t left, rows2 once the starts came
  module _ (timeout t : ℕ) (a : List CellEvent) (now : List Edge) (rows rows1 rows2 ended : List HeldRow) (answer0 answer1 answer2 : List Edge) (pos : 1 ≤ timeout) (low : t < inf)
      (valid : failing is_event a ≡ 0) (sound : failing is_event (sessions key same timeout a) ≡ 0) (is : SameBag now (news t (suc t) a)) (h : SameBag rows (opens t (sessions key same timeout a)))
      (split : (w : HeldRow → ℕ) → total w rows ≡ total w rows1 + total w ended)
      (gone : (w : HeldRow → ℕ) → total w ended ≡ total (λ r. cond (is_gap timeout (key_starts key same a (key r.cells)) t) (w r) 0) rows)
      (come : (w : HeldRow → ℕ) → total w rows2 ≡ total w rows1 + total w (started_rows now))
      (a1 : Adds answer0 answer1 (map (told_at false t) ended)) (a2 : Adds answer1 answer2 (map (told_at true t) (started_rows now))) where
    pub sessions_then : SameBag rows2 (opens (suc t) (sessions key same timeout a))
    sessions_then = record {
      weigh = λ w.
          let x = split w in
          let y = gone w in
          let z = come w in
          let s = sessions_step key same decides timeout t a w pos low valid in
          let v : HeldRow → ℕ = λ r. cond (is_gap timeout (key_starts key same a (key r.cells)) t) 0 (w r) in
          let p = h.weigh v in
          let q = total_same w (λ r. cond (is_gap timeout (key_starts key same a (key r.cells)) t) (w r) 0 + v r) rows (λ r. split_gap (is_gap timeout (key_starts key same a (key r.cells)) t) (w r)) in
          let u = total-add (λ r. cond (is_gap timeout (key_starts key same a (key r.cells)) t) (w r) 0) v rows in
          let e = total-flat_map w started_of now ∙ is.weigh (λ x. total w (started_of x)) ∙ sym (total-flat_map w started_of (news t (suc t) a)) in
          omega (arith, x, y, z, s, p, q, u, e);
    }

    early : failing (is_early t) rows ≡ 0
    early = failing-same (is_early t) rows (opens t (sessions key same timeout a)) h (opens_early t (sessions key same timeout a))

    early_ended : failing (is_early t) ended ≡ 0
    early_ended = let x = split (λ r. cond (is_early t r) 0 1) in let e = early in omega (arith, x, e)

    pub sessions_told : (w : Edge → ℕ) → total w answer2 ≡ total w answer0 + total w (news t (suc t) (sessions key same timeout a))
    sessions_told = moves_told t (sessions key same timeout a) rows rows2 answer0 answer2 sound h sessions_then (record {
      weigh = λ w.
          let e = ending t w in
          let s = starting t w in
          let p1 = split e in
          let p2 = split s in
          let q1 = come e in
          let q2 = come s in
          let b1 = adds_weigh w answer0 answer1 _ a1 in
          let b2 = adds_weigh w answer1 answer2 _ a2 in
          let m1 = total-map w (told_at false t) ended ∙ sum_eq (is_early t) _ e ended (λ r k. end_early w t r k) early_ended in
          let m2 = total-map w (told_at true t) (started_rows now) ∙ sum_eq (is_new t) _ s (started_rows now) (λ r k. start_new w t r k) (starts_new t a now is) in
          let z1 = sum_eq (is_early t) s (λ r. 0) rows (λ r k. begin_early w t r k) early ∙ total_zero rows in
          let z2 = sum_eq (is_new t) e (λ r. 0) (started_rows now) (λ r k. end_new w t r k) (starts_new t a now is) ∙ total_zero (started_rows now) in
          omega (arith, p1, p2, q1, q2, b1, b2, m1, m2, z1, z2);
    })

  -- between instants: with no start and no gap of a kept key the open rows stay, and nothing is told
  module _ (timeout u t : ℕ) (a : List CellEvent) (rows : List HeldRow) (pos : 1 ≤ timeout) (low : u ≤ t) (high : t ≤ inf) (valid : failing is_event a ≡ 0) (sound : failing is_event (sessions key same timeout a) ≡ 0)
      (none : (w : Edge → ℕ) → total w (news u t a) ≡ 0) (h : SameBag rows (opens u (sessions key same timeout a)))
      (quiet : (v : ℕ) → u ≤ v → v < t → failing (λ r. not (is_gap timeout (key_starts key same a (key r.cells)) v)) rows ≡ 0) where
    next : (v : ℕ) → u ≤ v → v < t → SameBag rows (opens v (sessions key same timeout a)) → SameBag rows (opens (suc v) (sessions key same timeout a))
    next v p q b = record {
      weigh = λ w.
          let g : HeldRow → ℕ = λ r. cond (is_gap timeout (key_starts key same a (key r.cells)) v) 0 (w r) in
          let s = sessions_step key same decides timeout v a w pos (omega (arith, q, high)) valid in
          let x = b.weigh g in
          let y = sum_eq (λ r. not (is_gap timeout (key_starts key same a (key r.cells)) v)) g w rows (λ r k. open_one (is_gap timeout (key_starts key same a (key r.cells)) v) (w r) k) (quiet v p q) in
          let z = total-flat_map w started_of (news v (suc v) a) in
          let m = news_within (λ e. total w (started_of e)) u v t a p q in
          let o = none (λ e. total w (started_of e)) in
          omega (arith, s, x, y, z, m, o);
    }
      where
        open_one : (c : Bool) (n : ℕ) → not c ≡ true → cond c 0 n ≡ n
        open_one true n k = absurd (cc)
        open_one false n k = refl

    stay : (k : ℕ) → u + k ≤ t → SameBag rows (opens (u + k) (sessions key same timeout a))
    stay zero l = subst (λ n. SameBag rows (opens n (sessions key same timeout a))) (let e : u ≡ u + zero = omega arith in e) h
    stay (suc k) l = subst (λ n. SameBag rows (opens n (sessions key same timeout a))) (let e : suc (u + k) ≡ u + suc k = omega arith in e) (next (u + k) (omega arith) (omega (arith, l)) (stay k (omega (arith, l))))

    stay_at : (v : ℕ) → u ≤ v → v ≤ t → SameBag rows (opens v (sessions key same timeout a))
    stay_at v p q = subst (λ n. SameBag rows (opens n (sessions key same timeout a))) (let e : u + (v - u) ≡ v = omega (arith, p) in e) (stay (v - u) (omega (arith, p, q)))

    pub sessions_between : SameBag rows (opens t (sessions key same timeout a)) × ((w : Edge → ℕ) → total w (news u t (sessions key same timeout a)) ≡ 0)
    sessions_between = (
      stay_at t low (omega arith),
      still_between u t (sessions key same timeout a) low sound (λ v p q. SameBag-trans _ _ _ (SameBag-sym _ _ (stay_at (suc v) (omega (arith, p)) q)) (stay_at v p (omega (arith, q)))),
    )
