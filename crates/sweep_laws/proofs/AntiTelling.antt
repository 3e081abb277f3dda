-- One instant of an anti-join with its kept rows, and the time between two.
use Rattle.std.specs.Prelude.{◌≡◌, ◌⊎◌, ℕ, zero, suc, ◌+◌, ◌-◌, ◌*◌, ◌<◌, ◌≤◌, max, nat_eq, not, Bool, true, false, cond, Option, Some, None, is_some, List, [], flat_map, refl}
use Rattle.std.proofs.Common.{inl, inr, sym, ◌∙◌, ap, subst, arith}
use Rattle.std.proofs.lemmas.Bool.Decides.{nat_tests}
use Rattle.tw_rows.specs.Instant.{inf}
use Rattle.tw_rows.specs.Bag.{SameBag, total}
use Rattle.tw_rows.specs.Event.{alive}
use Rattle.tw_rows.specs.SameCells.{same_cells}
use Rattle.tw_rows.specs.declared.cells.Datum.{Datum}
use Rattle.tw_rows.specs.declared.edge.Edge.{Edge}
use Rattle.tw_rows.specs.declared.edge.HeldRow.{HeldRow}
use Rattle.tw_rows.proofs.Bags.{total-flat_map, total_same, total-add, total_zero, SameBag-trans, SameBag-sym, SameBag-map}
use Rattle.edge_history.specs.Order.{failing, rank}
use Rattle.edge_history.specs.History.{CellEvent}
use Rattle.edge_history.specs.Balance.{news}
use Rattle.edge_history.specs.Opens.{opens, ended_of, started_of, ended_rows, started_rows, bare, is_early}
use Rattle.edge_history.proofs.Sums.{sum_eq, failing-same}
use Rattle.edge_history.proofs.Telling.{is_event}
use Rattle.edge_history.proofs.Opening.{alive_is_open, opens_stay, opens_early, rows_after, ends_there, news_within, news_part}
use Rattle.key_nodes.specs.Antis.{alone_at, alone, meets_none}
use Rattle.key_nodes.proofs.Bags.{any_of_same}
use Rattle.sweep_laws.specs.Sweeps.{Tells}
use Rattle.sweep_laws.specs.Moves.{Adds}
use Rattle.sweep_laws.specs.Running.{open_at}
use Rattle.sweep_laws.specs.Antijoining.{is_free, judged, IsSince, IsAgo, Judging, run_of, end_of, start_at, stays_of, flip_of, flip_end, flip_start, begin_of}
use Rattle.sweep_laws.proofs.Ordering.{order_later, adds_order}
use Rattle.sweep_laws.proofs.Adding.{adds_weigh}
use Rattle.sweep_laws.proofs.Moving.{news_still}
use Rattle.sweep_laws.proofs.AntiSteps.{anti_one, stays_are, anti_rows}

since_ago : (t : ℕ) (st : Option ℕ) → IsAgo t st → IsSince t st
since_ago t None h = tt
since_ago t (Some s) (inl h) = omega (arith, h)
since_ago t (Some s) (inr h) = omega (arith, h)

ago_later : (t u : ℕ) (st : Option ℕ) → t ≤ u → IsAgo t st → IsAgo u st
ago_later t u None low h = tt
ago_later t u (Some s) low (inl h) = inl (omega (arith, h, low))
ago_later t u (Some s) low (inr h) = inr h

ago_judged : (t : ℕ) (f : Bool) (st : Option ℕ) → IsAgo t st → IsAgo (suc t) (judged f t st)
ago_judged t true None h = inl (omega arith)
ago_judged t true (Some s) h = ago_later t (suc t) (Some s) (omega arith) h
ago_judged t false st h = tt

judged_some : (t : ℕ) (f : Bool) (st : Option ℕ) → is_some (judged f t st) ≡ f
judged_some t true None = refl
judged_some t true (Some s) = refl
judged_some t false st = refl

judged_same : (t : ℕ) (f : Bool) (st : Option ℕ) → f ≡ is_some st → judged f t st ≡ st
judged_same t true None h = absurd (cc)
judged_same t true (Some s) h = refl
judged_same t false None h = refl
judged_same t false (Some s) h = absurd (cc)

no_flip : (t : ℕ) (f : Bool) (st : Option ℕ) (r : HeldRow) → f ≡ is_some st → flip_of f st t r ≡ []
no_flip t true None r h = absurd (cc)
no_flip t true (Some s) r h = refl
no_flip t false None r h = refl
no_flip t false (Some s) r h = absurd (cc)

flip_parts : (w : Edge → ℕ) (t : ℕ) (f : Bool) (st : Option ℕ) (r : HeldRow) → total w (flip_of f st t r) ≡ total w (flip_end f st t r) + total w (flip_start f st t r)
flip_parts w t true st r = omega arith
flip_parts w t false st r = omega arith

-- ranks
end_rank_one : (t s start : ℕ) (cells : List Datum) → start < t → s < t → nat_eq (rank (record { sync = t; other = max start s; cells = cells })) (2 * t) ≡ true
end_rank_one t s start cells a b = grind (arith, nat_tests)

start_rank_one : (t : ℕ) (cells : List Datum) → t < inf → nat_eq (rank (record { sync = t; other = inf; cells = cells })) (suc (2 * t)) ≡ true
start_rank_one t cells low = grind (arith, nat_tests)

early_is : (t : ℕ) (r : HeldRow) → is_early t r ≡ true → r.start < t
unfolding is_early
early_is t r h = grind (arith, nat_tests)

end_ranks : (t : ℕ) (st : Option ℕ) (r : HeldRow) → IsAgo t st → is_early t r ≡ true → failing (λ e. nat_eq (rank e) (2 * t)) (end_of st t r) ≡ 0
end_ranks t None r h k = refl
end_ranks t (Some s) r h k = ap (λ b. cond {A = ℕ} b 0 1 + 0) (end_rank_one t s r.start r.cells (early_is t r k) (low h (early_is t r k)))
  where
    low : (s < t) ⊎ (s ≡ 0) → r.start < t → s < t
    low (inl p) q = p
    low (inr p) q = omega (arith, p, q)

start_ranks : (t : ℕ) (st : Option ℕ) (r : HeldRow) → t < inf → failing (λ e. nat_eq (rank e) (suc (2 * t))) (start_at st t r) ≡ 0
start_ranks t None r low = ap (λ b. cond {A = ℕ} b 0 1 + 0) (start_rank_one t r.cells low)
start_ranks t (Some s) r low = refl

begin_ranks : (t : ℕ) (f : Bool) (r : HeldRow) → t < inf → failing (λ e. nat_eq (rank e) (suc (2 * t))) (begin_of f t r) ≡ 0
begin_ranks t true r low = ap (λ b. cond {A = ℕ} b 0 1 + 0) (start_rank_one t r.cells low)
begin_ranks t false r low = refl

flip_end_ranks : (t : ℕ) (f : Bool) (st : Option ℕ) (r : HeldRow) → IsAgo t st → is_early t r ≡ true → failing (λ e. nat_eq (rank e) (2 * t)) (flip_end f st t r) ≡ 0
flip_end_ranks t true st r h k = refl
flip_end_ranks t false st r h k = end_ranks t st r h k

flip_start_ranks : (t : ℕ) (f : Bool) (st : Option ℕ) (r : HeldRow) → t < inf → failing (λ e. nat_eq (rank e) (suc (2 * t))) (flip_start f st t r) ≡ 0
flip_start_ranks t true st r low = start_ranks t st r low
flip_start_ranks t false st r low = refl

module _ {K : Type 0} (key : List Datum → K) (meets : List Datum → List Datum → Bool) where
  -- whether a row is free, by the kept right rows
  free_by_rows : (b : List CellEvent) (t : ℕ) (right : List HeldRow) (row : List Datum) → SameBag right (opens (suc t) b) → is_free meets b t row ≡ meets_none meets (bare right) row
  free_by_rows b t right row h =
      ap not (any_of_same (meets row) (alive b t) (bare right) (SameBag-trans _ _ _ (alive_is_open t b) (SameBag-map (λ r. r.cells) _ _ (SameBag-sym _ _ h))))

  module _ (a b : List CellEvent) (t : ℕ) (now_left now_right : List Edge) (left stay left2 right right2 : List HeldRow) (status : K → Option ℕ) (free : K → Bool)
      (answer0 answer1 answer2 answer3 answer4 : List Edge) (low : t < inf) (valid_a : failing is_event a ≡ 0) (valid_b : failing is_event b ≡ 0)
      (is_left : SameBag now_left (news t (suc t) a)) (is_right : SameBag now_right (news t (suc t) b)) (h : Judging key meets a b t left right status)
      (l1 : ((w : HeldRow → ℕ) → total w (ended_rows now_left) ≤ total w left) → (w : HeldRow → ℕ) → total w left ≡ total w stay + total w (ended_rows now_left))
      (l2 : (w : HeldRow → ℕ) → total w left2 ≡ total w stay + total w (started_rows now_left))
      (r2 : ((w : HeldRow → ℕ) → total w (ended_rows now_right) ≤ total w right) → (w : HeldRow → ℕ) → total w right2 + total w (ended_rows now_right) ≡ total w right + total w (started_rows now_right))
      (frees : (row : List Datum) → meets_none meets (bare right2) row ≡ free (key row))
      (a1 : Adds answer0 answer1 (flat_map (λ r. end_of (status (key r.cells)) t r) (ended_rows now_left)))
      (a2 : Adds answer1 answer2 (flat_map (λ r. flip_end (free (key r.cells)) (status (key r.cells)) t r) stay))
      (a3 : Adds answer2 answer3 (flat_map (λ r. flip_start (free (key r.cells)) (status (key r.cells)) t r) stay))
      (a4 : Adds answer3 answer4 (flat_map (λ r. begin_of (free (key r.cells)) t r) (started_rows now_left))) where
    fit_left : (w : HeldRow → ℕ) → total w (ended_rows now_left) ≤ total w left
    fit_left = ends_there a t now_left left valid_a is_left h.left_rows

    split : (w : HeldRow → ℕ) → total w left ≡ total w stay + total w (ended_rows now_left)
    split = l1 fit_left

    right_then : SameBag right2 (opens (suc t) b)
    right_then = rows_after b t now_right right right2 valid_b is_right h.right_rows (r2 (ends_there b t now_right right valid_b is_right h.right_rows))

    free_is : (e : CellEvent) → is_free meets b t e.row ≡ free (key e.row)
    free_is e = free_by_rows b t right2 e.row right_then ∙ frees e.row

    pub anti_then : Judging key meets a b (suc t) left2 right2 (λ k. judged (free k) t (status k))
    anti_then = record {
      left_rows = rows_after a t now_left left left2 valid_a is_left h.left_rows (λ w. let x = split w in let y = l2 w in omega (arith, x, y));
      right_rows = right_then;
      since = λ k. ago_judged t (free k) (status k) (h.since k);
      steady = λ row. frees row ∙ sym (judged_some t (free (key row)) (status (key row)));
      runs = λ e.
          let g = (anti_one meets (λ x. 0) b e t (status (key e.row)) low (since_ago t (status (key e.row)) (h.since (key e.row))) (h.runs e)).1 in
          g ∙ ap (λ f. run_of (judged f t (status (key e.row))) (suc t) e) (free_is e);
    }

    early : failing (is_early t) left ≡ 0
    early = failing-same (is_early t) left (opens t a) h.left_rows (opens_early t a)

    early_stay : failing (is_early t) stay ≡ 0
    early_stay = let x = split (λ r. cond (is_early t r) 0 1) in let e = early in omega (arith, x, e)

    early_ended : failing (is_early t) (ended_rows now_left) ≡ 0
    early_ended = let x = split (λ r. cond (is_early t r) 0 1) in let e = early in omega (arith, x, e)

    pub anti_told_then : Tells (alone same_cells meets a b) t (suc t) answer0 answer4
    anti_told_then = record {
      weigh = λ w.
          let E : HeldRow → ℕ = λ r. total w (end_of (status (key r.cells)) t r) in
          let F : HeldRow → ℕ = λ r. total w (flip_of (free (key r.cells)) (status (key r.cells)) t r) in
          let F1 : HeldRow → ℕ = λ r. total w (flip_end (free (key r.cells)) (status (key r.cells)) t r) in
          let F2 : HeldRow → ℕ = λ r. total w (flip_start (free (key r.cells)) (status (key r.cells)) t r) in
          let B : HeldRow → ℕ = λ r. total w (begin_of (free (key r.cells)) t r) in
          let n = anti_rows key meets a b t status free low valid_a (λ k. since_ago t (status k) (h.since k)) free_is h.runs w in
          let b1 = adds_weigh w answer0 answer1 _ a1 in
          let b2 = adds_weigh w answer1 answer2 _ a2 in
          let b3 = adds_weigh w answer2 answer3 _ a3 in
          let b4 = adds_weigh w answer3 answer4 _ a4 in
          let f1 = total-flat_map w (λ (r : HeldRow). end_of (status (key r.cells)) t r) (ended_rows now_left) in
          let f2 = total-flat_map w (λ (r : HeldRow). flip_end (free (key r.cells)) (status (key r.cells)) t r) stay in
          let f3 = total-flat_map w (λ (r : HeldRow). flip_start (free (key r.cells)) (status (key r.cells)) t r) stay in
          let f4 = total-flat_map w (λ (r : HeldRow). begin_of (free (key r.cells)) t r) (started_rows now_left) in
          let e = total-flat_map E ended_of now_left ∙ is_left.weigh (λ x. total E (ended_of x)) ∙ sym (total-flat_map E ended_of (news t (suc t) a)) in
          let s = total-flat_map B started_of now_left ∙ is_left.weigh (λ x. total B (started_of x)) ∙ sym (total-flat_map B started_of (news t (suc t) a)) in
          let y = (stays_are t a left stay now_left valid_a is_left h.left_rows split).weigh F in
          let p = total_same F (λ r. F1 r + F2 r) stay (λ r. flip_parts w t (free (key r.cells)) (status (key r.cells)) r) in
          let q = total-add F1 F2 stay in
          omega (arith, n, b1, b2, b3, b4, f1, f2, f3, f4, e, s, y, p, q);
      order = λ up.
          let D : Edge → ℕ = λ x. cond (nat_eq (rank x) (2 * t)) 0 1 in
          let S : Edge → ℕ = λ x. cond (nat_eq (rank x) (suc (2 * t))) 0 1 in
          let k1 = total-flat_map D (λ (r : HeldRow). end_of (status (key r.cells)) t r) (ended_rows now_left) ∙ sum_eq (is_early t) _ (λ r. 0) (ended_rows now_left) (λ r k. end_ranks t (status (key r.cells)) r (h.since (key r.cells)) k) early_ended ∙ total_zero (ended_rows now_left) in
          let k2 = total-flat_map D (λ (r : HeldRow). flip_end (free (key r.cells)) (status (key r.cells)) t r) stay ∙ sum_eq (is_early t) _ (λ r. 0) stay (λ r k. flip_end_ranks t (free (key r.cells)) (status (key r.cells)) r (h.since (key r.cells)) k) early_stay ∙ total_zero stay in
          let k3 = total-flat_map S (λ (r : HeldRow). flip_start (free (key r.cells)) (status (key r.cells)) t r) stay ∙ total_same _ (λ r. 0) stay (λ r. flip_start_ranks t (free (key r.cells)) (status (key r.cells)) r low) ∙ total_zero stay in
          let k4 = total-flat_map S (λ (r : HeldRow). begin_of (free (key r.cells)) t r) (started_rows now_left) ∙ total_same _ (λ r. 0) (started_rows now_left) (λ r. begin_ranks t (free (key r.cells)) r low) ∙ total_zero (started_rows now_left) in
          let u1 = adds_order (2 * t) answer0 answer1 _ a1 k1 up in
          let u2 = adds_order (2 * t) answer1 answer2 _ a2 k2 u1 in
          let u3 = adds_order (suc (2 * t)) answer2 answer3 _ a3 k3 (order_later (2 * t) (suc (2 * t)) answer2 (omega arith) u2) in
          let u4 = adds_order (suc (2 * t)) answer3 answer4 _ a4 k4 u3 in
          order_later (suc (2 * t)) (2 * suc t) answer4 (omega arith) u4;
    }

  -- between instants
  module _ (a b : List CellEvent) (u t : ℕ) (left right : List HeldRow) (status : K → Option ℕ) (low : u ≤ t) (high : t ≤ inf) (valid_a : failing is_event a ≡ 0) (valid_b : failing is_event b ≡ 0)
      (none_a : (w : Edge → ℕ) → total w (news u t a) ≡ 0) (none_b : (w : Edge → ℕ) → total w (news u t b) ≡ 0) (h : Judging key meets a b u left right status) where
    steady_at : (v : ℕ) → u ≤ v → v < t → (row : List Datum) → is_free meets b v row ≡ is_some (status (key row))
    steady_at v p q row =
        free_by_rows b v right row (SameBag-trans _ _ _ h.right_rows (SameBag-sym _ _ (opens_stay u (suc v) b (omega arith) valid_b
        (λ x. let m = news_part x u (suc v) t b (omega arith) (omega arith) in let z = none_b x in omega (arith, m, z))))) ∙ h.steady row

    since_at : (v : ℕ) → u ≤ v → (k : K) → IsSince v (status k)
    since_at v p k = since_ago v (status k) (ago_later u v (status k) p (h.since k))

    run_next : (v : ℕ) → u ≤ v → v < t → (e : CellEvent) → open_at (alone_at meets b e) v ≡ run_of (status (key e.row)) v e → open_at (alone_at meets b e) (suc v) ≡ run_of (status (key e.row)) (suc v) e
    run_next v p q e k =
        (anti_one meets (λ x. 0) b e v (status (key e.row)) (omega (arith, q, high)) (since_at v p (key e.row)) k).1
        ∙ ap (λ s. run_of s (suc v) e) (judged_same v (is_free meets b v e.row) (status (key e.row)) (steady_at v p q e.row))

    run_by : (k : ℕ) → u + k ≤ t → (e : CellEvent) → open_at (alone_at meets b e) (u + k) ≡ run_of (status (key e.row)) (u + k) e
    run_by zero l e = subst (λ n. open_at (alone_at meets b e) n ≡ run_of (status (key e.row)) n e) (let z : u ≡ u + zero = omega arith in z) (h.runs e)
    run_by (suc k) l e = subst (λ n. open_at (alone_at meets b e) n ≡ run_of (status (key e.row)) n e) (let z : suc (u + k) ≡ u + suc k = omega arith in z) (run_next (u + k) (omega arith) (omega (arith, l)) e (run_by k (omega (arith, l)) e))

    run_at : (v : ℕ) → u ≤ v → v ≤ t → (e : CellEvent) → open_at (alone_at meets b e) v ≡ run_of (status (key e.row)) v e
    run_at v p q e = subst (λ n. open_at (alone_at meets b e) n ≡ run_of (status (key e.row)) n e) (let z : u + (v - u) ≡ v = omega (arith, p) in z) (run_by (v - u) (omega (arith, p, q)) e)

    none_at : (v : ℕ) → u ≤ v → v < t → (w : Edge → ℕ) → total w (news v (suc v) (alone same_cells meets a b)) ≡ 0
    none_at v p q w =
        let free : K → Bool = λ k. is_some (status k) in
        let E : HeldRow → ℕ = λ r. total w (end_of (status (key r.cells)) v r) in
        let F : HeldRow → ℕ = λ r. total w (flip_of (is_some (status (key r.cells))) (status (key r.cells)) v r) in
        let B : HeldRow → ℕ = λ r. total w (begin_of (is_some (status (key r.cells))) v r) in
        let n = anti_rows key meets a b v status (λ k. is_some (status k)) (omega (arith, q, high)) valid_a (since_at v p) (λ e. steady_at v p q e.row) (run_at v p (omega (arith, q))) w in
        let e1 = total-flat_map E ended_of (news v (suc v) a) in
        let e2 = within (λ x. total E (ended_of x)) in
        let b1 = total-flat_map B started_of (news v (suc v) a) in
        let b2 = within (λ x. total B (started_of x)) in
        let z = total_same F (λ r. 0) (flat_map (stays_of v) a) (λ r. ap (total w) (no_flip v (is_some (status (key r.cells))) (status (key r.cells)) r refl)) ∙ total_zero (flat_map (stays_of v) a) in
        omega (arith, n, e1, e2, b1, b2, z)
      where
        within : (x : Edge → ℕ) → total x (news v (suc v) a) ≡ 0
        within x = let m = news_within x u v t a p q in let z = none_a x in omega (arith, m, z)

    pub anti_between : Judging key meets a b t left right status × ((w : Edge → ℕ) → total w (news u t (alone same_cells meets a b)) ≡ 0)
    anti_between = (
      record {
        left_rows = SameBag-trans _ _ _ h.left_rows (SameBag-sym _ _ (opens_stay u t a low valid_a none_a));
        right_rows = SameBag-trans _ _ _ h.right_rows (SameBag-sym _ _ (opens_stay u t b low valid_b none_b));
        since = λ k. ago_later u t (status k) low (h.since k);
        steady = h.steady;
        runs = run_at t low (omega arith);
      },
      news_still u t (alone same_cells meets a b) low none_at,
    )
