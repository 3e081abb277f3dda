-- One instant of a clip, and the time between two.
use Rattle.std.specs.Prelude.{◌≡◌, ℕ, suc, ◌+◌, ◌*◌, ◌<◌, ◌≤◌, ◌&&◌, nat_eq, nat_lt, nat_le, Bool, true, false, cond, List, [], ◌∷◌, ◌++◌, length, get_or, take, map, refl}
use Rattle.std.proofs.Common.{sym, ◌∙◌, ap, arith}
use Rattle.std.proofs.lemmas.Bool.{and_parts, eqb-true}
use Rattle.std.proofs.lemmas.Bool.Decides.{nat_tests}
use Rattle.tw_rows.specs.Instant.{inf}
use Rattle.tw_rows.specs.Bag.{SameBag, total}
use Rattle.tw_rows.specs.SameCells.{same_cells, cells_are_same}
use Rattle.tw_rows.specs.declared.cells.Datum.{Datum}
use Rattle.tw_rows.specs.declared.edge.Edge.{Edge}
use Rattle.tw_rows.specs.declared.edge.HeldRow.{HeldRow}
use Rattle.tw_rows.proofs.Bags.{total-map, total-flat_map, total_same, total-add, total_zero, SameBag-refl, SameBag-trans, SameBag-sym}
use Rattle.tw_rows.proofs.Fronts.{total_part}
use Rattle.edge_history.specs.Order.{failing, many, is_end}
use Rattle.edge_history.specs.History.{CellEvent}
use Rattle.edge_history.specs.Balance.{news_of, news, start_edge, end_edge}
use Rattle.edge_history.specs.Opens.{opens, ended_of, started_of, ended_rows, started_rows, is_held, is_early, is_new}
use Rattle.edge_history.proofs.Sums.{sum_eq, sum_le, failing-same}
use Rattle.edge_history.proofs.Telling.{is_event}
use Rattle.edge_history.proofs.Opening.{opens_early, opens_stay, starts_new, ends_there, news_within}
use Rattle.key_nodes.specs.Clips.{clipped}
use Rattle.key_nodes.proofs.Bags.{any_by_weight}
use Rattle.sweep_laws.specs.Sweeps.{Tells}
use Rattle.sweep_laws.specs.Moves.{ending, starting, Adds, told_at}
use Rattle.sweep_laws.specs.Clipping.{starts_at, is_clipped}
use Rattle.sweep_laws.proofs.Ordering.{order_later}
use Rattle.sweep_laws.proofs.Adding.{adds_weigh, ended_itself}
use Rattle.sweep_laws.proofs.RowsTold.{split_gap, end_early, begin_early, start_new, end_new, ends_in_order, starts_in_order}
use Rattle.sweep_laws.proofs.Moving.{moves_told, still_between}
use Rattle.sweep_laws.proofs.ClipSteps.{clips_open, clips_step, later_one, both}

module _ (meets : List Datum → List Datum → Bool) where
  -- rows1 once the rows left that a right start meets
  module _ (t : ℕ) (a b : List CellEvent) (rows rows1 gone : List HeldRow) (h : SameBag rows (opens t (clipped meets a b)))
      (split1 : (w : HeldRow → ℕ) → total w rows ≡ total w rows1 + total w gone)
      (gone_is : (w : HeldRow → ℕ) → total w gone ≡ total (λ r. cond (starts_at meets b r.cells t) (w r) 0) rows) where
    not_met : (w : HeldRow → ℕ) → total w rows1 ≡ total (λ r. cond (starts_at meets b r.cells t) 0 (w r)) (opens t (clipped meets a b))
    not_met w =
        let u : HeldRow → ℕ = λ r. cond (starts_at meets b r.cells t) 0 (w r) in
        let x = split1 w in
        let y = gone_is w in
        let q = total_same w (λ r. cond (starts_at meets b r.cells t) (w r) 0 + u r) rows (λ r. split_gap (starts_at meets b r.cells t) (w r)) in
        let p = total-add (λ r. cond (starts_at meets b r.cells t) (w r) 0) u rows in
        let z = h.weigh u in
        omega (arith, x, y, q, p, z)

    pub unclipped : (w : HeldRow → ℕ) → total w rows1 ≡ total (λ r. cond (is_clipped meets b (suc t) r) 0 (w r)) (opens t a)
    unclipped w =
        let v : HeldRow → ℕ = λ r. cond (is_clipped meets b (suc t) r) 0 (w r) in
        let u : HeldRow → ℕ = λ r. cond (starts_at meets b r.cells t) 0 (w r) in
        let x = not_met w in
        let y = clips_open meets u t a b in
        let z = sum_eq (is_early t) v (λ r. cond (is_clipped meets b t r) 0 (u r)) (opens t a)
        (λ r k. ap (λ c. cond {A = ℕ} c 0 (w r)) (later_one meets b t r k) ∙ both meets (is_clipped meets b t r) (starts_at meets b r.cells t) (w r)) (opens_early t a) in
        omega (arith, x, y, z)

    -- a row of the same cells and start is clipped, too
    alike : (cells : List Datum) (start : ℕ) (r : HeldRow) → is_held cells start r ≡ true → is_clipped meets b (suc t) r ≡ is_clipped meets b (suc t) (record { cells = cells; start = start })
    alike cells start r k =
        let p = and_parts (nat_eq r.start start) (same_cells r.cells cells) k in
        let n = eqb-true r.start start p.0 in
        let e = cells_are_same r.cells cells p.1 in
        ap (λ l. is_clipped meets b (suc t) (record { cells = l; start = r.start })) e ∙ ap (λ m. is_clipped meets b (suc t) (record { cells = cells; start = m })) n

    -- an end finds its row exactly where it is not clipped
    module _ (now : List Edge) (i : ℕ) (x : Edge) (mid : List HeldRow) (valid : failing is_event a ≡ 0) (is : SameBag now (news t (suc t) a)) (low : i < length now) (at : x ≡ get_or now i x) (end : is_end x ≡ true)
        (left : (w : HeldRow → ℕ) → total w rows1 ≡ total w mid + total (λ r. cond (is_clipped meets b (suc t) r) 0 (w r)) (ended_rows (take i now))) where
      named : HeldRow → ℕ
      named = λ r. cond (is_held x.cells x.other r) 1 0

      by_clip : (c : Bool) → is_clipped meets b (suc t) (record { cells = x.cells; start = x.other }) ≡ c → (r : HeldRow) →
          cond {A = ℕ} (is_clipped meets b (suc t) r) 0 (cond (is_held x.cells x.other r) 1 0) ≡ cond c 0 (cond (is_held x.cells x.other r) 1 0)
      by_clip c e r = pick (is_held x.cells x.other r) refl
        where
          zero_either : (p q : Bool) → cond {A = ℕ} p 0 0 ≡ cond q 0 0
          zero_either p q = grind arith

          pick : (k : Bool) → is_held x.cells x.other r ≡ k → cond {A = ℕ} (is_clipped meets b (suc t) r) 0 (cond k 1 0) ≡ cond c 0 (cond k 1 0)
          pick true k = ap (λ p. cond {A = ℕ} p 0 1) (alike x.cells x.other r k ∙ e)
          pick false k = zero_either (is_clipped meets b (suc t) r) c

      pub clipped_is_gone : is_clipped meets b (suc t) (record { cells = x.cells; start = x.other }) ≡ true → many (is_held x.cells x.other) mid ≡ 0
      clipped_is_gone e =
          let d : HeldRow → ℕ = λ r. cond (is_held x.cells x.other r) 1 0 in
          let l = left d in
          let u = unclipped d in
          let z = total_same (λ r. cond (is_clipped meets b (suc t) r) 0 (d r)) (λ r. 0) (opens t a) (λ r. by_clip true e r) ∙ total_zero (opens t a) in
          omega (arith, l, u, z)

      pub unclipped_is_held : is_clipped meets b (suc t) (record { cells = x.cells; start = x.other }) ≡ false → 1 ≤ many (is_held x.cells x.other) mid
      unclipped_is_held e =
          let d : HeldRow → ℕ = λ r. cond (is_held x.cells x.other r) 1 0 in
          let l = left d in
          let u = unclipped d in
          let z = total_same (λ r. cond (is_clipped meets b (suc t) r) 0 (d r)) d (opens t a) (λ r. by_clip false e r) in
          let y = total_same (λ r. cond (is_clipped meets b (suc t) r) 0 (d r)) d (ended_rows (take i now)) (λ r. by_clip false e r) in
          let f = ends_there a t now (opens t a) valid is (SameBag-refl _) d in
          let p = total_part (λ q. total d (ended_of q)) now i x low in
          let g = ap (λ q. total d (ended_of q)) at in
          let o = ended_itself x end in
          let e1 = total-flat_map d ended_of now in
          let e2 = total-flat_map d ended_of (take i now) in
          omega (arith, l, u, z, y, f, p, g, o, e1, e2)

    -- rows2 once the ends left that are not clipped, rows3 once the starts came
    module _ (now : List Edge) (rows2 rows3 ended : List HeldRow) (answer0 answer1 answer2 answer3 : List Edge) (low : t < inf) (valid : failing is_event a ≡ 0)
        (sound : failing is_event (clipped meets a b) ≡ 0) (is : SameBag now (news t (suc t) a))
        (split2 : (w : HeldRow → ℕ) → total w rows1 ≡ total w rows2 + total w ended)
        (ended_is : (w : HeldRow → ℕ) → total w ended ≡ total (λ r. cond (is_clipped meets b (suc t) r) 0 (w r)) (ended_rows now))
        (come : (w : HeldRow → ℕ) → total w rows3 ≡ total w rows2 + total w (started_rows now))
        (a1 : Adds answer0 answer1 (map (told_at false t) gone)) (a2 : Adds answer1 answer2 (map (told_at false t) ended)) (a3 : Adds answer2 answer3 (map (told_at true t) (started_rows now))) where
      pub clips_then : SameBag rows3 (opens (suc t) (clipped meets a b))
      clips_then = record {
        weigh = λ w.
            let v : HeldRow → ℕ = λ r. cond (is_clipped meets b (suc t) r) 0 (w r) in
            let x = not_met w in
            let y = split2 w in
            let e = ended_is w in
            let z = come w in
            let s = clips_step meets w t a b valid in
            let m = total-flat_map v ended_of now ∙ is.weigh (λ q. total v (ended_of q)) ∙ sym (total-flat_map v ended_of (news t (suc t) a)) in
            let n = total-flat_map w started_of now ∙ is.weigh (λ q. total w (started_of q)) ∙ sym (total-flat_map w started_of (news t (suc t) a)) in
            omega (arith, x, y, e, z, s, m, n);
      }

      early : failing (is_early t) rows ≡ 0
      early = failing-same (is_early t) rows (opens t (clipped meets a b)) h (opens_early t (clipped meets a b))

      early_gone : failing (is_early t) gone ≡ 0
      early_gone = let x = split1 (λ r. cond (is_early t r) 0 1) in let e = early in omega (arith, x, e)

      early_ended : failing (is_early t) ended ≡ 0
      early_ended = let x = split1 (λ r. cond (is_early t r) 0 1) in let y = split2 (λ r. cond (is_early t r) 0 1) in let e = early in omega (arith, x, y, e)

      pub clips_told : Tells (clipped meets a b) t (suc t) answer0 answer3
      clips_told = record {
        weigh = moves_told t (clipped meets a b) rows rows3 answer0 answer3 sound h clips_then (record {
          weigh = λ w.
              let e = ending t w in
              let s = starting t w in
              let p1 = split1 e in
              let p2 = split1 s in
              let q1 = split2 e in
              let q2 = split2 s in
              let r1 = come e in
              let r2 = come s in
              let b1 = adds_weigh w answer0 answer1 _ a1 in
              let b2 = adds_weigh w answer1 answer2 _ a2 in
              let b3 = adds_weigh w answer2 answer3 _ a3 in
              let m1 = total-map w (told_at false t) gone ∙ sum_eq (is_early t) _ e gone (λ r k. end_early w t r k) early_gone in
              let m2 = total-map w (told_at false t) ended ∙ sum_eq (is_early t) _ e ended (λ r k. end_early w t r k) early_ended in
              let m3 = total-map w (told_at true t) (started_rows now) ∙ sum_eq (is_new t) _ s (started_rows now) (λ r k. start_new w t r k) (starts_new t a now is) in
              let z1 = sum_eq (is_early t) s (λ r. 0) rows (λ r k. begin_early w t r k) early ∙ total_zero rows in
              let z2 = sum_eq (is_new t) e (λ r. 0) (started_rows now) (λ r k. end_new w t r k) (starts_new t a now is) ∙ total_zero (started_rows now) in
              omega (arith, p1, p2, q1, q2, r1, r2, b1, b2, b3, m1, m2, m3, z1, z2);
        });
        order = λ up.
            let u1 = ends_in_order t gone answer0 answer1 a1 early_gone up in
            let u2 = ends_in_order t ended answer1 answer2 a2 early_ended u1 in
            let u3 = starts_in_order t (started_rows now) answer2 answer3 low a3 (order_later (2 * t) (suc (2 * t)) answer2 (omega arith) u2) in
            order_later (suc (2 * t)) (2 * suc t) answer3 (omega arith) u3;
      }

  -- between instants: where neither side has news the open rows stay, and nothing is told
  start_one : (l : List Datum) (v : ℕ) (e : CellEvent) → is_event e ≡ true →
      cond {A = ℕ} (meets l e.row && nat_eq e.start v) 1 0 ≤ total (λ (x : Edge). cond (meets l x.cells) 1 0) (news_of v (suc v) e)
  start_one l v e k = parts (nat_le v e.start && nat_lt e.start (suc v)) (nat_le v e.end && nat_lt e.end (suc v)) (meets l e.row) (nat_eq e.start v) refl (at e.start v)
    where
      at : (s v : ℕ) → nat_eq s v ≡ true → (nat_le v s && nat_lt s (suc v)) ≡ true
      at s v h = grind (arith, nat_tests)

      parts : (p q m s : Bool) → meets l e.row ≡ m → (s ≡ true → p ≡ true) →
          cond {A = ℕ} (m && s) 1 0 ≤ total (λ (x : Edge). cond (meets l x.cells) 1 0) (cond p (start_edge e ∷ []) [] ++ cond q (end_edge e ∷ []) [])
      parts p q false s h g = omega arith
      parts p q true false h g = omega arith
      parts true true true true h g = rw h (omega arith)
      parts true false true true h g = rw h (omega arith)
      parts false q true true h g = absurd (let z = g refl in cc)

  no_start : (l : List Datum) (v : ℕ) (b : List CellEvent) → failing is_event b ≡ 0 → ((w : Edge → ℕ) → total w (news v (suc v) b) ≡ 0) → starts_at meets b l v ≡ false
  no_start l v b valid none =
      let W : Edge → ℕ = λ x. cond (meets l x.cells) 1 0 in
      let s = sum_le is_event (λ e. cond (meets l e.row && nat_eq e.start v) 1 0) (λ e. total W (news_of v (suc v) e)) b (λ e k. start_one l v e k) valid in
      let f = total-flat_map W (news_of v (suc v)) b in
      let z = none W in
      any_by_weight (λ e. meets l e.row && nat_eq e.start v) b ∙ zero (total (λ (e : CellEvent). cond (meets l e.row && nat_eq e.start v) 1 0) b) (omega (arith, s, f, z))
    where
      zero : (n : ℕ) → n ≡ 0 → nat_lt 0 n ≡ false
      zero n e = grind (arith, nat_tests)

  pub clips_between : (u t : ℕ) (a b : List CellEvent) (rows : List HeldRow) → u ≤ t → failing is_event a ≡ 0 → failing is_event b ≡ 0 → failing is_event (clipped meets a b) ≡ 0 →
      ((w : Edge → ℕ) → total w (news u t a) ≡ 0) → ((w : Edge → ℕ) → total w (news u t b) ≡ 0) → SameBag rows (opens u (clipped meets a b)) →
      SameBag rows (opens t (clipped meets a b)) × ((w : Edge → ℕ) → total w (news u t (clipped meets a b)) ≡ 0)
  clips_between u t a b rows low va vb sound none_a none_b h =
      let none : (w : Edge → ℕ) → total w (news u t (clipped meets a b)) ≡ 0 = still_between u t (clipped meets a b) low sound (λ v p q. stays v p q) in
      (SameBag-trans _ _ _ h (SameBag-sym _ _ (opens_stay u t (clipped meets a b) low sound none)), none)
    where
      stays : (v : ℕ) → u ≤ v → v < t → SameBag (opens (suc v) (clipped meets a b)) (opens v (clipped meets a b))
      stays v p q = record {
        weigh = λ w.
            let s = clips_step meets w v a b va in
            let g : HeldRow → ℕ = λ r. cond (is_clipped meets b (suc v) r) 0 (w r) in
            let e1 = total-flat_map g ended_of (news v (suc v) a) in
            let e2 = within a none_a v p q (λ x. total g (ended_of x)) in
            let s1 = total-flat_map w started_of (news v (suc v) a) in
            let s2 = within a none_a v p q (λ x. total w (started_of x)) in
            let z = total_same (λ r. cond (starts_at meets b r.cells v) 0 (w r)) w (opens v (clipped meets a b)) (λ r. ap (λ c. cond {A = ℕ} c 0 (w r)) (no_start r.cells v b vb (within b none_b v p q))) in
            omega (arith, s, e1, e2, s1, s2, z);
      }
        where
          within : (c : List CellEvent) → ((w : Edge → ℕ) → total w (news u t c) ≡ 0) → (v : ℕ) → u ≤ v → v < t → (w : Edge → ℕ) → total w (news v (suc v) c) ≡ 0
          within c none v p q w = let m = news_within w u v t c p q in let z = none w in omega (arith, m, z)
