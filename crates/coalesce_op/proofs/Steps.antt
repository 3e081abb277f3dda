-- A Coalesce from instant to instant, and what new edges leave of what is kept.
use Rattle.std.specs.Prelude.{◌≡◌, ℕ, zero, suc, ◌+◌, ◌-◌, ◌<◌, ◌≤◌, ◌*◌, nat_eq, nat_le, cond, List, [], ◌∷◌, ◌++◌, take, drop, replicate, refl}
use Rattle.std.proofs.Common.{inl, inr, sym, ◌∙◌, ap, subst, arith}
use Rattle.std.proofs.lemmas.Bool.Decides.{nat_tests}
use Rattle.std.proofs.lemmas.List.{append-nil, take-append-drop}
use Rattle.std.proofs.lemmas.Grind.{flat_map-append}
use Rattle.tw_rows.specs.Instant.{inf}
use Rattle.tw_rows.specs.Bag.{SameBag, total}
use Rattle.tw_rows.specs.Event.{alive, cut, AreEvents}
use Rattle.tw_rows.specs.SameCells.{same_cells}
use Rattle.tw_rows.specs.declared.edge.Edge.{Edge}
use Rattle.tw_rows.specs.declared.edge.HeldRow.{HeldRow}
use Rattle.tw_rows.proofs.Bags.{total-append}
use Rattle.tw_rows.proofs.Lives.{alive_known}
use Rattle.edge_history.specs.Order.{failing, rank, Rises, is_from}
use Rattle.edge_history.specs.History.{CellEvent}
use Rattle.edge_history.specs.Balance.{news}
use Rattle.edge_history.specs.Opens.{bare, started_of, started_rows}
use Rattle.edge_history.proofs.Retaining.{AreEvents-none_fails}
use Rattle.edge_history.proofs.Sums.{failing-append}
use Rattle.edge_history.proofs.Telling.{news_none, news_in_parts, rises_weaker, answer_from}
use Rattle.key_nodes.specs.Coalesced.{how_often, rows_before}
use Rattle.synopsis.proofs.Once.{cells_tell}
use Rattle.synopsis.specs.Queued.{queue_of, rows_at, AreQueues}
use Rattle.sweep_laws.specs.Queues.{Cells, rise, fall, open_starts, AreMoves}
use Rattle.sweep_laws.specs.Sweeps.{is_at, IsPast, StartsAt, IsDue, Tells, IsNext}
use Rattle.sweep_laws.proofs.Ordering.{order_later}
use Rattle.sweep_laws.proofs.QueueMoves.{edges_move}
use Rattle.sweep_laws.proofs.Queueing.{queues_next, touched_told}
use Rattle.sweep_laws.proofs.Sides.{side_now, side_none, side_rest, starts_between, tells_parts, tells_still}
use Rattle.coalesce_op.specs.Coalesces.{coalesces}
use Rattle.coalesce_op.specs.Holding.{CoalesceReached}

-- BETWEEN INSTANTS
module _ (a : List CellEvent) (lives : AreEvents a) where
  -- without edges of an instant nothing is told, and the queues stay
  no_moves : (t : ℕ) → ((w : Edge → ℕ) → total w (news t (suc t) a) ≡ 0) → AreMoves same_cells (alive a) t (λ r. 0) (λ r. 0)
  no_moves t none = edges_move same_cells a t [] (AreEvents-none_fails a lives) (record { weigh = λ w. sym (none w) })

  queues_stay : (t : ℕ) (rows : List HeldRow) → ((w : Edge → ℕ) → total w (news t (suc t) a) ≡ 0) → AreQueues (alive a) t rows → AreQueues (alive a) (suc t) rows
  queues_stay t rows none h = λ c.
      sym (append-nil (queue_of rows c)) ∙ queues_next same_cells (alive a) t (λ r. 0) (λ r. 0) (no_moves t none) (queue_of rows) h c

  nothing_told : (t : ℕ) (rows : List HeldRow) → t < inf → ((w : Edge → ℕ) → total w (news t (suc t) a) ≡ 0) → AreQueues (alive a) t rows → (w : Edge → ℕ) → total w (news t (suc t) (coalesces a)) ≡ 0
  nothing_told t rows low none h w = sym (touched_told same_cells (alive a) cells_tell t low (λ r. 0) (λ r. 0) (no_moves t none) (queue_of rows) h [] (λ r e. refl) w)

  parted : (events : List CellEvent) (u t v : ℕ) → u ≤ t → t ≤ v → (w : Edge → ℕ) → total w (news u v events) ≡ total w (news u t events) + total w (news t v events)
  parted events u t v low high w = (news_in_parts u t v events low high).weigh w ∙ total-append w (news u t events) (news t v events)

  still : (rows : List HeldRow) (u k t : ℕ) → t ≡ u + k → t ≤ inf → ((w : Edge → ℕ) → total w (news u t a) ≡ 0) → AreQueues (alive a) u rows →
      AreQueues (alive a) t rows × ((w : Edge → ℕ) → total w (news u t (coalesces a)) ≡ 0)
  still rows u zero t is low none h =
      let e : u ≡ t = omega (arith, is) in
      (subst (λ n. AreQueues (alive a) n rows) e h, λ w. ap (λ n. total w (news u n (coalesces a))) (sym e) ∙ ap (total w) (news_none u (coalesces a)))
  still rows u (suc k) t is low none h =
      let v = u + k in
      let e : suc v ≡ t = omega (arith, is) in
      let first : (w : Edge → ℕ) → total w (news u v a) ≡ 0 = λ w. (let p = parted a u v t (omega arith) (omega (arith, is)) w in let z = none w in omega (arith, p, z)) in
      let last : (w : Edge → ℕ) → total w (news v (suc v) a) ≡ 0 = λ w. (let p = parted a u v t (omega arith) (omega (arith, is)) w in let z = none w in let f = ap (λ n. total w (news v n a)) e in omega (arith, p, z, f)) in
      let r = still rows u k v refl (omega (arith, low, is)) first h in (
        subst (λ n. AreQueues (alive a) n rows) e (queues_stay v rows last r.0),
        λ w.
            let p = parted (coalesces a) u v t (omega arith) (omega (arith, is)) w in
            let x = r.1 w in
            let y = nothing_told v rows (omega (arith, low, is)) last r.0 w in
            let f = ap (λ n. total w (news v n (coalesces a))) e in
            omega (arith, p, x, y, f),
      )

  held_between : (u t : ℕ) (rows : List HeldRow) → u ≤ t → t ≤ inf → ((w : Edge → ℕ) → total w (news u t a) ≡ 0) → AreQueues (alive a) u rows →
      AreQueues (alive a) t rows × ((w : Edge → ℕ) → total w (news u t (coalesces a)) ≡ 0)
  held_between u t rows low high none h = still rows u (t - u) t (omega (arith, low)) high none h

-- FROM INSTANT TO INSTANT
pub reach_start : (a : List CellEvent) (from to : ℕ) (due : List Edge) (rows : List HeldRow) (answer : List Edge) → IsDue a from to due →
    AreQueues (alive a) from rows → CoalesceReached a from from to due rows answer answer
reach_start a from to due rows answer d h = record {
  low = omega arith;
  due = d;
  now = h;
  told = record { weigh = λ w. let z = ap (total w) (news_none from (coalesces a)) in omega (arith, z); order = λ up. up };
}

starts : (t : ℕ) (rest : List Edge) → IsNext t rest [] → StartsAt t rest
starts t rest next = elim next.found [
  | inl s ↦ s
  | inr s ↦ absurd s
]

pub reach_step : (a : List CellEvent) (from u t to n : ℕ) (rest : List Edge) (rows rows2 : List HeldRow) (answer0 answer1 answer2 : List Edge) →
    CoalesceReached a from u to rest rows answer0 answer1 → IsNext t rest [] → failing (is_at t) (take n rest) ≡ 0 → IsPast t (drop n rest) →
    (t < inf → AreEvents a → SameBag (take n rest) (news t (suc t) a) → AreQueues (alive a) t rows →
    AreQueues (alive a) (suc t) rows2 × Tells (coalesces a) t (suc t) answer1 answer2) →
    CoalesceReached a from (suc t) to (drop n rest) rows2 answer0 answer2
reach_step a from u t to n rest rows rows2 answer0 answer1 answer2 r next at past step =
    let l = r.low in
    let high = r.due.high in
    let y = starts_between a u t to rest r.due (starts t rest next) in
    let w = held_between a r.due.lives u t rows y.0 (omega (arith, y, high)) (side_none a u t to n rest r.due y.0 y.1 next.left_from at past) r.now in
    let s = step (omega (arith, y, high)) r.due.lives (side_now a u t to n rest r.due y.0 y.1 next.left_from at past) w.0 in
    record {
      low = omega (arith, l, y);
      due = side_rest a u t to n rest r.due y.0 y.1 next.left_from at past;
      now = s.0;
      told = tells_parts (coalesces a) from t (suc t) answer0 answer1 answer2 (omega (arith, l, y)) (omega arith)
          (tells_parts (coalesces a) from u t answer0 answer1 answer1 l y.0 r.told (tells_still (coalesces a) u t answer1 y.0 w.1)) s.1;
    }

pub reach_end : (a : List CellEvent) (from u to : ℕ) (rest : List Edge) (rows : List HeldRow) (answer0 answer1 : List Edge) → rest ≡ [] →
    CoalesceReached a from u to rest rows answer0 answer1 → AreQueues (alive a) to rows × Tells (coalesces a) from to answer0 answer1
reach_end a from u to rest rows answer0 answer1 e r =
    let w = held_between a r.due.lives u to rows r.due.low r.due.high (λ w. sym (r.due.news_of.weigh w) ∙ ap (total w) e) r.now in
    (w.0, tells_parts (coalesces a) from u to answer0 answer1 answer1 r.low r.due.low r.told (tells_still (coalesces a) u to answer1 r.due.low w.1))

-- IN PLACE
join_rises : (q r : ℕ) (xs ys : List Edge) → q ≤ r → Rises q xs → failing (λ e. nat_le (rank e) r) xs ≡ 0 → Rises r ys → Rises q (xs ++ ys)
join_rises q r [] ys low h b k = rises_weaker r q ys low k
join_rises q r (x ∷ xs) ys low h b k = (h.0, join_rises (rank x) r xs ys (one x r (omega (arith, b))) h.1 (omega (arith, b)) k)
  where
    one : (x : Edge) (r : ℕ) → cond {A = ℕ} (nat_le (rank x) r) 0 1 ≡ 0 → rank x ≤ r
    one x r z = grind (arith, nat_tests)

rises_from : (t : ℕ) (xs : List Edge) → failing (is_from t) xs ≡ 0 → Rises 0 xs → Rises (2 * t) xs
rises_from t [] h k = tt
rises_from t (x ∷ xs) h k = (one x (omega (arith, h)), k.1)
  where
    one : (x : Edge) → cond {A = ℕ} (is_from t x) 0 1 ≡ 0 → 2 * t ≤ rank x
    one x z = grind (arith, nat_tests)

-- what is told by itself is told behind what was told before
pub tells_behind : (events : List CellEvent) (t u : ℕ) (a b : List Edge) → t ≤ u → Tells events t u [] b → Tells events t u a (a ++ b)
tells_behind events t u a b low h =
    let same : SameBag b (news t u events) = record { weigh = λ w. (let k = h.weigh w in omega (arith, k)) } in
    let up = h.order (record { rises = tt; below = refl }) in
    record {
      weigh = λ w. let k = h.weigh w in let p = total-append w a b in omega (arith, k, p);
      order = λ o. record {
        rises = join_rises 0 (2 * t) a b (omega arith) o.rises o.below (rises_from t b (answer_from t u b events same) up.rises);
        below = failing-append (λ e. nat_le (rank e) (2 * u)) a b (order_later (2 * t) (2 * u) a (omega (arith, low)) o).below up.below;
      };
    }

-- the rows that edges start, in two parts
pub starts_parted : (w : HeldRow → ℕ) (i : ℕ) (due : List Edge) → total w (started_rows due) ≡ total w (started_rows (take i due)) + total w (started_rows (drop i due))
starts_parted w i due =
    ap (λ (l : List Edge). total w (started_rows l)) (sym (take-append-drop i due))
    ∙ (ap (total w) (flat_map-append started_of (take i due) (drop i due)) ∙ total-append w (started_rows (take i due)) (started_rows (drop i due)))

-- THE ROWS OF AN INSTANT
-- edges of one instant start rows there
pub started_there : (t : ℕ) (now : List Edge) → failing (is_at t) now ≡ 0 → rows_at t (bare (started_rows now)) ≡ started_rows now
started_there t [] h = refl
started_there t (x ∷ now) h = one x.sync x.other (omega (arith, h)) (started_there t now (omega (arith, h)))
  where
    one : (s o : ℕ) → cond {A = ℕ} (nat_eq s t) 0 1 ≡ 0 → rows_at t (bare (started_rows now)) ≡ started_rows now →
        rows_at t (bare (started_of (record { sync = s; other = o; cells = x.cells }) ++ started_rows now)) ≡ started_of (record { sync = s; other = o; cells = x.cells }) ++ started_rows now
    one s o at rest = grind (arith, nat_tests)

-- WHAT IS KNOWN
-- queues depend on the rows before alone
pub known_starts : (f g : ℕ → List Cells) (r : Cells) (t : ℕ) → ((u : ℕ) → u < t → SameBag (f u) (g u)) → open_starts same_cells f r t ≡ open_starts same_cells g r t
known_starts f g r zero h = refl
known_starts f g r (suc t) h =
    let now = (h t (omega arith)).weigh (λ x. cond {A = ℕ} (same_cells r x) 1 0) in
    let past = before t (λ u low. h u (omega (arith, low))) in
    let up : rise same_cells f r t ≡ rise same_cells g r t = omega (arith, now, past) in
    let down : fall same_cells f r t ≡ fall same_cells g r t = omega (arith, now, past) in
    ap (λ q. drop (fall same_cells f r t) q ++ replicate (rise same_cells f r t) t) (known_starts f g r t (λ u low. h u (omega (arith, low))))
    ∙ (ap (λ n. drop n (open_starts same_cells g r t) ++ replicate (rise same_cells f r t) t) down
    ∙ ap (λ n. drop (fall same_cells g r t) (open_starts same_cells g r t) ++ replicate n t) up)
  where
    before : (t : ℕ) → ((u : ℕ) → u < t → SameBag (f u) (g u)) → how_often same_cells r (rows_before f t) ≡ how_often same_cells r (rows_before g t)
    before zero h = refl
    before (suc t) h = (h t (omega arith)).weigh (λ x. cond {A = ℕ} (same_cells r x) 1 0)

pub queues_known : (c : ℕ) (a b : List CellEvent) (rows : List HeldRow) → c ≤ inf → SameBag (cut c a) (cut c b) → AreQueues (alive a) c rows → AreQueues (alive b) c rows
queues_known c a b rows low same h = λ r. h r ∙ known_starts (alive a) (alive b) r c (λ u early. alive_known c u a b early low same)
