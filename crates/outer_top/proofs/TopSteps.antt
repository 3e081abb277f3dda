-- A top from instant to instant.
use Rattle.std.specs.Prelude.{◌≡◌, ℕ, zero, suc, ◌+◌, ◌-◌, ◌<◌, ◌≤◌, ◌&&◌, nat_lt, Bool, true, false, cond, not, List, [], ◌∷◌, ◌++◌, flat_map, map, take, drop, refl}
use Rattle.std.specs.List.{IsDistinct, AllByRecursion}
use Rattle.std.specs.Map.{keys_of}
use Rattle.std.proofs.Common.{inl, inr, sym, ◌∙◌, ap, subst, arith}
use Rattle.std.proofs.lemmas.Bool.Decides.{nat_tests}
use Rattle.std.proofs.lemmas.List.{append-nil, map-append}
use Rattle.std.proofs.lemmas.Map.Keys.{IsDistinct-head, IsDistinct-tail}
use Rattle.tw_rows.specs.Instant.{inf}
use Rattle.tw_rows.specs.Bag.{SameBag, total}
use Rattle.tw_rows.specs.Event.{AreEvents}
use Rattle.tw_rows.specs.SameCells.{same_cells}
use Rattle.tw_rows.specs.declared.cells.Datum.{Datum}
use Rattle.tw_rows.specs.declared.edge.Edge.{Edge}
use Rattle.tw_rows.specs.declared.edge.HeldRow.{HeldRow}
use Rattle.tw_rows.proofs.Bags.{total-append, total-flat_map, SameBag-trans, SameBag-sym}
use Rattle.edge_history.specs.Order.{failing, is_end, is_below}
use Rattle.edge_history.specs.History.{CellEvent}
use Rattle.edge_history.specs.Balance.{news}
use Rattle.edge_history.specs.Opens.{opens, bare, ended_of, started_of, ended_rows, started_rows}
use Rattle.edge_history.proofs.Opening.{opens_stay, ends_fit, rows_after}
use Rattle.edge_history.proofs.Retaining.{AreEvents-none_fails}
use Rattle.edge_history.proofs.Telling.{news_none, news_in_parts}
use Rattle.key_nodes.specs.Coalesced.{how_often}
use Rattle.key_nodes.specs.Tops.{top_rows}
use Rattle.synopsis.proofs.Once.{cells_tell, either_way}
use Rattle.synopsis.specs.Queued.{queue_of, rows_at}
use Rattle.synopsis.specs.Held.{key_of, is_of_key}
use Rattle.sweep_laws.specs.Queues.{AreMoves}
use Rattle.sweep_laws.specs.Sweeps.{is_at, IsPast, StartsAt, IsDue, Tells, IsNext}
use Rattle.sweep_laws.proofs.QueueMoves.{shown_move}
use Rattle.sweep_laws.proofs.Queueing.{queues_next, touched_told}
use Rattle.sweep_laws.proofs.Sides.{side_now, side_none, side_rest, starts_between, tells_parts, tells_still}
use Rattle.outer_top.specs.Keyed.{Block, AreOfKeys, AreOtherKeys, tops_of_blocks}
use Rattle.outer_top.specs.Ranks.{has_rank}
use Rattle.outer_top.specs.Shown.{rows_of, shown_of, rank_strays, is_settled}
use Rattle.outer_top.specs.TopKeys.{TopEntry, kept_rows, shown_rows, key_strays, value_of, meets, unsettled, HasPassed}
use Rattle.outer_top.specs.TopEvents.{tops_of, tops_at, tops, AreSettled, TopHeld, TopReached}
use Rattle.outer_top.specs.Sweeping.{has_begun, QueuesFit}
use Rattle.outer_top.proofs.ByKey.{tops_by_key}
use Rattle.outer_top.proofs.Changing.{bare_weighs, settled_few}
use Rattle.outer_top.proofs.Topping.{shown_are_top}

-- WHAT IS SHOWN OF SETTLED KEYS
abbrev block_of : TopEntry → Block (List Datum) (List Datum)
block_of e = (e.0, bare (rows_of e.1))

bare_append : (xs ys : List HeldRow) → bare (xs ++ ys) ≡ bare xs ++ bare ys
bare_append xs ys = map-append (λ (r : HeldRow). r.cells) xs ys

all_bare : (es : List TopEntry) → flat_map (λ (b : Block (List Datum) (List Datum)). b.1) (map block_of es) ≡ bare (kept_rows es)
all_bare [] = refl
all_bare (e ∷ es) = ap (λ l. bare (rows_of e.1) ++ l) (all_bare es) ∙ sym (bare_append (rows_of e.1) (kept_rows es))

module _ (columns : List ℕ) (by most : ℕ) where
  own_blocks : (es : List TopEntry) → total (key_strays columns) es ≡ 0 → AreOfKeys (key_of columns) same_cells (map block_of es)
  own_blocks [] own = refl
  own_blocks (e ∷ es) own =
      let a = own_blocks es (omega (arith, own)) in
      let b = own_rows (rows_of e.1) (omega (arith, own)) in
      omega (arith, a, b)
    where
      own_rows : (rows : List HeldRow) → failing (is_of_key columns e.0) rows ≡ 0 → failing (λ x. same_cells e.0 (key_of columns x)) (bare rows) ≡ 0
      own_rows [] h = refl
      own_rows (r ∷ rows) h =
          let a = own_rows rows (omega (arith, h)) in
          let b = ap (λ t. cond {A = ℕ} t 0 1) (either_way e.0 (key_of columns r.cells)) in
          omega (arith, a, b, h)

  other_blocks : (es : List TopEntry) → IsDistinct same_cells (keys_of es) → AreOtherKeys same_cells (map block_of es)
  other_blocks [] apart = tt
  other_blocks (e ∷ es) apart = (others e.0 es (IsDistinct-head same_cells e.0 (keys_of es) apart), other_blocks es (IsDistinct-tail same_cells e.0 (keys_of es) apart))
    where
      others : (k : List Datum) (es : List TopEntry) → AllByRecursion (λ y. same_cells k y ≡ false) (keys_of es) →
          failing (λ (b : Block (List Datum) (List Datum)). not (same_cells k b.0)) (map block_of es) ≡ 0
      others k [] h = refl
      others k (x ∷ es) h =
          let a = others k es h.1 in
          let b = ap (λ t. cond {A = ℕ} (not t) 0 1) h.0 in
          omega (arith, a, b)

  each_shown : (es : List TopEntry) → total (λ e. rank_strays (has_rank (value_of by)) e.1) es ≡ 0 → unsettled most es ≡ 0 → (w : List Datum → ℕ) →
      total w (tops_of_blocks (value_of by) most (map block_of es)) ≡ total w (shown_rows es)
  each_shown [] own settled w = refl
  each_shown (e ∷ es) own settled w =
      let a = total-append w (top_rows (λ a b. true) (value_of by) most (bare (rows_of e.1))) (tops_of_blocks (value_of by) most (map block_of es)) in
      let b = total-append w (shown_of e.1) (shown_rows es) in
      let c = each_shown es (omega (arith, own)) (omega (arith, settled)) w in
      let ok = passes (is_settled most e.1) (omega (arith, settled)) in
      let f = settled_few most e.1 ok in
      let t = (shown_are_top (value_of by) most e.1.shown.entries e.1.hidden.entries (omega (arith, own)) (omega (arith, own)) e.1.apart f.0 f.1).weigh w in
      omega (arith, a, b, c, t)
    where
      passes : (b : Bool) → cond {A = ℕ} b 0 1 ≡ 0 → b ≡ true
      passes true h = refl
      passes false h = absurd (omega (arith, h))

  pub settled_tops : (es : List TopEntry) → AreSettled columns by most es → SameBag (shown_rows es) (tops_of columns by most (bare (kept_rows es)))
  settled_tops es s = record {
    weigh = λ w.
        let k = (tops_by_key (key_of columns) same_cells cells_tell (value_of by) most (map block_of es) (own_blocks es s.rows.own) (other_blocks es s.apart)).weigh w in
        let a = each_shown es s.rows.ranked s.settled w in
        let b = ap (λ l. total w (tops_of columns by most l)) (all_bare es) in
        omega (arith, k, a, b);
  }

  -- BETWEEN INSTANTS
  module _ (a : List CellEvent) (lives : AreEvents a) where
    no_moves : (t : ℕ) (es : List TopEntry) → AreSettled columns by most es → SameBag (kept_rows es) (opens t a) → ((w : Edge → ℕ) → total w (news t (suc t) a) ≡ 0) →
        AreMoves same_cells (tops_at columns by most a) t (λ r. 0) (λ r. 0)
    no_moves t es s h none =
        shown_move same_cells (meets columns) (value_of by) most a t (kept_rows es) (kept_rows es) h
        (SameBag-trans _ _ _ h (SameBag-sym _ _ (opens_stay t (suc t) a (omega arith) (AreEvents-none_fails a lives) none))) (shown_rows es) (shown_rows es) [] [] (settled_tops es s) (settled_tops es s) (λ w. refl)

    stay : (t : ℕ) (es : List TopEntry) (rows : List HeldRow) → ((w : Edge → ℕ) → total w (news t (suc t) a) ≡ 0) → TopHeld columns by most a t es rows → TopHeld columns by most a (suc t) es rows
    stay t es rows none h = record {
      keys = h.keys;
      kept = SameBag-trans _ _ _ h.kept (SameBag-sym _ _ (opens_stay t (suc t) a (omega arith) (AreEvents-none_fails a lives) none));
      queues = λ c. sym (append-nil (queue_of rows c)) ∙ queues_next same_cells (tops_at columns by most a) t (λ r. 0) (λ r. 0) (no_moves t es h.keys h.kept none) (queue_of rows) h.queues c;
    }

    nothing_told : (t : ℕ) (es : List TopEntry) (rows : List HeldRow) → t < inf → ((w : Edge → ℕ) → total w (news t (suc t) a) ≡ 0) → TopHeld columns by most a t es rows → (w : Edge → ℕ) →
        total w (news t (suc t) (tops columns by most a)) ≡ 0
    nothing_told t es rows low none h w =
        sym (touched_told same_cells (tops_at columns by most a) cells_tell t low (λ r. 0) (λ r. 0) (no_moves t es h.keys h.kept none) (queue_of rows) h.queues [] (λ r e. refl) w)

    parted : (events : List CellEvent) (u t v : ℕ) → u ≤ t → t ≤ v → (w : Edge → ℕ) → total w (news u v events) ≡ total w (news u t events) + total w (news t v events)
    parted events u t v low high w = (news_in_parts u t v events low high).weigh w ∙ total-append w (news u t events) (news t v events)

    still : (es : List TopEntry) (rows : List HeldRow) (u k t : ℕ) → t ≡ u + k → t ≤ inf → ((w : Edge → ℕ) → total w (news u t a) ≡ 0) → TopHeld columns by most a u es rows →
        TopHeld columns by most a t es rows × ((w : Edge → ℕ) → total w (news u t (tops columns by most a)) ≡ 0)
    still es rows u zero t is low none h =
        let e : u ≡ t = omega (arith, is) in
        (subst (λ n. TopHeld columns by most a n es rows) e h, λ w. ap (λ n. total w (news u n (tops columns by most a))) (sym e) ∙ ap (total w) (news_none u (tops columns by most a)))
    still es rows u (suc k) t is low none h =
        let v = u + k in
        let e : suc v ≡ t = omega (arith, is) in
        let first : (w : Edge → ℕ) → total w (news u v a) ≡ 0 = λ w. (let p = parted a u v t (omega arith) (omega (arith, is)) w in let z = none w in omega (arith, p, z)) in
        let last : (w : Edge → ℕ) → total w (news v (suc v) a) ≡ 0 = λ w. (let p = parted a u v t (omega arith) (omega (arith, is)) w in let z = none w in let f = ap (λ n. total w (news v n a)) e in omega (arith, p, z, f)) in
        let r = still es rows u k v refl (omega (arith, low, is)) first h in (
          subst (λ n. TopHeld columns by most a n es rows) e (stay v es rows last r.0),
          λ w.
              let p = parted (tops columns by most a) u v t (omega arith) (omega (arith, is)) w in
              let x = r.1 w in
              let y = nothing_told v es rows (omega (arith, low, is)) last r.0 w in
              let f = ap (λ n. total w (news v n (tops columns by most a))) e in
              omega (arith, p, x, y, f),
        )

    held_between : (u t : ℕ) (es : List TopEntry) (rows : List HeldRow) → u ≤ t → t ≤ inf → ((w : Edge → ℕ) → total w (news u t a) ≡ 0) → TopHeld columns by most a u es rows →
        TopHeld columns by most a t es rows × ((w : Edge → ℕ) → total w (news u t (tops columns by most a)) ≡ 0)
    held_between u t es rows low high none h = still es rows u (t - u) t (omega (arith, low)) high none h

  -- ONE INSTANT
  module _ (a : List CellEvent) (t : ℕ) (now : List Edge) (es fs : List TopEntry) (lost won : List (List Datum)) (low : t < inf) (lives : AreEvents a) (is : SameBag now (news t (suc t) a))
      (passed : HasPassed columns by most now [] lost [] won es fs) (kept : SameBag (kept_rows es) (opens t a)) (settled : AreSettled columns by most es) where
    fit : (w : HeldRow → ℕ) → total w (ended_rows now) ≤ total w (kept_rows es)
    fit w =
        let f = ends_fit w t a (AreEvents-none_fails a lives) in
        let k = kept.weigh w in
        let e = total-flat_map w ended_of now ∙ is.weigh (λ x. total w (ended_of x)) ∙ sym (total-flat_map w ended_of (news t (suc t) a)) in
        omega (arith, f, k, e)

    pub kept_after : SameBag (kept_rows fs) (opens (suc t) a)
    kept_after = rows_after a t now (kept_rows es) (kept_rows fs) (AreEvents-none_fails a lives) is kept (passed.rows settled.rows fit)

    pub settled_after : AreSettled columns by most fs
    settled_after = record { rows = passed.kept settled.rows; settled = passed.settled settled.settled; apart = passed.apart }

    pub moves_after : AreMoves same_cells (tops_at columns by most a) t (λ r. how_often same_cells r lost) (λ r. how_often same_cells r won)
    moves_after =
        shown_move same_cells (meets columns) (value_of by) most a t (kept_rows es) (kept_rows fs) kept kept_after (shown_rows es) (shown_rows fs) lost won (settled_tops es settled) (settled_tops fs settled_after)
        (λ w. let m = passed.moved w in omega (arith, m))

  -- FROM INSTANT TO INSTANT
  pub reach_start : (a : List CellEvent) (from to : ℕ) (due : List Edge) (es : List TopEntry) (rows : List HeldRow) (answer : List Edge) → IsDue a from to due →
      TopHeld columns by most a from es rows → TopReached columns by most a from from to due es rows answer answer
  reach_start a from to due es rows answer d h = record {
    low = omega arith;
    due = d;
    now = h;
    told = record { weigh = λ w. let z = ap (total w) (news_none from (tops columns by most a)) in omega (arith, z); order = λ up. up };
  }

  starts : (t : ℕ) (rest : List Edge) → IsNext t rest [] → StartsAt t rest
  starts t rest next = elim next.found [
    | inl s ↦ s
    | inr s ↦ absurd s
  ]

  pub reach_step : (a : List CellEvent) (from u t to n : ℕ) (rest : List Edge) (es fs : List TopEntry) (rows rows2 : List HeldRow) (answer0 answer1 answer2 : List Edge) →
      TopReached columns by most a from u to rest es rows answer0 answer1 → IsNext t rest [] → failing (is_at t) (take n rest) ≡ 0 → IsPast t (drop n rest) →
      (t < inf → AreEvents a → SameBag (take n rest) (news t (suc t) a) → TopHeld columns by most a t es rows →
      TopHeld columns by most a (suc t) fs rows2 × Tells (tops columns by most a) t (suc t) answer1 answer2) →
      TopReached columns by most a from (suc t) to (drop n rest) fs rows2 answer0 answer2
  reach_step a from u t to n rest es fs rows rows2 answer0 answer1 answer2 r next at past step =
      let l = r.low in
      let high = r.due.high in
      let y = starts_between a u t to rest r.due (starts t rest next) in
      let w = held_between a r.due.lives u t es rows y.0 (omega (arith, y, high)) (side_none a u t to n rest r.due y.0 y.1 next.left_from at past) r.now in
      let s = step (omega (arith, y, high)) r.due.lives (side_now a u t to n rest r.due y.0 y.1 next.left_from at past) w.0 in
      record {
        low = omega (arith, l, y);
        due = side_rest a u t to n rest r.due y.0 y.1 next.left_from at past;
        now = s.0;
        told = tells_parts (tops columns by most a) from t (suc t) answer0 answer1 answer2 (omega (arith, l, y)) (omega arith)
            (tells_parts (tops columns by most a) from u t answer0 answer1 answer1 l y.0 r.told (tells_still (tops columns by most a) u t answer1 y.0 w.1)) s.1;
      }

  pub reach_end : (a : List CellEvent) (from u to : ℕ) (rest : List Edge) (es : List TopEntry) (rows : List HeldRow) (answer0 answer1 : List Edge) → rest ≡ [] →
      TopReached columns by most a from u to rest es rows answer0 answer1 → TopHeld columns by most a to es rows × Tells (tops columns by most a) from to answer0 answer1
  reach_end a from u to rest es rows answer0 answer1 e r =
      let w = held_between a r.due.lives u to es rows r.due.low r.due.high (λ w. sym (r.due.news_of.weigh w) ∙ ap (total w) e) r.now in
      (w.0, tells_parts (tops columns by most a) from u to answer0 answer1 answer1 r.low r.due.low r.told (tells_still (tops columns by most a) u to answer1 r.due.low w.1))

-- WHAT ALL ROWS PASS
failing_take : {X : Type 0} (q : X → Bool) (xs : List X) (n : ℕ) → failing q xs ≡ 0 → failing q (take n xs) ≡ 0
failing_take q xs zero h = refl
failing_take q [] (suc n) h = refl
failing_take q (x ∷ xs) (suc n) h = let r = failing_take q xs n (omega (arith, h)) in omega (arith, r, h)

failing_drop : {X : Type 0} (q : X → Bool) (xs : List X) (n : ℕ) → failing q xs ≡ 0 → failing q (drop n xs) ≡ 0
failing_drop q xs zero h = h
failing_drop q [] (suc n) h = refl
failing_drop q (x ∷ xs) (suc n) h = failing_drop q xs n (omega (arith, h))

begun_pass : (p : List Datum → Bool) (now : List Edge) → failing (λ x. p x.cells) now ≡ 0 → total (λ (r : HeldRow). cond {A = ℕ} (p r.cells) 0 1) (started_rows now) ≡ 0
begun_pass p [] met = refl
begun_pass p (x ∷ now) met =
    let a = total-append (λ (r : HeldRow). cond {A = ℕ} (p r.cells) 0 1) (started_of x) (started_rows now) in
    let b = begun_pass p now (omega (arith, met)) in
    let c = one (is_end x) (omega (arith, met)) in
    omega (arith, a, b, c)
  where
    one : (b : Bool) → cond {A = ℕ} (p x.cells) 0 1 ≡ 0 → total (λ (r : HeldRow). cond {A = ℕ} (p r.cells) 0 1) (cond b [] (record { cells = x.cells; start = x.sync } ∷ [])) ≡ 0
    one true z = refl
    one false z = omega (arith, z)

won_begun : (to t : ℕ) (p : List Datum → Bool) (won : List (List Datum)) → t < to → failing p won ≡ 0 → total (λ r. cond {A = ℕ} (has_begun to p r) 0 1) (rows_at t won) ≡ 0
won_begun to t p [] low h = refl
won_begun to t p (l ∷ won) low h =
    let r = won_begun to t p won low (omega (arith, h)) in
    let z = one (p l) (omega (arith, h)) in
    omega (arith, r, z)
  where
    one : (b : Bool) → cond {A = ℕ} b 0 1 ≡ 0 → cond {A = ℕ} (nat_lt t to && b) 0 1 ≡ 0
    one b z = grind (arith, nat_tests)

-- the rows that are shown after an instant
pub queues_fit : (columns : List ℕ) (by most : ℕ) (t : ℕ) (now : List Edge) (lost0 lost won0 won : List (List Datum)) (es fs : List TopEntry) (old new : List HeldRow) →
    HasPassed columns by most now lost0 lost won0 won es fs → won0 ≡ [] → ((w : HeldRow → ℕ) → total w new ≤ total w old + total w (rows_at t won)) → QueuesFit t (kept_rows es) now old new
queues_fit columns by most t now lost0 lost won0 won es fs old new passed none rows = λ to p low met own begun. (
    let a = rows (λ r. cond {A = ℕ} (has_begun to p r) 0 1) in
    let f = passed.fits p (bare_weighs p (kept_rows es) ∙ own) met (ap (failing p) none) in
    let b = won_begun to t p won low f in
    omega (arith, a, b, begun))

-- and after the next instant of what is due
first_low : (t to : ℕ) (rest : List Edge) → StartsAt t rest → failing (is_below to) rest ≡ 0 → t < to
first_low t to [] s h = absurd s
first_low t to (x ∷ rest) s h = one (is_below to x) refl (omega (arith, h))
  where
    one : (b : Bool) → is_below to x ≡ b → cond {A = ℕ} b 0 1 ≡ 0 → t < to
    one true e z = let l : x.sync < to = grind (arith, nat_tests) in omega (arith, s, l)
    one false e z = absurd (omega (arith, z))

pub queues_next_fit : (t n i : ℕ) (due left : List Edge) (es0 es : List TopEntry) (old0 old new : List HeldRow) → left ≡ drop i due → IsNext t left [] →
    ((w : HeldRow → ℕ) → total w (kept_rows es) ≤ total w (kept_rows es0) + total w (started_rows (take i due))) →
    ((to : ℕ) (p : List Datum → Bool) → failing (is_below to) due ≡ 0 → failing (λ x. p x.cells) due ≡ 0 → failing (λ r. p r.cells) (kept_rows es0) ≡ 0 → failing (has_begun to p) old0 ≡ 0 → failing (has_begun to p) old ≡ 0) →
    QueuesFit t (kept_rows es) (take n left) old new →
    (to : ℕ) (p : List Datum → Bool) → failing (is_below to) due ≡ 0 → failing (λ x. p x.cells) due ≡ 0 → failing (λ r. p r.cells) (kept_rows es0) ≡ 0 → failing (has_begun to p) old0 ≡ 0 → failing (has_begun to p) new ≡ 0
queues_next_fit t n i due left es0 es old0 old new is next rows so_far fit to p below met own begun =
    let all : failing (is_below to) left ≡ 0 = ap (failing (is_below to)) is ∙ failing_drop (is_below to) due i below in
    let low = first_low t to left (starts_at t left next) all in
    let here : failing (λ x. p x.cells) (take n left) ≡ 0 = failing_take (λ (x : Edge). p x.cells) left n (ap (failing (λ (x : Edge). p x.cells)) is ∙ failing_drop (λ (x : Edge). p x.cells) due i met) in
    let m = rows (λ r. cond {A = ℕ} (p r.cells) 0 1) in
    let b = begun_pass p (take i due) (failing_take (λ (x : Edge). p x.cells) due i met) in
    fit to p low here (omega (arith, m, b, own)) (so_far to p below met own begun)
  where
    starts_at : (t : ℕ) (rest : List Edge) → IsNext t rest [] → StartsAt t rest
    starts_at t rest next = elim next.found [
      | inl s ↦ s
      | inr s ↦ absurd s
    ]

-- a fact for the columns as they stand
pub for_like : (P : List ℕ → ℕ → ℕ → Type 0) (columns columns2 : List ℕ) (by by2 most most2 : ℕ) → columns2 ≡ columns → by2 ≡ by → most2 ≡ most → P columns2 by2 most2 → P columns by most
for_like P columns columns2 by by2 most most2 ec eb em h = subst (λ c. P c by most) ec (subst (λ b. P columns2 b most) eb (subst (λ m. P columns2 by2 m) em h))
