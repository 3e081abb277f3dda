-- What is kept of a Follow at first, past a step, in longer tables, how much it is, and after it was saved and loaded.
use Rattle.std.specs.Prelude.{◌≡◌, ℕ, zero, suc, ◌+◌, ◌<◌, ◌≤◌, ◌&&◌, All, min, nat_lt, Bool, true, false, cond, List, [], ◌++◌, filter, length, map, refl}
use Rattle.std.specs.List.{list_all}
use Rattle.std.proofs.Common.{sym, ◌∙◌, ap, subst, arith}
use Rattle.std.proofs.lemmas.List.{append-nil}
use Rattle.std.proofs.lemmas.List.Elements.{All-nil, All-append}
use Rattle.tw_rows.specs.Bag.{SameBag}
use Rattle.tw_rows.specs.Cells.{ArePlaced, datum_kind}
use Rattle.tw_rows.specs.Instant.{inf, later}
use Rattle.tw_rows.specs.Texts.{BeginsWith}
use Rattle.tw_rows.specs.declared.edge.Edge.{Edge}
use Rattle.tw_rows.specs.declared.edge.HeldRow.{HeldRow}
use Rattle.tw_rows.specs.declared.kind.CellKind.{CellKind}
use Rattle.tw_rows.proofs.Bags.{SameBag-trans, SameBag-refl, total-filter, total_same}
use Rattle.edge_history.specs.History.{CellEvent, of}
use Rattle.edge_history.specs.Opens.{is_start}
use Rattle.edge_history.specs.Order.{failing}
use Rattle.edge_stream.specs.declared.saved.SavedEntry.{SavedEntry}
use Rattle.end_queue.specs.Pending.{Pending}
use Rattle.edge_stream.specs.Entries.{entries_of, part_of, are_of_parts}
use Rattle.edge_stream.proofs.CarriedParts.{parts_pass, part_of_own, part_of_other, part_of_append, parts_own, parts_append, all_pass}
use Rattle.key_nodes.proofs.Bags.{total_le}
use Rattle.plan_laws.specs.Keeping.{KeepsAhead, plain_cells}
use Rattle.plan_laws.specs.Places.{AreDistinct, read_of}
use Rattle.plan_laws.specs.Standing.{StandsRead}
use Rattle.plan_laws.proofs.Standing.{placed_longer, no_history}
use Rattle.plan_laws.proofs.StepsAhead.{ahead_read}
use Rattle.edge_stream.specs.Standing.{Standing, IsStoredAs, AreStoredAs}
use Rattle.edge_stream.specs.Steps.{MayCome}
use Rattle.plan_model.specs.Keys.{paired_row}
use Rattle.plan_model.specs.Meaning.{node_events}
use Rattle.plan_model.specs.declared.node.Node.TheVariants.{Follow as FollowNode}
use Rattle.plan_laws.specs.Held.{may_hold}
use Rattle.sweep_laws.specs.Saving.{starts_of, rows_of, is_row_start, may_wait, are_row_starts, may_all_wait}
use Rattle.sweep_laws.specs.Waits.{as_interval, starts_below}
use Rattle.sweep_laws.proofs.Ahead.{intervals_tell}
use Rattle.sweep_laws.proofs.Stored.{rows_of_starts}
use Rattle.sweep_sides.specs.Answers.{FitsList}
use Rattle.sweep_sides.specs.Starts.{starts_from}
use Rattle.sweep_sides.specs.Waiting.{queued}
use Rattle.sweep_sides.proofs.KeptSides.{row_cells, waiting_cells, starts_few}
use Rattle.sweep_sides.proofs.Telling.{from_lesser}
use Rattle.synopsis.proofs.Keyed.{ones}
use Rattle.follow_op.specs.Followed.{follows}
use Rattle.follow_op.specs.Intervals.{TellsAhead}
use Rattle.follow_op.specs.Operating.{row_of_part}
use Rattle.follow_op.specs.States.{KeepsFollow, IsOpening, FollowSound, FollowResumes}
use Rattle.follow_op.specs.Waits.{StartsRise, begun, is_free, FollowHeld}
use Rattle.follow_op.proofs.Answering.{valid, told_fits, answered_then, order_then}
use Rattle.follow_op.proofs.Sums.{held, begun_weigh, free_begun}

module _ (lk rk : List ℕ) (within : ℕ) (lc rc : List CellKind) where
  follow_first : (texts : List (List ℕ)) → KeepsFollow lk rk within lc rc texts 0 0 [] [] (queued []) (queued []) [] [] []
  follow_first texts = record {
    left_history = no_history;
    right_history = no_history;
    left_placed = All-nil (λ (e : Edge). ArePlaced texts e.cells);
    right_placed = All-nil (λ (e : Edge). ArePlaced texts e.cells);
    left_cells = All-nil (λ (e : Edge). map datum_kind e.cells ≡ lc);
    right_cells = All-nil (λ (e : Edge). map datum_kind e.cells ≡ rc);
    left_low = omega arith;
    right_low = omega arith;
    left_waits = SameBag-refl [];
    right_waits = SameBag-refl [];
    now = record { waiting = SameBag-refl []; queued = SameBag-refl []; few = λ w. (omega arith); order = tt };
    order = tt;
    answered = SameBag-refl [];
  }

  pub follow_opening : (texts : List (List ℕ)) (x y : ℕ) (rows queue : List HeldRow) (lq rq : List Pending) (failed : Bool) → IsOpening rows queue lq rq x y failed →
      KeepsFollow lk rk within lc rc texts x y rows queue (queued lq) (queued rq) [] [] []
  follow_opening texts x y rows queue lq rq failed o =
      let a = o.no_rows in
      let b = o.no_queue in
      let c = o.none_left in
      let d = o.none_right in
      let e = o.left_open in
      let f = o.right_open in
      rw (a, b, c, d, e, f) (follow_first texts)

  pub follow_longer : (new old : List (List ℕ)) (x y : ℕ) (rows queue : List HeldRow) (lw rws hl hr out : List Edge) → BeginsWith new old →
      KeepsFollow lk rk within lc rc old x y rows queue lw rws hl hr out → KeepsFollow lk rk within lc rc new x y rows queue lw rws hl hr out
  follow_longer new old x y rows queue lw rws hl hr out b k = record {
    left_history = k.left_history;
    right_history = k.right_history;
    left_placed = placed_longer new old b hl k.left_placed;
    right_placed = placed_longer new old b hr k.right_placed;
    left_cells = k.left_cells;
    right_cells = k.right_cells;
    left_low = k.left_low;
    right_low = k.right_low;
    left_waits = k.left_waits;
    right_waits = k.right_waits;
    now = k.now;
    order = k.order;
    answered = k.answered;
  }

  -- what was answered stands, read, for the events of the node
  pub follow_stands : (texts : List (List ℕ)) (x y : ℕ) (rows queue : List HeldRow) (lw rws hl hr out : List Edge) → AreDistinct texts →
      KeepsFollow lk rk within lc rc texts x y rows queue lw rws hl hr out → StandsRead texts (min x y) out (node_events (FollowNode 0 1 lk rk within) (read_of texts hl) (read_of texts hr))
  follow_stands texts x y rows queue lw rws hl hr out apart k =
      let keeps : KeepsAhead plain_cells (FollowNode 0 1 lk rk within) texts x y hl hr out = record {
        left_history = k.left_history;
        right_history = k.right_history;
        left_placed = k.left_placed;
        right_placed = k.right_placed;
        told = intervals_tell (min x y) (low k.left_low) out (follows lk rk within (of hl) (of hr)) (valid lk rk within hl hr k.right_history) k.order k.answered;
      } in
      ahead_read (λ test row. false) (λ items row. row) (FollowNode 0 1 lk rk within) texts x y hl hr out refl apart k.left_low k.right_low keeps
    where
      low : x ≤ inf → min x y ≤ inf
      low l = omega (arith, l)

  -- A STEP
  pub follow_stepped : (own : List CellKind) (texts : List (List ℕ)) (x y u v to : ℕ) (rows queue rows2 queue2 : List HeldRow) (lw rws lw2 rws2 hl hr l r out told answer : List Edge) → own ≡ paired_row rk lc rc →
      x ≤ u → y ≤ v → u ≤ inf → v ≤ inf → to ≡ min u v → KeepsFollow lk rk within lc rc texts x y rows queue lw rws hl hr out → MayCome texts x hl l → MayCome texts y hr r →
      All (λ e. map datum_kind e.cells ≡ lc) l → All (λ e. map datum_kind e.cells ≡ rc) r →
      SameBag lw2 (starts_from to (hl ++ l)) → SameBag rws2 (starts_from to (hr ++ r)) → FollowHeld lk rk within (of (hl ++ l)) (of (hr ++ r)) to to rows2 queue2 →
      TellsAhead (follows lk rk within (of (hl ++ l)) (of (hr ++ r))) (min x y) to [] told → (FitsList own (min x y) to told → answer ≡ told) →
      KeepsFollow lk rk within lc rc texts u v rows2 queue2 lw2 rws2 (hl ++ l) (hr ++ r) (out ++ answer)
  follow_stepped own texts x y u v to rows queue rows2 queue2 lw rws lw2 rws2 hl hr l r out told answer is xu yv lu lv lesser k ml mr cl cr wl wr now tells listed =
      let c = min x y in
      let cells_l : All (λ e. map datum_kind e.cells ≡ lc) (hl ++ l) = All-append (λ (e : Edge). map datum_kind e.cells ≡ lc) hl l k.left_cells cl in
      let cells_r : All (λ e. map datum_kind e.cells ≡ rc) (hr ++ r) = All-append (λ (e : Edge). map datum_kind e.cells ≡ rc) hr r k.right_cells cr in
      let rise : c ≤ to = omega (arith, xu, yv, lesser) in
      let high : to ≤ inf = omega (arith, lu, lesser) in
      let same = listed (told_fits lk rk within lc rc own c to (hl ++ l) (hr ++ r) told is high mr.history cells_l cells_r tells) in
      let fl = from_lesser c x l (omega arith) ml.from in
      let fr = from_lesser c y r (omega arith) mr.from in
      let done = answered_then lk rk within c to hl hr l r out told rise high k.left_history k.right_history ml.history mr.history fl fr k.answered tells in
      let order = order_then lk rk within c to hl hr (hl ++ l) (hr ++ r) out told mr.history k.order k.answered tells in
      subst (λ (z : List Edge). KeepsFollow lk rk within lc rc texts u v rows2 queue2 lw2 rws2 (hl ++ l) (hr ++ r) (out ++ z)) (sym same)
      (record {
        left_history = ml.history;
        right_history = mr.history;
        left_placed = ml.placed;
        right_placed = mr.placed;
        left_cells = cells_l;
        right_cells = cells_r;
        left_low = lu;
        right_low = lv;
        left_waits = subst (λ (t : ℕ). SameBag lw2 (starts_from t (hl ++ l))) lesser wl;
        right_waits = subst (λ (t : ℕ). SameBag rws2 (starts_from t (hr ++ r))) lesser wr;
        now = subst (λ (t : ℕ). FollowHeld lk rk within (of (hl ++ l)) (of (hr ++ r)) t t rows2 queue2) lesser now;
        order = order;
        answered = subst (λ (t : ℕ). SameBag (out ++ told) (map as_interval (filter (starts_below t) (follows lk rk within (of (hl ++ l)) (of (hr ++ r)))))) lesser done;
      })

  -- HOW MUCH IS KEPT, whatever the events of the node are
  pub follow_bound : (texts : List (List ℕ)) (x y : ℕ) (rows queue : List HeldRow) (lq rq : List Pending) (hl hr out : List Edge) (own : List CellEvent) → KeepsFollow lk rk within lc rc texts x y rows queue (queued lq) (queued rq) hl hr out →
      length rows + length lq + length queue + length rq ≤ may_hold (FollowNode 0 1 lk rk within) x (min x y) (of hl) (of hr) own
  follow_bound texts x y rows queue lq rq hl hr out own k =
      let c = min x y in
      let a = of hl in
      let r1 = ones rows in
      let q1 = ones queue in
      let r2 = k.now.waiting.weigh (λ r. 1) ∙ free_begun (is_free lk rk (of hr) c) (λ r. 1) within c c a in
      let q2 = k.now.few (λ r. 1) in
      let q3 = begun_weigh (λ r. 1) within c c a in
      let r4 = total_le (λ e. cond (nat_lt e.start c && nat_lt c (later within e.start)) (cond (is_free lk rk (of hr) c (held e)) 1 0) 0) (λ e. cond (nat_lt c (later within e.start)) 1 0) a
      (λ e. fewer (nat_lt e.start c) (nat_lt c (later within e.start)) (is_free lk rk (of hr) c (held e))) in
      let q4 = total_le (λ e. cond (nat_lt e.start c && nat_lt c (later within e.start)) 1 0) (λ e. cond (nat_lt c (later within e.start)) 1 0) a
      (λ e. few (nat_lt e.start c) (nat_lt c (later within e.start))) in
      let l = starts_few hl c lq k.left_history k.left_waits in
      let r = starts_few hr c rq k.right_history k.right_waits in
      omega (arith, r1, q1, r2, q2, q3, r4, q4, l, r)
    where
      fewer : (p q s : Bool) → cond {A = ℕ} (p && q) (cond s 1 0) 0 ≤ cond q 1 0
      fewer true true true = omega arith
      fewer true true false = omega arith
      fewer true false s = omega arith
      fewer false q s = omega arith

      few : (p q : Bool) → cond {A = ℕ} (p && q) 1 0 ≤ cond q 1 0
      few true q = omega arith
      few false q = omega arith

  -- LOADING: the same rows and starts in another order, and the rows as their queue
  again : (texts : List (List ℕ)) (x y : ℕ) (rows rows2 queue queue2 : List HeldRow) (lw rws lw2 rws2 hl hr out : List Edge) → SameBag rows2 rows → SameBag queue2 rows → StartsRise 0 queue2 →
      SameBag lw2 lw → SameBag rws2 rws → KeepsFollow lk rk within lc rc texts x y rows queue lw rws hl hr out → KeepsFollow lk rk within lc rc texts x y rows2 queue2 lw2 rws2 hl hr out
  again texts x y rows rows2 queue queue2 lw rws lw2 rws2 hl hr out a b up d e k =
      let free : HeldRow → Bool = is_free lk rk (of hr) (min x y) in
      let more = begun within (min x y) (min x y) (of hl) in
      record {
        left_history = k.left_history;
        right_history = k.right_history;
        left_placed = k.left_placed;
        right_placed = k.right_placed;
        left_cells = k.left_cells;
        right_cells = k.right_cells;
        left_low = k.left_low;
        right_low = k.right_low;
        order = k.order;
        answered = k.answered;
        left_waits = SameBag-trans _ _ _ d k.left_waits;
        right_waits = SameBag-trans _ _ _ e k.right_waits;
        now = record {
          waiting = SameBag-trans _ _ _ a k.now.waiting;
          queued = record {
            weigh = λ w.
                let x = a.weigh w in
                let y = total-filter w free queue2 ∙ b.weigh (λ r. cond (free r) (w r) 0) in
                let z = k.now.waiting.weigh (λ r. cond (free r) (w r) 0) ∙ total-filter (λ r. cond (free r) (w r) 0) free more in
                let g = k.now.waiting.weigh w ∙ total-filter w free more in
                let i = total_same _ _ more (λ r. twice (free r) (w r)) in
                omega (arith, x, y, z, g, i);
          };
          few = λ w.
              let x = b.weigh w in
              let g = k.now.waiting.weigh w ∙ total-filter w free more in
              let i = total_le (λ r. cond (free r) (w r) 0) w more (λ r. less (free r) (w r)) in
              omega (arith, x, g, i);
          order = up;
        };
      }
    where
      twice : (p : Bool) (n : ℕ) → cond {A = ℕ} p (cond p n 0) 0 ≡ cond p n 0
      twice true n = refl
      twice false n = refl

      less : (p : Bool) (n : ℕ) → cond {A = ℕ} p n 0 ≤ n
      less true n = omega arith
      less false n = omega arith

  pub follow_loaded : (lk2 rk2 : List ℕ) (within2 : ℕ) (texts : List (List ℕ)) (x y : ℕ) (rows rows2 queue queue2 : List HeldRow) (lw rws lw2 rws2 hl hr out : List Edge) → lk2 ≡ lk → rk2 ≡ rk → within2 ≡ within →
      SameBag rows2 rows → SameBag queue2 rows → StartsRise 0 queue2 → SameBag lw2 lw → SameBag rws2 rws → KeepsFollow lk rk within lc rc texts x y rows queue lw rws hl hr out →
      KeepsFollow lk2 rk2 within2 lc rc texts x y rows2 queue2 lw2 rws2 hl hr out
  follow_loaded lk2 rk2 within2 texts x y rows rows2 queue queue2 lw rws lw2 rws2 hl hr out e f g a b up c d k = rw (e, f, g) (again texts x y rows rows2 queue queue2 lw rws lw2 rws2 hl hr out a b up c d k)

-- each entry of a sound state has the cells of its row
pub follow_rows_stored : (s : Standing) (saved : List SavedEntry) (to : ℕ) (lc rc : List CellKind) → s.left_kinds ≡ lc → s.right_kinds ≡ rc → FollowSound lc rc to saved →
    AreStoredAs row_of_part s saved
follow_rows_stored s saved to lc rc el er sound = parts_pass (λ part. IsStoredAs s (row_of_part part)) 3 saved sound.parts each
  where
    left : (p : ℕ) → All (λ e. map datum_kind e.cells ≡ lc) (part_of p saved) → All (λ e. map datum_kind e.cells ≡ s.left_kinds) (part_of p saved)
    left p h = subst (λ (k : List CellKind). All (λ (e : Edge). map datum_kind e.cells ≡ k) (part_of p saved)) (sym el) h

    right : (p : ℕ) → All (λ e. map datum_kind e.cells ≡ rc) (part_of p saved) → All (λ e. map datum_kind e.cells ≡ s.right_kinds) (part_of p saved)
    right p h = subst (λ (k : List CellKind). All (λ (e : Edge). map datum_kind e.cells ≡ k) (part_of p saved)) (sym er) h

    each : (p : ℕ) → p < 3 → All (λ e. IsStoredAs s (row_of_part p) e.cells) (part_of p saved)
    each zero low = left 0 (row_cells lc to (part_of 0 saved) sound.left)
    each (suc zero) low = left 1 (waiting_cells lc to (part_of 1 saved) sound.left_waiting)
    each (suc (suc zero)) low = right 2 (waiting_cells rc to (part_of 2 saved) sound.right_waiting)
    each (suc (suc (suc n))) low = absurd (omega (arith, low))

-- SAVING
module _ (rows : List HeldRow) (lw rws : List Edge) (s0 s1 s2 s3 : List SavedEntry) (empty : s0 ≡ []) (e1 : s1 ≡ s0 ++ entries_of 0 (starts_of rows))
    (e2 : s2 ≡ s1 ++ entries_of 1 lw) (e3 : s3 ≡ s2 ++ entries_of 2 rws) where
  abbrev p0 : List SavedEntry
  p0 = entries_of 0 (starts_of rows)

  abbrev p1 : List SavedEntry
  p1 = entries_of 1 lw

  abbrev p2 : List SavedEntry
  p2 = entries_of 2 rws

  all : s3 ≡ p0 ++ p1 ++ p2
  all = e3 ∙ ap (λ s. s ++ p2) (e2 ∙ ap (λ s. s ++ p1) (e1 ∙ ap (λ s. s ++ p0) empty))

  cut_of : (p : ℕ) → part_of p s3 ≡ part_of p p0 ++ part_of p p1 ++ part_of p p2
  cut_of p = ap (part_of p) all ∙ (part_of_append p (p0 ++ p1) p2 ∙ ap (λ l. l ++ part_of p p2) (part_of_append p p0 p1))

  row_part : part_of 0 s3 ≡ starts_of rows
  row_part =
      cut_of 0 ∙ ((λ i. part_of_own 0 (starts_of rows) i ++ part_of_other 0 1 lw refl i ++ part_of_other 0 2 rws refl i)
      ∙ (append-nil (starts_of rows ++ []) ∙ append-nil (starts_of rows)))

  left_part : part_of 1 s3 ≡ lw
  left_part = cut_of 1 ∙ ((λ i. part_of_other 1 0 (starts_of rows) refl i ++ part_of_own 1 lw i ++ part_of_other 1 2 rws refl i) ∙ append-nil lw)

  right_part : part_of 2 s3 ≡ rws
  right_part = cut_of 2 ∙ (λ i. part_of_other 2 0 (starts_of rows) refl i ++ part_of_other 2 1 lw refl i ++ part_of_own 2 rws i)

  of_parts : are_of_parts 3 s3 ≡ true
  of_parts =
      ap (are_of_parts 3) all
      ∙ parts_append 3 (p0 ++ p1) p2 (parts_append 3 p0 p1 (parts_own 3 0 (starts_of rows) refl) (parts_own 3 1 lw refl)) (parts_own 3 2 rws refl)

  pub follow_saved : (lc rc : List CellKind) (to : ℕ) → failing (is_row_start lc to) (starts_of rows) ≡ 0 → failing (may_wait lc to) lw ≡ 0 → failing (may_wait rc to) rws ≡ 0 →
      failing is_start lw ≡ 0 → failing is_start rws ≡ 0 → FollowSound lc rc to s3
  follow_saved lc rc to a c d e f = record {
    parts = of_parts;
    left = ap (are_row_starts lc to) row_part ∙ all_pass (is_row_start lc to) (starts_of rows) a;
    left_waiting = ap (may_all_wait lc to) left_part ∙ all_pass (may_wait lc to) lw c;
    left_starts = ap (list_all is_start) left_part ∙ all_pass is_start lw e;
    right_waiting = ap (may_all_wait rc to) right_part ∙ all_pass (may_wait rc to) rws d;
    right_starts = ap (list_all is_start) right_part ∙ all_pass is_start rws f;
  }

  pub follow_resumed : (lk rk : List ℕ) (within : ℕ) (lc rc : List CellKind) (texts : List (List ℕ)) (x y : ℕ) (queue : List HeldRow) (hl hr out : List Edge) → FollowSound lc rc (min x y) s3 →
      KeepsFollow lk rk within lc rc texts x y rows queue lw rws hl hr out → FollowResumes lk rk within lc rc texts x y s3 hl hr out
  follow_resumed lk rk within lc rc texts x y queue hl hr out sound k = record {
    sound = sound;
    queue = queue;
    keeps = subst (λ (a : List HeldRow). KeepsFollow lk rk within lc rc texts x y a queue (part_of 1 s3) (part_of 2 s3) hl hr out) (sym (ap rows_of row_part ∙ rows_of_starts rows))
        (subst (λ (a : List Edge). KeepsFollow lk rk within lc rc texts x y rows queue a (part_of 2 s3) hl hr out) (sym left_part)
        (subst (λ (a : List Edge). KeepsFollow lk rk within lc rc texts x y rows queue lw a hl hr out) (sym right_part) k));
  }
