-- A step of both sides: by the keys of all rows, or over few rows with what is left of it by keys.
use Rattle.std.specs.Prelude.{◌≡◌, ℕ, ◌+◌, ◌≤◌, true, false, cond, List, [], ◌++◌, map, All, refl}
use Rattle.std.proofs.Common.{sym, ◌∙◌, ap, subst, arith}
use Rattle.std.proofs.lemmas.List.{append-nil}
use Rattle.std.proofs.lemmas.Grind.{flat_map-append}
use Rattle.tw_rows.specs.Bag.{total}
use Rattle.tw_rows.specs.declared.edge.Edge.{Edge}
use Rattle.tw_rows.specs.declared.edge.HeldRow.{HeldRow}
use Rattle.tw_rows.proofs.Bags.{total-append}
use Rattle.edge_history.specs.Order.{failing, is_from, is_below}
use Rattle.edge_history.specs.Opens.{singles, singles_of, started_of, started_rows}
use Rattle.tw_rows.specs.Cells.{datum_kind}
use Rattle.tw_rows.specs.declared.kind.CellKind.{CellKind}
use Rattle.edge_history.proofs.Sums.{failing-append}
use Rattle.end_queue.specs.Pending.{Pending}
use Rattle.plan_model.specs.Keys.{paired_row}
use Rattle.sweep_laws.specs.Sweeps.{IsDue}
use Rattle.sweep_laws.proofs.Joins.{join_reach_end}
use Rattle.sweep_laws.proofs.Sides.{rise_head, tells_parts}
use Rattle.sweep_sides.specs.Waiting.{queued, AreTimed}
use Rattle.temporal_join.specs.Few.{SideFrom, SideGone, Went}
use Rattle.temporal_join.specs.Joined.{join_meets, joins}
use Rattle.temporal_join.specs.Kept.{AreByKey}
use Rattle.temporal_join.specs.Lives.{end_weight, row_of, life_rows, life_waits}
use Rattle.temporal_join.specs.Settled.{Settled, SideFinished, Finished}
use Rattle.temporal_join.specs.States.{left_rows, right_rows, left_pending, right_pending, AreKeyed, AreAllFew, SameColumns, SideStepped, Stepped}
use Rattle.temporal_join.specs.declared.lives.Life.{Life}
use Rattle.temporal_join.specs.declared.sides.JoinSides.{JoinSides}
use Rattle.temporal_join.proofs.Going.{head_of, rise_join, from_earlier}
use Rattle.temporal_join.proofs.Partners.{same_tells}
use Rattle.temporal_join.proofs.Sided.{rows_weight, pending_weight, timed_with, timed_of, held_same}

-- COLUMNS
pub columns_then : (o m n : JoinSides) → SameColumns o m → SameColumns m n → SameColumns o n
columns_then o m n a b = record {
  left_key = b.left_key ∙ a.left_key;
  right_key = b.right_key ∙ a.right_key;
  few_left_key = b.few_left_key ∙ a.few_left_key;
  few_right_key = b.few_right_key ∙ a.few_right_key;
  left = b.left ∙ a.left;
  right = b.right ∙ a.right;
  few_left = b.few_left ∙ a.few_left;
  few_right = b.few_right ∙ a.few_right;
}

pub by_key : (o n : JoinSides) → SameColumns o n → AreByKey o.rows → AreByKey n.rows
by_key o n same by = record {
  left = same.left ∙ (by.left ∙ sym (ap (λ v. v.items) same.left_key));
  right = same.right ∙ (by.right ∙ sym (ap (λ v. v.items) same.right_key));
}

pub keyed : (o n : JoinSides) → SameColumns o n → AreKeyed o → AreKeyed n
keyed o n same k = record {
  by = by_key o n same k.by;
  few = record {
    left = same.few_left ∙ (k.few.left ∙ sym (ap (λ v. v.items) same.few_left_key));
    right = same.few_right ∙ (k.few.right ∙ sym (ap (λ v. v.items) same.few_right_key));
  };
  left_key = ap (λ v. v.items) same.few_left_key ∙ (k.left_key ∙ sym (ap (λ v. v.items) same.left_key));
  right_key = ap (λ v. v.items) same.few_right_key ∙ (k.right_key ∙ sym (ap (λ v. v.items) same.right_key));
}

-- BY THE KEYS OF ALL ROWS
many_side : (to : ℕ) (rows rows1 rows2 : List HeldRow) (q q1 q2 : List Pending) (lives lives2 : List Life) (new due : List Edge) → AreTimed (q ++ life_waits lives) →
    ((w : HeldRow → ℕ) → total w rows1 ≡ total w rows + total (λ l. w (row_of l)) lives) → ((w : Edge → ℕ) → total w (queued q1) ≡ total w (queued q) + total (end_weight w) lives) →
    (AreTimed q → AreTimed q1) → lives2 ≡ [] → SideFinished to rows1 rows2 q1 q2 new due →
    SideStepped to (rows ++ life_rows lives) (rows2 ++ life_rows lives2) (q ++ life_waits lives) (q2 ++ life_waits lives2) new due
many_side to rows rows1 rows2 q q1 q2 lives lives2 new due timed moved ends on none f =
    let t1 = on (timed_of q lives timed) in
    record {
      parts = λ w.
          let a = pending_weight w q2 lives2 in
          let b = pending_weight w q lives in
          let z = ap (total (end_weight w)) none in
          let p = f.parts w in
          let e = ends w in
          omega (arith, a, b, z, p, e);
      below = f.below t1;
      order = f.order t1;
      rest =
          let a = pending_weight (λ e. cond (is_from to e) 0 1) q2 lives2 in
          let z = ap (total (end_weight (λ e. cond (is_from to e) 0 1))) none in
          let r = f.rest t1 in
          omega (arith, a, z, r);
      timed = timed_with q2 lives2 (f.timed t1);
      rows = λ w.
          let a = rows_weight w rows2 lives2 in
          let b = rows_weight w rows lives in
          let z = ap (total (λ l. w (row_of l))) none in
          let m = moved w in
          let p = f.rows w in
          omega (arith, a, b, z, m, p);
    }

pub many_stepped : (o m n : JoinSides) (from to : ℕ) (nl nr a0 a1 : List Edge) → AreTimed (left_pending o) → AreTimed (right_pending o) → Settled o m → Finished m n to nl nr a0 a1 → Stepped o n from to nl nr a0 a1
many_stepped o m n from to nl nr a0 a1 tl tr s f =
    let zl = ap (λ v. v.left.lives) f.few ∙ s.none_left in
    let zr = ap (λ v. v.right.lives) f.few ∙ s.none_right in
    record {
      left_due = f.left_due;
      right_due = f.right_due;
      left = many_side to o.rows.left.rows m.rows.left.rows n.rows.left.rows o.left_waiting m.left_waiting n.left_waiting o.few.left.lives n.few.left.lives nl f.left_due tl s.left_rows s.left_ends s.left_timed zl f.left;
      right = many_side to o.rows.right.rows m.rows.right.rows n.rows.right.rows o.right_waiting m.right_waiting n.right_waiting o.few.right.lives n.few.right.lives nr f.right_due tr s.right_rows s.right_ends s.right_timed zr f.right;
      swept = λ a b k dl dr h.
          let e = f.swept a b from (by_key o m s.columns k.by) dl dr
          (held_same a b from (left_rows o) m.rows.left.rows (right_rows o) m.rows.right.rows (λ w. let x = s.left_rows w in let y = rows_weight w o.rows.left.rows o.few.left.lives in omega (arith, x, y)) (λ w. let x = s.right_rows w in let y = rows_weight w o.rows.right.rows o.few.right.lives in omega (arith, x, y)) h) in (
            held_same a b to n.rows.left.rows (left_rows n) n.rows.right.rows (right_rows n)
                (λ w. let y = rows_weight w n.rows.left.rows n.few.left.lives in let z = ap (total (λ l. w (row_of l))) zl in omega (arith, y, z)) (λ w. let y = rows_weight w n.rows.right.rows n.few.right.lives in let z = ap (total (λ l. w (row_of l))) zr in omega (arith, y, z)) e.0,
            same_tells o.rows.left_key.items o.rows.right_key.items m.rows.left_key.items m.rows.right_key.items a b from to a0 a1 (ap (λ v. v.items) s.columns.left_key) (ap (λ v. v.items) s.columns.right_key) e.1,
          );
    }

-- OVER FEW ROWS
-- what is pending comes from a time on
pending_from : (t : ℕ) (q q2 : List Pending) (lives : List Life) (left : List Edge) → q ≡ [] → ((w : Edge → ℕ) → total w (queued q2) ≡ total w (queued q) + total w (singles left)) → SideFrom t lives left →
    total (λ e. cond {A = ℕ} (is_from t e) 0 1) (queued q2) + total (end_weight (λ e. cond (is_from t e) 0 1)) lives ≡ 0
pending_from t q q2 lives left none put from =
    let w : Edge → ℕ = λ e. cond (is_from t e) 0 1 in
    let a = put w in
    let z = ap (λ l. total w (queued l)) none in
    omega (arith, a, z, from)

few_side : (to until : ℕ) (rows : List HeldRow) (q q2 : List Pending) (l0 l1 : List Life) (new left due : List Edge) → q ≡ [] → ((w : Edge → ℕ) → total w (queued q2) ≡ total w (queued q) + total w (singles left)) →
    AreTimed q2 → to ≤ until → SideGone to until l0 l1 new left due →
    SideStepped to (rows ++ life_rows l0) (rows ++ life_rows l1) (q ++ life_waits l0) (q2 ++ life_waits l1) new due
few_side to until rows q q2 l0 l1 new left due none put timed far g = record {
  parts = λ w.
      let a = pending_weight w q2 l1 in
      let b = pending_weight w q l0 in
      let p = put w in
      let c = g.parts w in
      omega (arith, a, b, p, c);
  below = g.below;
  order = g.order;
  rest = from_earlier to until (queued (q2 ++ life_waits l1)) far
      (let a = pending_weight (λ e. cond (is_from until e) 0 1) q2 l1 in let b = pending_from until q q2 l1 left none put g.later in omega (arith, a, b));
  timed = timed_with q2 l1 timed;
  rows = λ w.
      let a = total-append w rows (life_rows l1) in
      let b = total-append w rows (life_rows l0) in
      let c = g.rows w in
      omega (arith, a, b, c);
}

only_lives : (w : HeldRow → ℕ) (rows : List HeldRow) (lives : List Life) → rows ≡ [] → total w (rows ++ life_rows lives) ≡ total w (life_rows lives)
only_lives w rows lives none = (let a = total-append w rows (life_rows lives) in let z = ap (total w) none in omega (arith, a, z))

pub few_stepped : (o n : JoinSides) (from to : ℕ) (nl el nr er a0 a1 : List Edge) → AreAllFew o → Went o.few n.few from to true nl el nr er a0 a1 → n.rows.left.rows ≡ o.rows.left.rows → n.rows.right.rows ≡ o.rows.right.rows →
    ((w : Edge → ℕ) → total w (queued n.left_waiting) ≡ total w (queued o.left_waiting) + total w (singles el)) → ((w : Edge → ℕ) → total w (queued n.right_waiting) ≡ total w (queued o.right_waiting) + total w (singles er)) →
    AreTimed n.left_waiting → AreTimed n.right_waiting → Stepped o n from to nl nr a0 a1
few_stepped o n from to nl el nr er a0 a1 few went same_l same_r put_l put_r timed_l timed_r =
    let g = went.gone in
    let far = went.far refl in
    record {
      left_due = g.left_due;
      right_due = g.right_due;
      left = subst (λ r. SideStepped to (left_rows o) (r ++ life_rows n.few.left.lives) (left_pending o) (left_pending n) nl g.left_due) (sym same_l)
          (few_side to went.until o.rows.left.rows o.left_waiting n.left_waiting o.few.left.lives n.few.left.lives nl el g.left_due few.none_left put_l timed_l far g.left);
      right = subst (λ r. SideStepped to (right_rows o) (r ++ life_rows n.few.right.lives) (right_pending o) (right_pending n) nr g.right_due) (sym same_r)
          (few_side to went.until o.rows.right.rows o.right_waiting n.right_waiting o.few.right.lives n.few.right.lives nr er g.right_due few.none_right put_r timed_r far g.right);
      swept = λ a b k dl dr h.
          let s = g.swept a b [] [] k.few (subst (IsDue a from to) (sym (append-nil g.left_due)) dl) (subst (IsDue b from to) (sym (append-nil g.right_due)) dr) refl refl
          (held_same a b from (left_rows o) (life_rows o.few.left.lives) (right_rows o) (life_rows o.few.right.lives) (λ w. sym (only_lives w o.rows.left.rows o.few.left.lives few.left)) (λ w. sym (only_lives w o.rows.right.rows o.few.right.lives few.right)) h) in
          let e = join_reach_end (join_meets o.few.left_key.items o.few.right_key.items) (paired_row o.few.right_key.items) a b from s.0 to [] [] (life_rows n.few.left.lives) (life_rows n.few.right.lives) a0 a1 refl refl s.2 in (
            held_same a b to (life_rows n.few.left.lives) (left_rows n) (life_rows n.few.right.lives) (right_rows n) (λ w. only_lives w n.rows.left.rows n.few.left.lives (same_l ∙ few.left)) (λ w. only_lives w n.rows.right.rows n.few.right.lives (same_r ∙ few.right)) e.0,
            same_tells o.rows.left_key.items o.rows.right_key.items o.few.left_key.items o.few.right_key.items a b from to a0 a1 k.left_key k.right_key e.1,
          );
    }

-- AND WHAT IS LEFT BY KEYS
module _ (to until : ℕ) (rows rows1 rows2 : List HeldRow) (q q1 q2 q3 : List Pending) (l0 l1 l2 : List Life) (new left due due2 : List Edge) (no_rows : rows ≡ []) (none : q ≡ [])
    (put : (w : Edge → ℕ) → total w (queued q1) ≡ total w (queued q) + total w (singles left)) (timed : AreTimed q1) (g : SideGone to until l0 l1 new left due)
    (moved : (w : HeldRow → ℕ) → total w rows1 ≡ total w rows + total (λ l. w (row_of l)) l1) (ends : (w : Edge → ℕ) → total w (queued q2) ≡ total w (queued q1) + total (end_weight w) l1)
    (on : AreTimed q1 → AreTimed q2) (empty : l2 ≡ []) (f : SideFinished to rows1 rows2 q2 q3 [] due2) where
  pub due_from : failing (is_from until) due2 ≡ 0
  due_from =
      let w : Edge → ℕ = λ e. cond (is_from until e) 0 1 in
      let a = f.parts w in
      let b = ends w in
      let c = pending_from until q q1 l1 left none put g.later in
      omega (arith, a, b, c)

  part_side : SideStepped to (rows ++ life_rows l0) (rows2 ++ life_rows l2) (q ++ life_waits l0) (q3 ++ life_waits l2) new (due ++ due2)
  part_side =
      let t2 = on timed in
      record {
        parts = λ w.
            let a = total-append w due due2 in
            let b = pending_weight w q3 l2 in
            let c = pending_weight w q l0 in
            let z = ap (total (end_weight w)) empty in
            let p = put w in
            let e = ends w in
            let x = g.parts w in
            let y = f.parts w in
            omega (arith, a, b, c, z, p, e, x, y);
        below = failing-append (is_below to) due due2 g.below (f.below t2);
        order = rise_join 0 until due due2 g.order g.early (omega arith) (rise_head until due2 (head_of until due2 due_from) (f.order t2));
        rest =
            let a = pending_weight (λ e. cond (is_from to e) 0 1) q3 l2 in
            let z = ap (total (end_weight (λ e. cond (is_from to e) 0 1))) empty in
            let r = f.rest t2 in
            omega (arith, a, z, r);
        timed = timed_with q3 l2 (f.timed t2);
        rows = λ w.
            let a = ap (total w) (flat_map-append started_of due due2) ∙ total-append w (started_rows due) (started_rows due2) in
            let b = rows_weight w rows2 l2 in
            let c = total-append w rows (life_rows l0) in
            let d = rows_weight w rows l1 in
            let e = total-append w rows (life_rows l1) in
            let z = ap (total (λ l. w (row_of l))) empty in
            let m = moved w in
            let x = g.rows w in
            let y = f.rows w in
            omega (arith, a, b, c, d, e, z, m, x, y);
      }

  moved_lives : (w : HeldRow → ℕ) → total w rows1 ≡ total w (life_rows l1)
  moved_lives w =
      let a = moved w in
      let b = rows_weight w rows l1 in
      let c = only_lives w rows l1 no_rows in
      omega (arith, a, b, c)

pub part_stepped : (o m s n : JoinSides) (from to : ℕ) (nl el nr er a0 a1 a2 : List Edge) → AreAllFew o → Went o.few m.few from to false nl el nr er a0 a1 → m.rows.left.rows ≡ o.rows.left.rows → m.rows.right.rows ≡ o.rows.right.rows →
    ((w : Edge → ℕ) → total w (queued m.left_waiting) ≡ total w (queued o.left_waiting) + total w (singles el)) → ((w : Edge → ℕ) → total w (queued m.right_waiting) ≡ total w (queued o.right_waiting) + total w (singles er)) →
    AreTimed m.left_waiting → AreTimed m.right_waiting → SameColumns o s → Settled m s → Finished s n to [] [] a1 a2 → Stepped o n from to nl nr a0 a2
part_stepped o m s n from to nl el nr er a0 a1 a2 few went same_l same_r put_l put_r timed_l timed_r columns t f =
    let g = went.gone in
    let zl = ap (λ v. v.left.lives) f.few ∙ t.none_left in
    let zr = ap (λ v. v.right.lives) f.few ∙ t.none_right in
    let ml : (w : HeldRow → ℕ) → total w s.rows.left.rows ≡ total w o.rows.left.rows + total (λ l. w (row_of l)) m.few.left.lives = λ w. (let x = t.left_rows w in let y = ap (total w) same_l in omega (arith, x, y)) in
    let mr : (w : HeldRow → ℕ) → total w s.rows.right.rows ≡ total w o.rows.right.rows + total (λ l. w (row_of l)) m.few.right.lives = λ w. (let x = t.right_rows w in let y = ap (total w) same_r in omega (arith, x, y)) in
    let fl = due_from to went.until o.rows.left.rows s.rows.left.rows n.rows.left.rows o.left_waiting m.left_waiting s.left_waiting n.left_waiting o.few.left.lives m.few.left.lives n.few.left.lives nl el g.left_due f.left_due few.left few.none_left put_l timed_l g.left ml t.left_ends t.left_timed zl f.left in
    let fr = due_from to went.until o.rows.right.rows s.rows.right.rows n.rows.right.rows o.right_waiting m.right_waiting s.right_waiting n.right_waiting o.few.right.lives m.few.right.lives n.few.right.lives nr er g.right_due f.right_due few.right few.none_right put_r timed_r g.right mr t.right_ends t.right_timed zr f.right in
    record {
      left_due = g.left_due ++ f.left_due;
      right_due = g.right_due ++ f.right_due;
      left = part_side to went.until o.rows.left.rows s.rows.left.rows n.rows.left.rows o.left_waiting m.left_waiting s.left_waiting n.left_waiting o.few.left.lives m.few.left.lives n.few.left.lives nl el g.left_due f.left_due few.left few.none_left put_l timed_l g.left ml t.left_ends t.left_timed zl f.left;
      right = part_side to went.until o.rows.right.rows s.rows.right.rows n.rows.right.rows o.right_waiting m.right_waiting s.right_waiting n.right_waiting o.few.right.lives m.few.right.lives n.few.right.lives nr er g.right_due f.right_due few.right few.none_right put_r timed_r g.right mr t.right_ends t.right_timed zr f.right;
      swept = λ a b k dl dr h.
          let z = g.swept a b f.left_due f.right_due k.few dl dr fl fr
          (held_same a b from (left_rows o) (life_rows o.few.left.lives) (right_rows o) (life_rows o.few.right.lives) (λ w. sym (only_lives w o.rows.left.rows o.few.left.lives few.left)) (λ w. sym (only_lives w o.rows.right.rows o.few.right.lives few.right)) h) in
          let reached = z.2 in
          let e = f.swept a b z.0 (by_key o s columns k.by) reached.left_due reached.right_due
          (held_same a b z.0 (life_rows m.few.left.lives) s.rows.left.rows (life_rows m.few.right.lives) s.rows.right.rows
          (moved_lives to went.until o.rows.left.rows s.rows.left.rows n.rows.left.rows o.left_waiting m.left_waiting s.left_waiting n.left_waiting o.few.left.lives m.few.left.lives n.few.left.lives nl el g.left_due f.left_due few.left few.none_left put_l timed_l g.left ml t.left_ends t.left_timed zl f.left)
          (moved_lives to went.until o.rows.right.rows s.rows.right.rows n.rows.right.rows o.right_waiting m.right_waiting s.right_waiting n.right_waiting o.few.right.lives m.few.right.lives n.few.right.lives nr er g.right_due f.right_due few.right few.none_right put_r timed_r g.right mr t.right_ends t.right_timed zr f.right)
          reached.now) in
          let lk = o.rows.left_key.items in
          let rk = o.rows.right_key.items in (
            held_same a b to n.rows.left.rows (left_rows n) n.rows.right.rows (right_rows n)
                (λ w. let y = rows_weight w n.rows.left.rows n.few.left.lives in let x = ap (total (λ l. w (row_of l))) zl in omega (arith, y, x)) (λ w. let y = rows_weight w n.rows.right.rows n.few.right.lives in let x = ap (total (λ l. w (row_of l))) zr in omega (arith, y, x)) e.0,
            tells_parts (joins lk rk a b) from z.0 to a0 a1 a2 reached.low reached.left_due.low
                (same_tells lk rk o.few.left_key.items o.few.right_key.items a b from z.0 a0 a1 k.left_key k.right_key reached.told)
                (same_tells lk rk s.rows.left_key.items s.rows.right_key.items a b z.0 to a1 a2 (ap (λ v. v.items) columns.left_key) (ap (λ v. v.items) columns.right_key) e.1),
          );
    }

-- WHAT IS PUT TO THE PENDING EDGES
pub both_put : (q q1 q2 : List Pending) (now rest : List Edge) → ((w : Edge → ℕ) → total w (queued q1) ≡ total w (queued q) + total w (singles now)) →
    ((w : Edge → ℕ) → total w (queued q2) ≡ total w (queued q1) + total w (singles rest)) → (w : Edge → ℕ) → total w (queued q2) ≡ total w (queued q) + total w (singles (now ++ rest))
both_put q q1 q2 now rest a b w =
    let x = a w in
    let y = b w in
    let z = ap (total w) (flat_map-append singles_of now rest) ∙ total-append w (singles now) (singles rest) in
    omega (arith, x, y, z)

pub queue_timed : (q : List Pending) → q ≡ [] → AreTimed q
queue_timed q none = subst AreTimed (sym none) refl

pub all_read : (came new left : List Edge) (kinds came_kinds left_kinds : List CellKind) → came ≡ new → came_kinds ≡ kinds → left_kinds ≡ came_kinds →
    (All (λ e. map datum_kind e.cells ≡ came_kinds) left → All (λ e. map datum_kind e.cells ≡ came_kinds) came) → All (λ e. map datum_kind e.cells ≡ left_kinds) left → All (λ e. map datum_kind e.cells ≡ kinds) new
all_read came new left kinds came_kinds left_kinds is same kept on read =
    subst (λ (l : List Edge). All (λ e. map datum_kind e.cells ≡ kinds) l) is
    (subst (λ (k : List CellKind). All (λ (e : Edge). map datum_kind e.cells ≡ k) came) same
    (on (subst (λ (k : List CellKind). All (λ (e : Edge). map datum_kind e.cells ≡ k) left) kept read)))
