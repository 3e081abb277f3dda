-- What is kept of a join at first, and after it was saved and loaded.
use Rattle.std.specs.Prelude.{◌≡◌, ℕ, zero, suc, ◌+◌, ◌*◌, ◌<◌, ◌≤◌, All, true, length, List, [], ◌++◌, map, refl}
use Rattle.std.proofs.Common.{sym, ◌∙◌, ap, subst, arith}
use Rattle.std.proofs.lemmas.List.{append-nil, length-append}
use Rattle.tw_rows.specs.Bag.{SameBag}
use Rattle.tw_rows.specs.Cells.{datum_kind}
use Rattle.tw_rows.specs.declared.edge.Edge.{Edge}
use Rattle.tw_rows.specs.declared.edge.HeldRow.{HeldRow}
use Rattle.tw_rows.specs.declared.kind.CellKind.{CellKind}
use Rattle.tw_rows.proofs.Bags.{SameBag-refl, SameBag-trans}
use Rattle.edge_history.specs.History.{CellEvent}
use Rattle.edge_history.specs.Order.{failing, many}
use Rattle.edge_history.specs.Side.{reaches}
use Rattle.edge_stream.specs.declared.saved.SavedEntry.{SavedEntry}
use Rattle.edge_stream.specs.Entries.{entries_of, part_of, are_of_parts}
use Rattle.edge_stream.proofs.CarriedParts.{parts_pass, part_of_own, part_of_other, part_of_append, parts_own, parts_append, all_pass}
use Rattle.plan_model.specs.declared.node.Node.TheVariants.{Join}
use Rattle.plan_laws.specs.Held.{may_hold}
use Rattle.plan_laws.specs.Keeping.{plain_cells}
use Rattle.plan_laws.proofs.Standing.{no_history}
use Rattle.plan_laws.proofs.Steps.{keeps_first}
use Rattle.edge_stream.specs.Standing.{Standing, IsStoredAs, AreStoredAs}
use Rattle.sweep_sides.specs.Waiting.{queued}
use Rattle.sweep_sides.proofs.KeptSides.{row_cells, waiting_cells, none_side}
use Rattle.sweep_laws.specs.Saving.{starts_of, rows_of, is_row_start, may_wait, are_row_starts, may_all_wait}
use Rattle.sweep_laws.proofs.Stored.{rows_of_starts}
use Rattle.temporal_join.specs.Lives.{life_rows, life_waits}
use Rattle.temporal_join.specs.Operating.{join_row, join_entries}
use Rattle.plan_model.specs.Keys.{paired_row}
use Rattle.sweep_laws.specs.Joining.{JoinKeeps}
use Rattle.sweep_sides.specs.Waiting.{AreTimed}
use Rattle.temporal_join.specs.Joined.{join_meets}
use Rattle.temporal_join.specs.declared.sides.JoinSides.{JoinSides}
use Rattle.temporal_join.specs.States.{SidesKeep, AreSides, IsEmpty, JoinSound, left_rows, right_rows, left_pending, right_pending}

-- of no edges nothing is kept, which fits any time
kept_none : (lk rk : List ℕ) → JoinKeeps (join_meets lk rk) (paired_row rk) [] [] (queued []) (queued []) 0 [] [] []
kept_none lk rk = record {
  left_history = no_history;
  right_history = no_history;
  left_waits = SameBag-refl [];
  right_waits = SameBag-refl [];
  now = record { left_rows = SameBag-refl []; right_rows = SameBag-refl [] };
  told = (keeps_first plain_cells (Join 0 1 lk rk) [] 0 0).told;
}

pub join_opens : (s : JoinSides) → IsEmpty s → SidesKeep s 0 [] [] []
join_opens s e = record {
  by = e.by;
  left_timed = subst AreTimed (sym e.none_left) refl;
  right_timed = subst AreTimed (sym e.none_right) refl;
  kept = rw (e.left, e.right, e.none_left, e.none_right) (kept_none s.rows.left_key.items s.rows.right_key.items);
}

pub join_fits : (s : JoinSides) (lc rc : List CellKind) (to : ℕ) → IsEmpty s → AreSides lc rc to s
join_fits s lc rc to e = record {
  left = none_side lc to (left_rows s) (left_pending s) e.left e.none_left;
  right = none_side rc to (right_rows s) (right_pending s) e.right e.none_right;
}

-- how many entries are kept of the rows by their keys, and of those with their ends
pub entries_are : (s : JoinSides) → join_entries s
    ≡ (length s.rows.left.rows + length s.left_waiting) + (length (life_rows s.few.left.lives) + length (life_waits s.few.left.lives))
    + ((length s.rows.right.rows + length s.right_waiting) + (length (life_rows s.few.right.lives) + length (life_waits s.few.right.lives)))
entries_are s =
    let a : length (left_rows s) ≡ length s.rows.left.rows + length (life_rows s.few.left.lives) = length-append s.rows.left.rows (life_rows s.few.left.lives) in
    let b : length (right_rows s) ≡ length s.rows.right.rows + length (life_rows s.few.right.lives) = length-append s.rows.right.rows (life_rows s.few.right.lives) in
    let d : length (left_pending s) ≡ length s.left_waiting + length (life_waits s.few.left.lives) = length-append s.left_waiting (life_waits s.few.left.lives) in
    let e : length (right_pending s) ≡ length s.right_waiting + length (life_waits s.few.right.lives) = length-append s.right_waiting (life_waits s.few.right.lives) in
    omega (arith, a, b, d, e)

-- LOADING: the same rows and edges in another order
pub join_loaded : (lk rk lk2 rk2 : List ℕ) (to : ℕ) (left right left2 right2 : List HeldRow) (lw vw lw2 vw2 hl hr out : List Edge) → lk2 ≡ lk → rk2 ≡ rk →
    SameBag left2 left → SameBag right2 right → SameBag lw2 lw → SameBag vw2 vw →
    JoinKeeps (join_meets lk rk) (paired_row rk) left right lw vw to hl hr out → JoinKeeps (join_meets lk2 rk2) (paired_row rk2) left2 right2 lw2 vw2 to hl hr out
join_loaded lk rk lk2 rk2 to left right left2 right2 lw vw lw2 vw2 hl hr out e f a b c d k = rw (e, f) (record {
  left_history = k.left_history;
  right_history = k.right_history;
  left_waits = SameBag-trans _ _ _ c k.left_waits;
  right_waits = SameBag-trans _ _ _ d k.right_waits;
  now = record { left_rows = SameBag-trans _ _ _ a k.now.left_rows; right_rows = SameBag-trans _ _ _ b k.now.right_rows };
  told = k.told;
})

-- at most two entries for each event of a side that does not end before the time
pub join_bound : (lk rk : List ℕ) (x to n m : ℕ) (a b own : List CellEvent) → n ≤ 2 * many (reaches to) a → m ≤ 2 * many (reaches to) b → n + m ≤ may_hold (Join 0 1 lk rk) x to a b own
join_bound lk rk x to n m a b own left right = omega (arith, left, right)

-- each entry of a sound state has the cells of its row
pub join_rows_stored : (s : Standing) (saved : List SavedEntry) (to : ℕ) (lc rc : List CellKind) → s.left_kinds ≡ lc → s.right_kinds ≡ rc → JoinSound lc rc to saved →
    AreStoredAs join_row s saved
join_rows_stored s saved to lc rc el er sound = parts_pass (λ part. IsStoredAs s (join_row part)) 4 saved sound.parts each
  where
    left : (p : ℕ) → All (λ e. map datum_kind e.cells ≡ lc) (part_of p saved) → All (λ e. map datum_kind e.cells ≡ s.left_kinds) (part_of p saved)
    left p h = subst (λ (k : List CellKind). All (λ (e : Edge). map datum_kind e.cells ≡ k) (part_of p saved)) (sym el) h

    right : (p : ℕ) → All (λ e. map datum_kind e.cells ≡ rc) (part_of p saved) → All (λ e. map datum_kind e.cells ≡ s.right_kinds) (part_of p saved)
    right p h = subst (λ (k : List CellKind). All (λ (e : Edge). map datum_kind e.cells ≡ k) (part_of p saved)) (sym er) h

    each : (p : ℕ) → p < 4 → All (λ e. IsStoredAs s (join_row p) e.cells) (part_of p saved)
    each zero low = left 0 (row_cells lc to (part_of 0 saved) sound.left)
    each (suc zero) low = right 1 (row_cells rc to (part_of 1 saved) sound.right)
    each (suc (suc zero)) low = left 2 (waiting_cells lc to (part_of 2 saved) sound.left_waiting)
    each (suc (suc (suc zero))) low = right 3 (waiting_cells rc to (part_of 3 saved) sound.right_waiting)
    each (suc (suc (suc (suc n)))) low = absurd (omega (arith, low))

-- SAVING
module _ (left right : List HeldRow) (lw rw : List Edge) (s0 s1 s2 s3 s4 : List SavedEntry) (empty : s0 ≡ []) (e1 : s1 ≡ s0 ++ entries_of 0 (starts_of left))
    (e2 : s2 ≡ s1 ++ entries_of 1 (starts_of right)) (e3 : s3 ≡ s2 ++ entries_of 2 lw) (e4 : s4 ≡ s3 ++ entries_of 3 rw) where
  abbrev p0 : List SavedEntry
  p0 = entries_of 0 (starts_of left)

  abbrev p1 : List SavedEntry
  p1 = entries_of 1 (starts_of right)

  abbrev p2 : List SavedEntry
  p2 = entries_of 2 lw

  abbrev p3 : List SavedEntry
  p3 = entries_of 3 rw

  all : s4 ≡ p0 ++ p1 ++ p2 ++ p3
  all = e4 ∙ ap (λ s. s ++ p3) (e3 ∙ ap (λ s. s ++ p2) (e2 ∙ ap (λ s. s ++ p1) (e1 ∙ ap (λ s. s ++ p0) empty)))

  cut_of : (p : ℕ) → part_of p s4 ≡ part_of p p0 ++ part_of p p1 ++ part_of p p2 ++ part_of p p3
  cut_of p =
      ap (part_of p) all ∙ (part_of_append p (p0 ++ p1 ++ p2) p3
      ∙ (ap (λ l. l ++ part_of p p3) (part_of_append p (p0 ++ p1) p2) ∙ ap (λ l. l ++ part_of p p2 ++ part_of p p3) (part_of_append p p0 p1)))

  left_part : part_of 0 s4 ≡ starts_of left
  left_part =
      cut_of 0 ∙ ((λ i. part_of_own 0 (starts_of left) i ++ part_of_other 0 1 (starts_of right) refl i ++ part_of_other 0 2 lw refl i ++ part_of_other 0 3 rw refl i)
      ∙ (append-nil (starts_of left ++ [] ++ []) ∙ (append-nil (starts_of left ++ []) ∙ append-nil (starts_of left))))

  right_part : part_of 1 s4 ≡ starts_of right
  right_part =
      cut_of 1 ∙ ((λ i. part_of_other 1 0 (starts_of left) refl i ++ part_of_own 1 (starts_of right) i ++ part_of_other 1 2 lw refl i ++ part_of_other 1 3 rw refl i)
      ∙ (append-nil (starts_of right ++ []) ∙ append-nil (starts_of right)))

  left_rest : part_of 2 s4 ≡ lw
  left_rest =
      cut_of 2 ∙ ((λ i. part_of_other 2 0 (starts_of left) refl i ++ part_of_other 2 1 (starts_of right) refl i ++ part_of_own 2 lw i ++ part_of_other 2 3 rw refl i) ∙ append-nil lw)

  right_rest : part_of 3 s4 ≡ rw
  right_rest =
      cut_of 3 ∙ (λ i. part_of_other 3 0 (starts_of left) refl i ++ part_of_other 3 1 (starts_of right) refl i ++ part_of_other 3 2 lw refl i ++ part_of_own 3 rw i)

  of_parts : are_of_parts 4 s4 ≡ true
  of_parts =
      ap (are_of_parts 4) all ∙ parts_append 4 (p0 ++ p1 ++ p2) p3
      (parts_append 4 (p0 ++ p1) p2 (parts_append 4 p0 p1 (parts_own 4 0 (starts_of left) refl) (parts_own 4 1 (starts_of right) refl)) (parts_own 4 2 lw refl)) (parts_own 4 3 rw refl)

  pub join_saved : (lc rc : List CellKind) (to : ℕ) → failing (is_row_start lc to) (starts_of left) ≡ 0 → failing (is_row_start rc to) (starts_of right) ≡ 0 →
      failing (may_wait lc to) lw ≡ 0 → failing (may_wait rc to) rw ≡ 0 → JoinSound lc rc to s4
  join_saved lc rc to a b c d = record {
    parts = of_parts;
    left = ap (are_row_starts lc to) left_part ∙ all_pass (is_row_start lc to) (starts_of left) a;
    right = ap (are_row_starts rc to) right_part ∙ all_pass (is_row_start rc to) (starts_of right) b;
    left_waiting = ap (may_all_wait lc to) left_rest ∙ all_pass (may_wait lc to) lw c;
    right_waiting = ap (may_all_wait rc to) right_rest ∙ all_pass (may_wait rc to) rw d;
  }

  pub join_resumed : (lk rk : List ℕ) (to : ℕ) (hl hr out : List Edge) → JoinKeeps (join_meets lk rk) (paired_row rk) left right lw rw to hl hr out →
      JoinKeeps (join_meets lk rk) (paired_row rk) (rows_of (part_of 0 s4)) (rows_of (part_of 1 s4)) (part_of 2 s4) (part_of 3 s4) to hl hr out
  join_resumed lk rk to hl hr out k =
      subst (λ (a : List HeldRow). JoinKeeps (join_meets lk rk) (paired_row rk) a (rows_of (part_of 1 s4)) (part_of 2 s4) (part_of 3 s4) to hl hr out) (sym (ap rows_of left_part ∙ rows_of_starts left))
      (subst (λ (a : List HeldRow). JoinKeeps (join_meets lk rk) (paired_row rk) left a (part_of 2 s4) (part_of 3 s4) to hl hr out) (sym (ap rows_of right_part ∙ rows_of_starts right))
      (subst (λ (a : List Edge). JoinKeeps (join_meets lk rk) (paired_row rk) left right a (part_of 3 s4) to hl hr out) (sym left_rest)
      (subst (λ (a : List Edge). JoinKeeps (join_meets lk rk) (paired_row rk) left right lw a to hl hr out) (sym right_rest) k)))
