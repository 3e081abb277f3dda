-- What is kept of an anti-join at first, and after it was saved and loaded.
use Rattle.std.specs.Prelude.{◌≡◌, ℕ, zero, suc, ◌+◌, ◌*◌, ◌<◌, ◌≤◌, true, All, List, [], ◌++◌, map, refl}
use Rattle.std.proofs.Common.{sym, ◌∙◌, ap, subst, arith}
use Rattle.std.proofs.lemmas.List.{append-nil}
use Rattle.tw_rows.specs.Bag.{SameBag}
use Rattle.tw_rows.specs.Cells.{datum_kind}
use Rattle.tw_rows.specs.declared.cells.Datum.{Datum}
use Rattle.tw_rows.specs.declared.edge.Edge.{Edge}
use Rattle.tw_rows.specs.declared.edge.HeldRow.{HeldRow}
use Rattle.tw_rows.specs.declared.kind.CellKind.{CellKind}
use Rattle.tw_rows.proofs.Bags.{SameBag-trans}
use Rattle.edge_history.specs.History.{CellEvent, of}
use Rattle.edge_history.specs.Order.{failing, many}
use Rattle.edge_history.specs.Side.{reaches}
use Rattle.edge_stream.specs.declared.saved.SavedEntry.{SavedEntry}
use Rattle.edge_stream.specs.Entries.{entries_of, part_of, are_of_parts}
use Rattle.edge_stream.proofs.CarriedParts.{parts_pass, part_of_own, part_of_other, part_of_append, parts_own, parts_append, all_pass}
use Rattle.plan_model.specs.declared.node.Node.TheVariants.{Anti}
use Rattle.plan_laws.specs.Held.{may_hold}
use Rattle.synopsis.specs.Held.{is_of_key}
use Rattle.edge_stream.specs.Standing.{Standing, IsStoredAs, AreStoredAs}
use Rattle.sweep_sides.proofs.KeptSides.{row_cells, waiting_cells, none_side}
use Rattle.sweep_laws.specs.Saving.{starts_of, rows_of, is_row_start, may_wait, are_row_starts, may_all_wait, HaveBegun}
use Rattle.sweep_laws.proofs.Stored.{rows_of_starts}
use Rattle.anti_join.proofs.Held.{held_same}
use Rattle.anti_join.proofs.Steps.{kept_none}
use Rattle.anti_join.specs.Operating.{anti_row}
use Rattle.sweep_sides.specs.Waiting.{AreTimed}
use Rattle.anti_join.specs.declared.sides.AntiSides.{AntiSides}
use Rattle.anti_join.specs.Holding.{AntiKeeps}
use Rattle.anti_join.specs.States.{SidesKeep, SidesFit, IsEmpty, AntiStored, AntiSound}

-- of no edges nothing is kept, which fits any time
pub anti_opens : (s : AntiSides) → IsEmpty s → SidesKeep s 0 [] [] []
anti_opens s e = record {
  by = e.by;
  left_timed = subst AreTimed (sym e.none_left) refl;
  right_timed = subst AreTimed (sym e.none_right) refl;
  kept = rw (e.left, e.right, e.times, e.none_left, e.none_right) (kept_none s.rows.left.key s.rows.right.key);
  single = λ k. (let n = ap (many (is_of_key s.rows.left.key k)) e.times in omega (arith, n));
}

none_begun : (kinds : List CellKind) (to : ℕ) (rows : List HeldRow) → rows ≡ [] → HaveBegun kinds to rows
none_begun kinds to rows e = rw e refl

pub anti_fits : (s : AntiSides) (lc rc : List CellKind) (to : ℕ) → IsEmpty s → SidesFit lc rc to s
anti_fits s lc rc to e = record {
  by = e.by;
  sides = record {
    left = none_side lc to s.rows.left.rows s.left_waiting e.left e.none_left;
    right = none_side rc to s.rows.right.rows s.right_waiting e.right e.none_right;
    times = none_begun lc to s.rows.times.rows e.times;
  };
}

-- LOADING: the same rows, times and edges in another order
pub anti_loaded : (lk rk lk2 rk2 : List ℕ) (to : ℕ) (left right times left2 right2 times2 : List HeldRow) (lw vw lw2 vw2 hl hr out : List Edge) → lk2 ≡ lk → rk2 ≡ rk →
    SameBag left2 left → SameBag right2 right → SameBag times2 times → SameBag lw2 lw → SameBag vw2 vw →
    AntiKeeps lk rk left right times lw vw to hl hr out → AntiKeeps lk2 rk2 left2 right2 times2 lw2 vw2 to hl hr out
anti_loaded lk rk lk2 rk2 to left right times left2 right2 times2 lw vw lw2 vw2 hl hr out e f a b t c d k = rw (e, f) (record {
  left_history = k.left_history;
  right_history = k.right_history;
  left_waits = SameBag-trans _ _ _ c k.left_waits;
  right_waits = SameBag-trans _ _ _ d k.right_waits;
  now = held_same lk rk (of hl) (of hr) to left right times left2 right2 times2 a b t k.now;
  told = k.told;
})

-- at most two rows and edges for each event of a side that does not end before the time, and one time for each left one
pub anti_bound : (lk rk : List ℕ) (x to n m l : ℕ) (a b own : List CellEvent) → n ≤ 2 * many (reaches to) a → m ≤ 2 * many (reaches to) b → l ≤ many (reaches to) a →
    n + m + l ≤ may_hold (Anti 0 1 lk rk) x to a b own
anti_bound lk rk x to n m l a b own left right times = omega (arith, left, right, times)

-- each entry of a sound state has the cells of its row
pub anti_rows_stored : (s : Standing) (saved : List SavedEntry) (to : ℕ) (lc rc : List CellKind) → s.left_kinds ≡ lc → s.right_kinds ≡ rc → AntiStored lc rc to saved →
    AreStoredAs anti_row s saved
anti_rows_stored s saved to lc rc el er sound = parts_pass (λ part. IsStoredAs s (anti_row part)) 5 saved sound.parts each
  where
    left : (p : ℕ) → All (λ e. map datum_kind e.cells ≡ lc) (part_of p saved) → All (λ e. map datum_kind e.cells ≡ s.left_kinds) (part_of p saved)
    left p h = subst (λ (k : List CellKind). All (λ (e : Edge). map datum_kind e.cells ≡ k) (part_of p saved)) (sym el) h

    right : (p : ℕ) → All (λ e. map datum_kind e.cells ≡ rc) (part_of p saved) → All (λ e. map datum_kind e.cells ≡ s.right_kinds) (part_of p saved)
    right p h = subst (λ (k : List CellKind). All (λ (e : Edge). map datum_kind e.cells ≡ k) (part_of p saved)) (sym er) h

    each : (p : ℕ) → p < 5 → All (λ e. IsStoredAs s (anti_row p) e.cells) (part_of p saved)
    each zero low = left 0 (row_cells lc to (part_of 0 saved) sound.left)
    each (suc zero) low = right 1 (row_cells rc to (part_of 1 saved) sound.right)
    each (suc (suc zero)) low = left 2 (waiting_cells lc to (part_of 2 saved) sound.left_waiting)
    each (suc (suc (suc zero))) low = right 3 (waiting_cells rc to (part_of 3 saved) sound.right_waiting)
    each (suc (suc (suc (suc zero)))) low = left 4 (row_cells lc to (part_of 4 saved) sound.times)
    each (suc (suc (suc (suc (suc n))))) low = absurd (omega (arith, low))

-- SAVING
module _ (left right times : List HeldRow) (lw rw : List Edge) (s0 s1 s2 s3 s4 s5 : List SavedEntry) (empty : s0 ≡ []) (e1 : s1 ≡ s0 ++ entries_of 0 (starts_of left))
    (e2 : s2 ≡ s1 ++ entries_of 1 (starts_of right)) (e3 : s3 ≡ s2 ++ entries_of 2 lw) (e4 : s4 ≡ s3 ++ entries_of 3 rw) (e5 : s5 ≡ s4 ++ entries_of 4 (starts_of times)) where
  abbrev p0 : List SavedEntry
  p0 = entries_of 0 (starts_of left)

  abbrev p1 : List SavedEntry
  p1 = entries_of 1 (starts_of right)

  abbrev p2 : List SavedEntry
  p2 = entries_of 2 lw

  abbrev p3 : List SavedEntry
  p3 = entries_of 3 rw

  abbrev p4 : List SavedEntry
  p4 = entries_of 4 (starts_of times)

  all : s5 ≡ p0 ++ p1 ++ p2 ++ p3 ++ p4
  all = e5 ∙ ap (λ s. s ++ p4) (e4 ∙ ap (λ s. s ++ p3) (e3 ∙ ap (λ s. s ++ p2) (e2 ∙ ap (λ s. s ++ p1) (e1 ∙ ap (λ s. s ++ p0) empty))))

  cut_of : (p : ℕ) → part_of p s5 ≡ part_of p p0 ++ part_of p p1 ++ part_of p p2 ++ part_of p p3 ++ part_of p p4
  cut_of p =
      ap (part_of p) all ∙ (part_of_append p (p0 ++ p1 ++ p2 ++ p3) p4
      ∙ ap (λ l. l ++ part_of p p4) (part_of_append p (p0 ++ p1 ++ p2) p3
      ∙ (ap (λ l. l ++ part_of p p3) (part_of_append p (p0 ++ p1) p2) ∙ ap (λ l. l ++ part_of p p2 ++ part_of p p3) (part_of_append p p0 p1))))

  left_part : part_of 0 s5 ≡ starts_of left
  left_part =
      cut_of 0 ∙ ((λ i. part_of_own 0 (starts_of left) i ++ part_of_other 0 1 (starts_of right) refl i ++ part_of_other 0 2 lw refl i ++ part_of_other 0 3 rw refl i ++ part_of_other 0 4 (starts_of times) refl i)
      ∙ (append-nil (starts_of left ++ [] ++ [] ++ []) ∙ (append-nil (starts_of left ++ [] ++ []) ∙ (append-nil (starts_of left ++ []) ∙ append-nil (starts_of left)))))

  right_part : part_of 1 s5 ≡ starts_of right
  right_part =
      cut_of 1 ∙ ((λ i. part_of_other 1 0 (starts_of left) refl i ++ part_of_own 1 (starts_of right) i ++ part_of_other 1 2 lw refl i ++ part_of_other 1 3 rw refl i ++ part_of_other 1 4 (starts_of times) refl i)
      ∙ (append-nil (starts_of right ++ [] ++ []) ∙ (append-nil (starts_of right ++ []) ∙ append-nil (starts_of right))))

  left_rest : part_of 2 s5 ≡ lw
  left_rest =
      cut_of 2 ∙ ((λ i. part_of_other 2 0 (starts_of left) refl i ++ part_of_other 2 1 (starts_of right) refl i ++ part_of_own 2 lw i ++ part_of_other 2 3 rw refl i ++ part_of_other 2 4 (starts_of times) refl i)
      ∙ (append-nil (lw ++ []) ∙ append-nil lw))

  right_rest : part_of 3 s5 ≡ rw
  right_rest =
      cut_of 3 ∙ ((λ i. part_of_other 3 0 (starts_of left) refl i ++ part_of_other 3 1 (starts_of right) refl i ++ part_of_other 3 2 lw refl i ++ part_of_own 3 rw i ++ part_of_other 3 4 (starts_of times) refl i) ∙ append-nil rw)

  times_part : part_of 4 s5 ≡ starts_of times
  times_part =
      cut_of 4 ∙ (λ i. part_of_other 4 0 (starts_of left) refl i ++ part_of_other 4 1 (starts_of right) refl i ++ part_of_other 4 2 lw refl i ++ part_of_other 4 3 rw refl i ++ part_of_own 4 (starts_of times) i)

  of_parts : are_of_parts 5 s5 ≡ true
  of_parts =
      ap (are_of_parts 5) all ∙ parts_append 5 (p0 ++ p1 ++ p2 ++ p3) p4 (parts_append 5 (p0 ++ p1 ++ p2) p3
      (parts_append 5 (p0 ++ p1) p2 (parts_append 5 p0 p1 (parts_own 5 0 (starts_of left) refl) (parts_own 5 1 (starts_of right) refl)) (parts_own 5 2 lw refl)) (parts_own 5 3 rw refl)) (parts_own 5 4 (starts_of times) refl)

  pub anti_saved : (lk : List ℕ) (lc rc : List CellKind) (to : ℕ) → HaveBegun lc to left → HaveBegun rc to right → failing (may_wait lc to) lw ≡ 0 → failing (may_wait rc to) rw ≡ 0 → HaveBegun lc to times →
      ((k : List Datum) → many (is_of_key lk k) times ≤ 1) → AntiSound lk lc rc to s5
  anti_saved lk lc rc to a b c d e one = record {
    stored = record {
      parts = of_parts;
      left = ap (are_row_starts lc to) left_part ∙ all_pass (is_row_start lc to) (starts_of left) a;
      right = ap (are_row_starts rc to) right_part ∙ all_pass (is_row_start rc to) (starts_of right) b;
      left_waiting = ap (may_all_wait lc to) left_rest ∙ all_pass (may_wait lc to) lw c;
      right_waiting = ap (may_all_wait rc to) right_rest ∙ all_pass (may_wait rc to) rw d;
      times = ap (are_row_starts lc to) times_part ∙ all_pass (is_row_start lc to) (starts_of times) e;
    };
    single = λ k. subst (λ (l : List HeldRow). many (is_of_key lk k) l ≤ 1) (sym (ap rows_of times_part ∙ rows_of_starts times)) (one k);
  }

  pub anti_resumed : (lk rk : List ℕ) (to : ℕ) (hl hr out : List Edge) → AntiKeeps lk rk left right times lw rw to hl hr out →
      AntiKeeps lk rk (rows_of (part_of 0 s5)) (rows_of (part_of 1 s5)) (rows_of (part_of 4 s5)) (part_of 2 s5) (part_of 3 s5) to hl hr out
  anti_resumed lk rk to hl hr out k =
      let t = ap rows_of times_part ∙ rows_of_starts times in
      subst (λ (a : List HeldRow). AntiKeeps lk rk a (rows_of (part_of 1 s5)) (rows_of (part_of 4 s5)) (part_of 2 s5) (part_of 3 s5) to hl hr out) (sym (ap rows_of left_part ∙ rows_of_starts left))
      (subst (λ (a : List HeldRow). AntiKeeps lk rk left a (rows_of (part_of 4 s5)) (part_of 2 s5) (part_of 3 s5) to hl hr out) (sym (ap rows_of right_part ∙ rows_of_starts right))
      (subst (λ (a : List HeldRow). AntiKeeps lk rk left right a (part_of 2 s5) (part_of 3 s5) to hl hr out) (sym t)
      (subst (λ (a : List Edge). AntiKeeps lk rk left right times a (part_of 3 s5) to hl hr out) (sym left_rest)
      (subst (λ (a : List Edge). AntiKeeps lk rk left right times lw a to hl hr out) (sym right_rest) k))))
