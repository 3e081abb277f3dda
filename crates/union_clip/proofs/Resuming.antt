-- What is kept of a clip at first, and after it was saved and loaded.
use Rattle.std.specs.Prelude.{◌≡◌, ℕ, zero, suc, ◌<◌, All, true, List, [], ◌++◌, map, refl}
use Rattle.std.specs.List.{list_all}
use Rattle.std.proofs.Common.{sym, ◌∙◌, ap, subst, arith}
use Rattle.std.proofs.lemmas.List.{append-nil}
use Rattle.tw_rows.specs.Bag.{SameBag}
use Rattle.tw_rows.specs.Cells.{datum_kind}
use Rattle.tw_rows.specs.declared.edge.Edge.{Edge}
use Rattle.tw_rows.specs.declared.edge.HeldRow.{HeldRow}
use Rattle.tw_rows.specs.declared.kind.CellKind.{CellKind}
use Rattle.tw_rows.proofs.Bags.{SameBag-trans}
use Rattle.edge_history.specs.Order.{failing}
use Rattle.edge_history.specs.Opens.{is_start}
use Rattle.edge_stream.specs.declared.saved.SavedEntry.{SavedEntry}
use Rattle.edge_stream.specs.Entries.{entries_of, part_of, are_of_parts}
use Rattle.edge_stream.proofs.CarriedParts.{parts_pass, part_of_own, part_of_other, part_of_append, parts_own, parts_append, all_pass}
use Rattle.edge_stream.specs.Standing.{Standing, IsStoredAs, AreStoredAs}
use Rattle.sweep_sides.proofs.KeptSides.{row_cells, waiting_cells, none_side}
use Rattle.sweep_laws.specs.Saving.{starts_of, rows_of, is_row_start, may_wait, are_row_starts, may_all_wait}
use Rattle.sweep_laws.proofs.Stored.{rows_of_starts}
use Rattle.sweep_sides.specs.Waiting.{AreTimed}
use Rattle.union_clip.specs.declared.sides.ClipSides.{ClipSides}
use Rattle.union_clip.specs.Holding.{ClipKeeps}
use Rattle.union_clip.specs.States.{SidesKeep, AreSides, IsEmpty, ClipSound}
use Rattle.union_clip.specs.Operating.{clip_row}
use Rattle.union_clip.proofs.Steps.{kept_none}

-- of no edges nothing is kept, which fits any time
pub clip_opens : (s : ClipSides) → IsEmpty s → SidesKeep s 0 [] [] []
clip_opens s e = record {
  left_timed = subst AreTimed (sym e.none_left) refl;
  right_timed = subst AreTimed (sym e.none_right) refl;
  kept = rw (e.left, e.none_left, e.none_right) (kept_none s.rows.left.key s.rows.right_key.columns);
}

pub clip_fits : (s : ClipSides) (lc rc : List CellKind) (to : ℕ) → IsEmpty s → AreSides lc rc to s
clip_fits s lc rc to e = record {
  left = none_side lc to s.rows.left.rows s.left_waiting e.left e.none_left;
  right = none_side rc to [] s.right_waiting refl e.none_right;
  right_starts = rw e.none_right refl;
}

-- LOADING: the same rows and edges in another order
pub clip_loaded : (lk rk lk2 rk2 : List ℕ) (to : ℕ) (left left2 : List HeldRow) (lw vw lw2 vw2 hl hr out : List Edge) → lk2 ≡ lk → rk2 ≡ rk →
    SameBag left2 left → SameBag lw2 lw → SameBag vw2 vw → ClipKeeps lk rk left lw vw to hl hr out → ClipKeeps lk2 rk2 left2 lw2 vw2 to hl hr out
clip_loaded lk rk lk2 rk2 to left left2 lw vw lw2 vw2 hl hr out e f a c d k = rw (e, f) (record {
  left_history = k.left_history;
  right_history = k.right_history;
  left_waits = SameBag-trans _ _ _ c k.left_waits;
  right_waits = SameBag-trans _ _ _ d k.right_waits;
  now = SameBag-trans _ _ _ a k.now;
  told = k.told;
})

-- each entry of a sound state has the cells of its row
pub clip_rows_stored : (s : Standing) (saved : List SavedEntry) (to : ℕ) (lc rc : List CellKind) → s.left_kinds ≡ lc → s.right_kinds ≡ rc → ClipSound lc rc to saved →
    AreStoredAs clip_row s saved
clip_rows_stored s saved to lc rc el er sound = parts_pass (λ part. IsStoredAs s (clip_row part)) 3 saved sound.parts each
  where
    left : (p : ℕ) → All (λ e. map datum_kind e.cells ≡ lc) (part_of p saved) → All (λ e. map datum_kind e.cells ≡ s.left_kinds) (part_of p saved)
    left p h = subst (λ (k : List CellKind). All (λ (e : Edge). map datum_kind e.cells ≡ k) (part_of p saved)) (sym el) h

    right : (p : ℕ) → All (λ e. map datum_kind e.cells ≡ rc) (part_of p saved) → All (λ e. map datum_kind e.cells ≡ s.right_kinds) (part_of p saved)
    right p h = subst (λ (k : List CellKind). All (λ (e : Edge). map datum_kind e.cells ≡ k) (part_of p saved)) (sym er) h

    each : (p : ℕ) → p < 3 → All (λ e. IsStoredAs s (clip_row p) e.cells) (part_of p saved)
    each zero low = left 0 (row_cells lc to (part_of 0 saved) sound.left)
    each (suc zero) low = left 1 (waiting_cells lc to (part_of 1 saved) sound.left_waiting)
    each (suc (suc zero)) low = right 2 (waiting_cells rc to (part_of 2 saved) sound.right_waiting)
    each (suc (suc (suc n))) low = absurd (omega (arith, low))

-- SAVING
module _ (left : List HeldRow) (lw rw : List Edge) (s0 s1 s2 s3 : List SavedEntry) (empty : s0 ≡ []) (e1 : s1 ≡ s0 ++ entries_of 0 (starts_of left))
    (e2 : s2 ≡ s1 ++ entries_of 1 lw) (e3 : s3 ≡ s2 ++ entries_of 2 rw) where
  abbrev p0 : List SavedEntry
  p0 = entries_of 0 (starts_of left)

  abbrev p1 : List SavedEntry
  p1 = entries_of 1 lw

  abbrev p2 : List SavedEntry
  p2 = entries_of 2 rw

  all : s3 ≡ p0 ++ p1 ++ p2
  all = e3 ∙ ap (λ s. s ++ p2) (e2 ∙ ap (λ s. s ++ p1) (e1 ∙ ap (λ s. s ++ p0) empty))

  cut_of : (p : ℕ) → part_of p s3 ≡ part_of p p0 ++ part_of p p1 ++ part_of p p2
  cut_of p = ap (part_of p) all ∙ (part_of_append p (p0 ++ p1) p2 ∙ ap (λ l. l ++ part_of p p2) (part_of_append p p0 p1))

  left_part : part_of 0 s3 ≡ starts_of left
  left_part =
      cut_of 0 ∙ ((λ i. part_of_own 0 (starts_of left) i ++ part_of_other 0 1 lw refl i ++ part_of_other 0 2 rw refl i)
      ∙ (append-nil (starts_of left ++ []) ∙ append-nil (starts_of left)))

  left_rest : part_of 1 s3 ≡ lw
  left_rest = cut_of 1 ∙ ((λ i. part_of_other 1 0 (starts_of left) refl i ++ part_of_own 1 lw i ++ part_of_other 1 2 rw refl i) ∙ append-nil lw)

  right_rest : part_of 2 s3 ≡ rw
  right_rest = cut_of 2 ∙ (λ i. part_of_other 2 0 (starts_of left) refl i ++ part_of_other 2 1 lw refl i ++ part_of_own 2 rw i)

  of_parts : are_of_parts 3 s3 ≡ true
  of_parts =
      ap (are_of_parts 3) all
      ∙ parts_append 3 (p0 ++ p1) p2 (parts_append 3 p0 p1 (parts_own 3 0 (starts_of left) refl) (parts_own 3 1 lw refl)) (parts_own 3 2 rw refl)

  pub clip_saved : (lc rc : List CellKind) (to : ℕ) → failing (is_row_start lc to) (starts_of left) ≡ 0 → failing (may_wait lc to) lw ≡ 0 → failing (may_wait rc to) rw ≡ 0 → failing is_start rw ≡ 0 → ClipSound lc rc to s3
  clip_saved lc rc to a c d e = record {
    parts = of_parts;
    left = ap (are_row_starts lc to) left_part ∙ all_pass (is_row_start lc to) (starts_of left) a;
    left_waiting = ap (may_all_wait lc to) left_rest ∙ all_pass (may_wait lc to) lw c;
    right_waiting = ap (may_all_wait rc to) right_rest ∙ all_pass (may_wait rc to) rw d;
    right_starts = ap (list_all is_start) right_rest ∙ all_pass is_start rw e;
  }

  pub clip_resumed : (lk rk : List ℕ) (to : ℕ) (hl hr out : List Edge) → ClipKeeps lk rk left lw rw to hl hr out →
      ClipKeeps lk rk (rows_of (part_of 0 s3)) (part_of 1 s3) (part_of 2 s3) to hl hr out
  clip_resumed lk rk to hl hr out k =
      subst (λ (a : List HeldRow). ClipKeeps lk rk a (part_of 1 s3) (part_of 2 s3) to hl hr out) (sym (ap rows_of left_part ∙ rows_of_starts left))
      (subst (λ (a : List Edge). ClipKeeps lk rk left a (part_of 2 s3) to hl hr out) (sym left_rest)
      (subst (λ (a : List Edge). ClipKeeps lk rk left lw a to hl hr out) (sym right_rest) k))
