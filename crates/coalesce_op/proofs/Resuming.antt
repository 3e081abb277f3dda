-- What is kept of a Coalesce at first, how much it is, and after it was saved and loaded.
use Rattle.std.specs.Prelude.{◌≡◌, ℕ, zero, suc, ◌+◌, ◌<◌, ◌≤◌, All, List, [], ◌++◌, length, map, refl}
use Rattle.std.proofs.Common.{sym, ◌∙◌, ap, subst, arith}
use Rattle.std.proofs.lemmas.List.{append-nil, length-map}
use Rattle.tw_rows.specs.Bag.{SameBag}
use Rattle.tw_rows.specs.Cells.{datum_kind}
use Rattle.tw_rows.specs.Event.{alive}
use Rattle.tw_rows.specs.declared.cells.Datum.{Datum}
use Rattle.tw_rows.specs.declared.edge.Edge.{Edge}
use Rattle.tw_rows.specs.declared.edge.HeldRow.{HeldRow}
use Rattle.tw_rows.specs.declared.kind.CellKind.{CellKind}
use Rattle.tw_rows.proofs.Bags.{SameBag-trans, SameBag-refl}
use Rattle.edge_history.specs.History.{of}
use Rattle.edge_history.specs.Opens.{opens}
use Rattle.edge_history.specs.Order.{failing}
use Rattle.edge_history.proofs.Telling.{told_nothing}
use Rattle.edge_history.proofs.Waiting.{side_bound}
use Rattle.edge_stream.specs.declared.saved.SavedEntry.{SavedEntry}
use Rattle.end_queue.specs.Pending.{Pending}
use Rattle.edge_stream.specs.Entries.{entries_of, part_of, are_of_parts}
use Rattle.edge_stream.proofs.CarriedParts.{parts_pass, part_of_own, part_of_other, part_of_append, parts_own, parts_append, all_pass}
use Rattle.plan_model.specs.declared.node.Node.TheVariants.{Coalesce as CoalesceNode}
use Rattle.plan_laws.specs.Held.{may_hold}
use Rattle.plan_laws.proofs.Standing.{no_history}
use Rattle.edge_stream.specs.Standing.{Standing, IsStoredAs, AreStoredAs}
use Rattle.synopsis.proofs.OpenRows.{queues_are_open}
use Rattle.synopsis.specs.Queued.{queue_of}
use Rattle.sweep_laws.specs.Saving.{starts_of, rows_of, is_row_start, may_wait, are_row_starts, may_all_wait}
use Rattle.sweep_laws.proofs.Stored.{rows_of_starts}
use Rattle.sweep_sides.specs.Waiting.{queued, AreTimed}
use Rattle.sweep_sides.proofs.KeptSides.{row_cells, waiting_cells, open_few}
use Rattle.coalesce_op.specs.Coalesces.{coalesces}
use Rattle.coalesce_op.specs.Holding.{CoalesceKeeps}
use Rattle.coalesce_op.specs.Operating.{coalesce_row}
use Rattle.coalesce_op.specs.States.{SideKeeps, IsEmpty, CoalesceSound}
use Rattle.coalesce_op.specs.declared.side.CoalesceSide.{CoalesceSide}

-- of no edges nothing is kept
pub coalesce_opens : (s : CoalesceSide) → IsEmpty s → SideKeeps s 0 [] []
coalesce_opens s e = record {
  timed = subst AreTimed (sym e.none) refl;
  kept = (let a = e.no_rows in let b = e.none in rw (a, b) none);
}
  where
    none : CoalesceKeeps [] (queued []) 0 [] []
    none = record {
      low = omega arith;
      history = no_history;
      waits = SameBag-refl [];
      now = λ c. refl;
      told = told_nothing (coalesces []);
    }

-- how much is kept
pub coalesce_bound : (to : ℕ) (rows : List HeldRow) (waiting : List Pending) (hl hr out : List Edge) → CoalesceKeeps rows (queued waiting) to hl out →
    length rows + length waiting ≤ may_hold (CoalesceNode 0) to to (of hl) (of hr) (coalesces (of hl))
coalesce_bound to rows waiting hl hr out k =
    let a = open_few to (coalesces (of hl)) rows (queues_are_open (alive (of hl)) to rows k.low k.now) in
    let b = side_bound hl (opens to (of hl)) (queued waiting) to k.history (SameBag-refl (opens to (of hl))) k.waits in
    let m = length-map waiting (λ (p : Pending). p.edge) in
    omega (arith, a, b, m)

-- LOADING: the same queues, and the same edges in another order
pub coalesce_loaded : (to : ℕ) (rows rows2 : List HeldRow) (waiting waiting2 came out : List Edge) →
    ((c : List Datum) → queue_of rows2 c ≡ queue_of rows c) → SameBag waiting2 waiting → CoalesceKeeps rows waiting to came out → CoalesceKeeps rows2 waiting2 to came out
coalesce_loaded to rows rows2 waiting waiting2 came out a b k = record {
  low = k.low;
  history = k.history;
  waits = SameBag-trans _ _ _ b k.waits;
  now = λ c. a c ∙ k.now c;
  told = k.told;
}

-- each entry of a sound state has the cells of its row
pub coalesce_rows_stored : (s : Standing) (saved : List SavedEntry) (x : ℕ) (kinds : List CellKind) → s.left_kinds ≡ kinds → CoalesceSound kinds x saved → AreStoredAs coalesce_row s saved
coalesce_rows_stored s saved x kinds is sound = parts_pass (λ part. IsStoredAs s (coalesce_row part)) 2 saved sound.parts each
  where
    left : (p : ℕ) → All (λ e. map datum_kind e.cells ≡ kinds) (part_of p saved) → All (λ e. map datum_kind e.cells ≡ s.left_kinds) (part_of p saved)
    left p h = subst (λ (k : List CellKind). All (λ (e : Edge). map datum_kind e.cells ≡ k) (part_of p saved)) (sym is) h

    each : (p : ℕ) → p < 2 → All (λ e. IsStoredAs s (coalesce_row p) e.cells) (part_of p saved)
    each zero low = left 0 (row_cells kinds x (part_of 0 saved) sound.rows)
    each (suc zero) low = left 1 (waiting_cells kinds x (part_of 1 saved) sound.waiting)
    each (suc (suc n)) low = absurd (omega (arith, low))

-- SAVING
module _ (rows : List HeldRow) (waiting : List Edge) (s0 s1 s2 : List SavedEntry) (empty : s0 ≡ []) (e1 : s1 ≡ s0 ++ entries_of 0 (starts_of rows)) (e2 : s2 ≡ s1 ++ entries_of 1 waiting) where
  abbrev p0 : List SavedEntry
  p0 = entries_of 0 (starts_of rows)

  abbrev p1 : List SavedEntry
  p1 = entries_of 1 waiting

  all : s2 ≡ p0 ++ p1
  all = e2 ∙ ap (λ s. s ++ p1) (e1 ∙ ap (λ s. s ++ p0) empty)

  cut_of : (p : ℕ) → part_of p s2 ≡ part_of p p0 ++ part_of p p1
  cut_of p = ap (part_of p) all ∙ part_of_append p p0 p1

  first_part : part_of 0 s2 ≡ starts_of rows
  first_part = cut_of 0 ∙ ((λ i. part_of_own 0 (starts_of rows) i ++ part_of_other 0 1 waiting refl i) ∙ append-nil (starts_of rows))

  second_part : part_of 1 s2 ≡ waiting
  second_part = cut_of 1 ∙ (λ i. part_of_other 1 0 (starts_of rows) refl i ++ part_of_own 1 waiting i)

  pub coalesce_saved : (kinds : List CellKind) (x : ℕ) → failing (is_row_start kinds x) (starts_of rows) ≡ 0 → failing (may_wait kinds x) waiting ≡ 0 → CoalesceSound kinds x s2
  coalesce_saved kinds x a b = record {
    parts = ap (are_of_parts 2) all ∙ parts_append 2 p0 p1 (parts_own 2 0 (starts_of rows) refl) (parts_own 2 1 waiting refl);
    rows = ap (are_row_starts kinds x) first_part ∙ all_pass (is_row_start kinds x) (starts_of rows) a;
    waiting = ap (may_all_wait kinds x) second_part ∙ all_pass (may_wait kinds x) waiting b;
  }

  pub coalesce_resumed : (to : ℕ) (came out : List Edge) → CoalesceKeeps rows waiting to came out → CoalesceKeeps (rows_of (part_of 0 s2)) (part_of 1 s2) to came out
  coalesce_resumed to came out k =
      subst (λ (a : List HeldRow). CoalesceKeeps a (part_of 1 s2) to came out) (sym (ap rows_of first_part ∙ rows_of_starts rows))
      (subst (λ (a : List Edge). CoalesceKeeps rows a to came out) (sym second_part) k)
