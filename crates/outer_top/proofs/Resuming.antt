-- What is kept of a Top at first, how much it is, and after it was saved and loaded.
use Rattle.std.specs.Prelude.{◌≡◌, ℕ, zero, suc, ◌+◌, ◌<◌, ◌≤◌, nat_lt, All, Bool, true, false, cond, List, [], ◌∷◌, ◌++◌, length, map, filter, refl}
use Rattle.std.specs.List.{IsDistinct}
use Rattle.std.proofs.Common.{sym, ◌∙◌, ap, subst, arith}
use Rattle.std.proofs.lemmas.List.{append-nil, length-map}
use Rattle.std.proofs.lemmas.Bool.{le-ltb}
use Rattle.tw_rows.specs.Bag.{SameBag, total}
use Rattle.tw_rows.specs.Event.{alive}
use Rattle.tw_rows.specs.Instant.{inf}
use Rattle.tw_rows.specs.SameCells.{same_cells}
use Rattle.tw_rows.specs.Cells.{datum_kind}
use Rattle.tw_rows.specs.declared.cells.Datum.{Datum}
use Rattle.tw_rows.specs.declared.edge.Edge.{Edge}
use Rattle.tw_rows.specs.declared.edge.HeldRow.{HeldRow}
use Rattle.tw_rows.specs.declared.kind.CellKind.{CellKind}
use Rattle.tw_rows.proofs.Bags.{SameBag-trans, SameBag-refl, total-map}
use Rattle.edge_history.specs.History.{CellEvent, of}
use Rattle.edge_history.specs.Opens.{opens, bare}
use Rattle.edge_history.proofs.Opening.{alive_is_open}
use Rattle.key_nodes.proofs.CoalescedRows.{coalesced_rows}
use Rattle.key_nodes.specs.Tops.{greater}
use Rattle.edge_history.specs.Order.{failing}
use Rattle.edge_history.proofs.Telling.{told_nothing}
use Rattle.edge_history.proofs.Waiting.{side_bound}
use Rattle.edge_stream.specs.declared.saved.SavedEntry.{SavedEntry}
use Rattle.end_queue.specs.Pending.{Pending}
use Rattle.edge_stream.specs.Entries.{entries_of, part_of, are_of_parts}
use Rattle.edge_stream.proofs.CarriedParts.{parts_pass, part_of_own, part_of_other, part_of_append, parts_own, parts_append, all_pass}
use Rattle.plan_model.specs.declared.node.Node.TheVariants.{Top as TopNode}
use Rattle.plan_laws.specs.Held.{may_hold}
use Rattle.plan_laws.proofs.Standing.{no_history}
use Rattle.edge_stream.specs.Standing.{own_kept, Standing, IsStoredAs, AreStoredAs}
use Rattle.synopsis.proofs.OpenRows.{queues_are_open}
use Rattle.synopsis.proofs.Once.{cells_tell}
use Rattle.synopsis.specs.Queued.{queue_of}
use Rattle.sweep_laws.specs.Saving.{starts_of, rows_of, is_row_start, may_wait, are_row_starts, may_all_wait}
use Rattle.sweep_laws.proofs.Stored.{rows_of_starts}
use Rattle.sweep_sides.specs.Waiting.{queued, AreTimed}
use Rattle.sweep_sides.proofs.KeptSides.{row_cells, waiting_cells, open_few, none_side}
use Rattle.outer_top.specs.TopKeys.{kept_rows, meets, value_of}
use Rattle.outer_top.specs.TopEvents.{tops_at, tops, AreSettled}
use Rattle.outer_top.specs.Operating.{top_row}
use Rattle.outer_top.specs.Sides.{SideKeeps, SideFits, IsEmpty}
use Rattle.outer_top.specs.States.{TopKeeps, TopSound}
use Rattle.outer_top.specs.declared.side.TopSide.{TopSide}

-- no row is open before the first instant
no_open : (es : List CellEvent) → opens 0 es ≡ []
no_open [] = refl
no_open (e ∷ es) = (let t = le-ltb e.start 0 (omega arith) in let r = no_open es in rw (t, r) refl)

counted : {X : Type 0} (xs : List X) → total (λ x. 1) xs ≡ length xs
counted [] = refl
counted (x ∷ xs) = (let t = counted xs in omega (arith, t))

kept_few : {X : Type 0} (p : X → Bool) (xs : List X) → total (λ x. 1) (filter p xs) ≤ total (λ x. 1) xs
kept_few p [] = omega arith
kept_few p (x ∷ xs) = pick (p x) (kept_few p xs)
  where
    pick : (b : Bool) → total (λ x. 1) (filter p xs) ≤ total (λ x. 1) xs → total (λ x. 1) (cond b (x ∷ filter p xs) (filter p xs)) ≤ 1 + total (λ x. 1) xs
    pick true rest = omega (arith, rest)
    pick false rest = omega (arith, rest)

-- no more rows are shown than are alive
shown_few : (columns : List ℕ) (by most : ℕ) (a : List CellEvent) (x : ℕ) (rows shown : List HeldRow) → x ≤ inf → SameBag rows (opens x a) → SameBag shown (opens x (tops columns by most a)) →
    length shown ≤ length rows
shown_few columns by most a zero rows shown low kept there =
    let c = counted shown in
    let o = there.weigh (λ r. 1) in
    let n = ap (total (λ r. 1)) (no_open (tops columns by most a)) in
    omega (arith, c, o, n)
shown_few columns by most a (suc u) rows shown low kept there =
    let T = tops columns by most a in
    let c = counted shown in
    let d = counted rows in
    let o = there.weigh (λ r. 1) in
    let k = kept.weigh (λ r. 1) in
    let m : total (λ z. 1) (bare (opens (suc u) T)) ≡ total (λ r. 1) (opens (suc u) T) = total-map (λ z. 1) (λ r. r.cells) (opens (suc u) T) in
    let n : total (λ z. 1) (bare (opens (suc u) a)) ≡ total (λ r. 1) (opens (suc u) a) = total-map (λ z. 1) (λ r. r.cells) (opens (suc u) a) in
    let p = (alive_is_open u T).weigh (λ z. 1) in
    let q = (alive_is_open u a).weigh (λ z. 1) in
    let r = (coalesced_rows same_cells cells_tell (tops_at columns by most a) u (omega (arith, low))).weigh (λ z. 1) in
    let f : total (λ z. 1) (tops_at columns by most a u) ≤ total (λ z. 1) (alive a u) = kept_few (λ z. nat_lt (greater (meets columns) (value_of by) (alive a u) z) most) (alive a u) in
    omega (arith, c, d, o, k, m, n, p, q, r, f)

no_keys_settled : (columns : List ℕ) (by most : ℕ) → AreSettled columns by most []
unfolding IsDistinct
no_keys_settled columns by most = record { rows = record { own = refl; ranked = refl }; settled = refl; apart = tt }

-- of no edges nothing is kept, which fits any time
pub top_opens : (s : TopSide) → IsEmpty s → SideKeeps s 0 [] []
top_opens s e = record {
  timed = subst AreTimed (sym e.none) refl;
  settled = subst (AreSettled s.tops.key.columns s.tops.by s.tops.most) (sym e.no_keys) (no_keys_settled s.tops.key.columns s.tops.by s.tops.most);
  kept = (let a = e.no_keys in let b = e.none_shown in let c = e.none in rw (a, b, c) none);
}
  where
    none : TopKeeps s.tops.key.columns s.tops.by s.tops.most (kept_rows []) (queued []) [] 0 [] []
    none = record {
      low = omega arith;
      history = no_history;
      waits = SameBag-refl [];
      rows_are = SameBag-refl [];
      queues = λ c. refl;
      told = told_nothing (tops s.tops.key.columns s.tops.by s.tops.most []);
    }

pub top_fits : (s : TopSide) (kinds : List CellKind) (to : ℕ) → IsEmpty s → SideFits kinds to s
top_fits s kinds to e = record {
  side = none_side kinds to (kept_rows s.tops.keys.entries) s.waiting (ap kept_rows e.no_keys) e.none;
  shown = (let b = e.none_shown in rw b refl);
}

module _ (columns : List ℕ) (by most : ℕ) where
  -- how much is kept
  pub top_bound : (to : ℕ) (rows : List HeldRow) (waiting : List Pending) (shown : List HeldRow) (hl hr out : List Edge) →
      TopKeeps columns by most rows (queued waiting) shown to hl out →
      length rows + length waiting + length shown ≤ may_hold (TopNode 0 columns by most) to to (of hl) (of hr) (own_kept (TopNode 0 columns by most) (of hl) (of hr))
  top_bound to rows waiting shown hl hr out k =
      let a = shown_few columns by most (of hl) to rows shown k.low k.rows_are (queues_are_open (tops_at columns by most (of hl)) to shown k.low k.queues) in
      let c = open_few to (of hl) rows k.rows_are in
      let b = side_bound hl rows (queued waiting) to k.history k.rows_are k.waits in
      let m = length-map waiting (λ (p : Pending). p.edge) in
      omega (arith, a, b, c, m)

  -- LOADING: the same rows, the same queues, and the same edges in another order
  pub top_loaded : (to : ℕ) (rows rows2 : List HeldRow) (waiting waiting2 : List Edge) (shown shown2 : List HeldRow) (came out : List Edge) →
      SameBag rows2 rows → SameBag waiting2 waiting → ((c : List Datum) → queue_of shown2 c ≡ queue_of shown c) →
      TopKeeps columns by most rows waiting shown to came out → TopKeeps columns by most rows2 waiting2 shown2 to came out
  top_loaded to rows rows2 waiting waiting2 shown shown2 came out a b c k = record {
    low = k.low;
    history = k.history;
    waits = SameBag-trans _ _ _ b k.waits;
    rows_are = SameBag-trans _ _ _ a k.rows_are;
    queues = λ r. c r ∙ k.queues r;
    told = k.told;
  }

-- each entry of a sound state has the cells of its row
pub top_rows_stored : (s : Standing) (saved : List SavedEntry) (x : ℕ) (kinds : List CellKind) → s.left_kinds ≡ kinds → TopSound kinds x saved → AreStoredAs top_row s saved
top_rows_stored s saved x kinds is sound = parts_pass (λ part. IsStoredAs s (top_row part)) 3 saved sound.parts each
  where
    left : (p : ℕ) → All (λ e. map datum_kind e.cells ≡ kinds) (part_of p saved) → All (λ e. map datum_kind e.cells ≡ s.left_kinds) (part_of p saved)
    left p h = subst (λ (k : List CellKind). All (λ (e : Edge). map datum_kind e.cells ≡ k) (part_of p saved)) (sym is) h

    each : (p : ℕ) → p < 3 → All (λ e. IsStoredAs s (top_row p) e.cells) (part_of p saved)
    each zero low = left 0 (row_cells kinds x (part_of 0 saved) sound.rows)
    each (suc zero) low = left 1 (waiting_cells kinds x (part_of 1 saved) sound.waiting)
    each (suc (suc zero)) low = left 2 (row_cells kinds x (part_of 2 saved) sound.shown)
    each (suc (suc (suc n))) low = absurd (omega (arith, low))

-- SAVING
module _ (rows : List HeldRow) (waiting : List Edge) (shown : List HeldRow) (s0 s1 s2 s3 : List SavedEntry) (empty : s0 ≡ []) (e1 : s1 ≡ s0 ++ entries_of 0 (starts_of rows))
    (e2 : s2 ≡ s1 ++ entries_of 1 waiting) (e3 : s3 ≡ s2 ++ entries_of 2 (starts_of shown)) where
  abbrev p0 : List SavedEntry
  p0 = entries_of 0 (starts_of rows)

  abbrev p1 : List SavedEntry
  p1 = entries_of 1 waiting

  abbrev p2 : List SavedEntry
  p2 = entries_of 2 (starts_of shown)

  all : s3 ≡ (p0 ++ p1) ++ p2
  all = e3 ∙ ap (λ s. s ++ p2) (e2 ∙ ap (λ s. s ++ p1) (e1 ∙ ap (λ s. s ++ p0) empty))

  cut_of : (p : ℕ) → part_of p s3 ≡ (part_of p p0 ++ part_of p p1) ++ part_of p p2
  cut_of p = ap (part_of p) all ∙ (part_of_append p (p0 ++ p1) p2 ∙ ap (λ l. l ++ part_of p p2) (part_of_append p p0 p1))

  first_part : part_of 0 s3 ≡ starts_of rows
  first_part = cut_of 0 ∙ ((λ i. (part_of_own 0 (starts_of rows) i ++ part_of_other 0 1 waiting refl i) ++ part_of_other 0 2 (starts_of shown) refl i)
      ∙ (append-nil (starts_of rows ++ []) ∙ append-nil (starts_of rows)))

  second_part : part_of 1 s3 ≡ waiting
  second_part = cut_of 1 ∙ ((λ i. (part_of_other 1 0 (starts_of rows) refl i ++ part_of_own 1 waiting i) ++ part_of_other 1 2 (starts_of shown) refl i) ∙ append-nil waiting)

  third_part : part_of 2 s3 ≡ starts_of shown
  third_part = cut_of 2 ∙ (λ i. (part_of_other 2 0 (starts_of rows) refl i ++ part_of_other 2 1 waiting refl i) ++ part_of_own 2 (starts_of shown) i)

  pub top_saved : (kinds : List CellKind) (x : ℕ) → failing (is_row_start kinds x) (starts_of rows) ≡ 0 → failing (may_wait kinds x) waiting ≡ 0 → failing (is_row_start kinds x) (starts_of shown) ≡ 0 →
      TopSound kinds x s3
  top_saved kinds x a b c = record {
    parts = ap (are_of_parts 3) all ∙ parts_append 3 (p0 ++ p1) p2 (parts_append 3 p0 p1 (parts_own 3 0 (starts_of rows) refl) (parts_own 3 1 waiting refl)) (parts_own 3 2 (starts_of shown) refl);
    rows = ap (are_row_starts kinds x) first_part ∙ all_pass (is_row_start kinds x) (starts_of rows) a;
    waiting = ap (may_all_wait kinds x) second_part ∙ all_pass (may_wait kinds x) waiting b;
    shown = ap (are_row_starts kinds x) third_part ∙ all_pass (is_row_start kinds x) (starts_of shown) c;
  }

  pub top_resumed : (columns : List ℕ) (by most : ℕ) (to : ℕ) (came out : List Edge) → TopKeeps columns by most rows waiting shown to came out →
      TopKeeps columns by most (rows_of (part_of 0 s3)) (part_of 1 s3) (rows_of (part_of 2 s3)) to came out
  top_resumed columns by most to came out k =
      subst (λ (a : List HeldRow). TopKeeps columns by most a (part_of 1 s3) (rows_of (part_of 2 s3)) to came out) (sym (ap rows_of first_part ∙ rows_of_starts rows))
      (subst (λ (a : List Edge). TopKeeps columns by most rows a (rows_of (part_of 2 s3)) to came out) (sym second_part)
      (subst (λ (a : List HeldRow). TopKeeps columns by most rows waiting a to came out) (sym (ap rows_of third_part ∙ rows_of_starts shown)) k))
