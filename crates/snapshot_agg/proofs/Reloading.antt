-- What a group saves, and what is loaded again.
use Rattle.std.specs.Prelude.{◌≡◌, ℕ, zero, suc, ◌+◌, ◌<◌, ◌&&◌, nat_eq, nat_lt, Bool, true, false, cond, Option, Some, None, List, [], ◌∷◌, ◌++◌, length, map, filter, take, get_or, slice_get, All, refl}
use Rattle.std.specs.List.{list_all, IsDistinct, AllByRecursion}
use Rattle.std.specs.Map.{keys_of, lookup}
use Rattle.std.proofs.Common.{sym, ◌∙◌, ap, subst, arith}
use Rattle.std.proofs.lemmas.Bool.{and_parts}
use Rattle.std.proofs.lemmas.Bool.Decides.{nat_tests}
use Rattle.std.proofs.lemmas.List.{take_more}
use Rattle.std.proofs.lemmas.Map.Entries.{hash_map_get_place}
use Rattle.indexmap.specs.IndexMap.{IndexMap, IsUnique}
use Rattle.tw_rows.specs.Bag.{SameBag, total}
use Rattle.tw_rows.specs.Instant.{inf}
use Rattle.tw_rows.specs.SameCells.{same_cells, cells_are_same, same_itself, same_cells_equiv}
use Rattle.tw_rows.specs.declared.cells.Datum.{Datum}
use Rattle.tw_rows.specs.declared.edge.Edge.{Edge}
use Rattle.tw_rows.specs.declared.edge.HeldRow.{HeldRow}
use Rattle.tw_rows.specs.declared.kind.CellKind.{CellKind}
use Rattle.tw_rows.proofs.Bags.{total-map, SameBag-refl, SameBag-trans, SameBag-map, SameBag-filter}
use Rattle.edge_history.specs.Order.{failing, is_below}
use Rattle.edge_history.specs.Opens.{bare}
use Rattle.end_queue.specs.Pending.{Pending}
use Rattle.edge_stream.specs.declared.saved.SavedEntry.{SavedEntry}
use Rattle.key_nodes.specs.Groups.{has_key}
use Rattle.plan_laws.specs.Keeping.{plain_cells}
use Rattle.plan_model.specs.declared.agg.Agg.{Agg}
use Rattle.plan_model.specs.RowOps.{group_row_in, agg_in}
use Rattle.sweep_laws.specs.Running.{Run}
use Rattle.edge_history.specs.History.{CellEvent}
use Rattle.sweep_laws.specs.Grouping.{GroupKeeps, row_of_run, GroupSweeping}
use Rattle.sweep_laws.proofs.GroupSweeps.{told_by_bag}
use Rattle.edge_stream.specs.Entries.{entries_of, part_of, are_of_parts}
use Rattle.edge_stream.proofs.CarriedParts.{part_of_own, part_of_other, part_of_append, parts_own, parts_append, parts_pass}
use Rattle.snapshot_agg.specs.Words.{key_data, tell, bad}
use Rattle.snapshot_agg.specs.Keeping.{KeepsGroup, KeepsGrouped}
use Rattle.snapshot_agg.specs.KeptRows.{RowsAndEnds}
use Rattle.snapshot_agg.specs.Waiting.{all_pending}
use Rattle.sweep_sides.specs.Waiting.{queued}
use Rattle.snapshot_agg.specs.Totaled.{run_from, run_of}
use Rattle.snapshot_agg.specs.Answering.{is_stored, IsRunOf, AreRunsOf}
use Rattle.edge_stream.specs.Standing.{Standing, IsStoredAs, AreStoredAs}
use Rattle.sweep_laws.specs.Moves.{start_of}
use Rattle.sweep_laws.specs.Saving.{starts_of, rows_of, is_row_start, may_wait, are_row_starts, may_all_wait}
use Rattle.sweep_laws.proofs.Stored.{rows_of_starts}
use Rattle.sweep_sides.proofs.KeptSides.{row_cells, waiting_cells}
use Rattle.sweep_sides.specs.Sides.{IsSide}
use Rattle.snapshot_agg.specs.Operating.{group_row}
use Rattle.snapshot_agg.specs.Saving.{later_run, run_among, GroupSound, GroupResumes}
use Rattle.snapshot_agg.proofs.Answering.{some_is}
use Rattle.tw_rows.proofs.Fronts.{total_more}
use Rattle.snapshot_agg.proofs.Totaling.{tell_is_group, bad_by_key, of_key}

-- THE SAME IN ANOTHER ORDER
pub sweeping_same : (key : List ℕ) (aggs : List Agg) (a : List CellEvent) (t : ℕ) (rows rows2 : List HeldRow) (run : List Datum → Option Run) → SameBag rows2 rows →
    GroupSweeping (tell key aggs) (bad key aggs) a t rows run → GroupSweeping (tell key aggs) (bad key aggs) a t rows2 run
sweeping_same key aggs a t rows rows2 run same s = record {
  swept = record { alive_rows = SameBag-trans _ _ _ same s.swept.alive_rows; open_runs = s.swept.open_runs };
  steady = λ q. s.steady q
      ∙ sym (told_by_bag (key_data key) same_cells (tell key aggs) (tell_is_group key aggs) q (bare rows2) (bare rows) (SameBag-map (λ (r : HeldRow). r.cells) rows2 rows same));
  fine = λ q. bad_by_key key aggs q (bare rows2) (bare rows) (SameBag-filter (has_key (key_data key) same_cells q) (bare rows2) (bare rows) (SameBag-map (λ (r : HeldRow). r.cells) rows2 rows same)) ∙ s.fine q;
}

pub kept_same : (key : List ℕ) (aggs : List Agg) (rows rows2 : List HeldRow) (run run2 : List Datum → Option Run) (waiting waiting2 : List Edge) (x : ℕ) (came out : List Edge) →
    SameBag rows2 rows → ((k : List Datum) → run2 k ≡ run k) → SameBag waiting2 waiting →
    GroupKeeps (key_data key) same_cells (tell key aggs) (bad key aggs) rows run waiting x came out → GroupKeeps (key_data key) same_cells (tell key aggs) (bad key aggs) rows2 run2 waiting2 x came out
kept_same key aggs rows rows2 run run2 waiting waiting2 x came out same runs waits k = record {
  history = k.history;
  waits = SameBag-trans _ _ _ waits k.waits;
  now = record {
    swept = record { alive_rows = SameBag-trans _ _ _ same k.now.swept.alive_rows; open_runs = λ q. runs q ∙ k.now.swept.open_runs q };
    steady = λ q. ap row_of_run (runs q) ∙ k.now.steady q
        ∙ sym (told_by_bag (key_data key) same_cells (tell key aggs) (tell_is_group key aggs) q (bare rows2) (bare rows) (SameBag-map (λ (r : HeldRow). r.cells) rows2 rows same));
    fine = λ q. bad_same q ∙ k.now.fine q;
  };
  told = k.told;
  defined = k.defined;
}
  where
    bad_same : (q : List Datum) → bad key aggs q (bare rows2) ≡ bad key aggs q (bare rows)
    bad_same q = bad_by_key key aggs q (bare rows2) (bare rows) (SameBag-filter (has_key (key_data key) same_cells q) (bare rows2) (bare rows) (SameBag-map (λ (r : HeldRow). r.cells) rows2 rows same))

-- RUNS AMONG STARTS
abbrev pub run_of_start : Edge → Run
run_of_start e = record { row = e.cells; start = e.sync }

pub run_among_more : (n : ℕ) (es : List Edge) (e : Edge) (k : List Datum) → run_among n (es ++ e ∷ []) k ≡ cond (same_cells (take n e.cells) k) (Some (run_of_start e)) (run_among n es k)
run_among_more n [] e k = refl
run_among_more n (f ∷ es) e k =
    ap (λ o. later_run o (cond (same_cells (take n f.cells) k) (Some (run_of_start f)) None)) (run_among_more n es e k) ∙ pick (same_cells (take n e.cells) k)
  where
    pick : (b : Bool) → later_run (cond b (Some (run_of_start e)) (run_among n es k)) (cond (same_cells (take n f.cells) k) (Some (run_of_start f)) None)
        ≡ cond b (Some (run_of_start e)) (later_run (run_among n es k) (cond (same_cells (take n f.cells) k) (Some (run_of_start f)) None))
    pick true = refl
    pick false = refl

below_is : (s t : ℕ) → nat_lt s t ≡ true → s < t
below_is s t h = grind (arith, nat_tests)

-- a run among starts that may be told
pub run_may_be_told : (n : ℕ) (kinds : List CellKind) (x : ℕ) (es : List Edge) (k : List Datum) (r : Run) → are_row_starts kinds x es ≡ true → run_among n es k ≡ Some r → IsRunOf kinds x r
run_may_be_told n kinds x [] k r h e = absurd (cc)
run_may_be_told n kinds x (f ∷ es) k r h e = pick (run_among n es k) refl e (λ z. run_may_be_told n kinds x es k r both.1 z)
  where
    both : (is_row_start kinds x f ≡ true) × (are_row_starts kinds x es ≡ true)
    both = and_parts (is_row_start kinds x f) (are_row_starts kinds x es) h

    here : (b : Bool) → cond b (Some (run_of_start f)) None ≡ Some r → IsRunOf kinds x r
    here true z =
        let p = and_parts (is_below x f) (is_stored kinds f) (and_parts (nat_eq f.other inf) (is_below x f && is_stored kinds f) both.0).1 in
        let y = some_is (run_of_start f) r z in
        subst (IsRunOf kinds x) y (record { early = below_is f.sync x p.0; stored = p.1 })
    here false z = absurd (cc)

    pick : (o : Option Run) → run_among n es k ≡ o → later_run o (cond (same_cells (take n f.cells) k) (Some (run_of_start f)) None) ≡ Some r →
        (run_among n es k ≡ Some r → IsRunOf kinds x r) → IsRunOf kinds x r
    pick (Some y) is z rest = rest (is ∙ z)
    pick None is z rest = here (same_cells (take n f.cells) k) z

-- the entries of a map of runs, with keys that stand there once, whose rows begin with their keys
module _ (n : ℕ) where
  abbrev starts : List (List Datum × HeldRow) → List Edge
  starts es = map (λ e. start_of e.1) es

  none_among : (es : List (List Datum × HeldRow)) (k q : List Datum) → same_cells q k ≡ true → AllByRecursion (λ y. same_cells k y ≡ false) (keys_of es) →
      ((i : ℕ) (k : List Datum) (r : HeldRow) → slice_get es i ≡ Some (k, r) → take n r.cells ≡ k) → run_among n (starts es) q ≡ None
  none_among [] k q e h t = refl
  none_among (f ∷ es) k q e h t =
      ap (λ o. later_run o (cond (same_cells (take n f.1.cells) q) (Some (run_of_start (start_of f.1))) None)) (none_among es k q e h.1 (λ i a r z. t (suc i) a r z))
      ∙ pick (same_cells (take n f.1.cells) q) refl
    where
      pick : (b : Bool) → same_cells (take n f.1.cells) q ≡ b → later_run None (cond b (Some (run_of_start (start_of f.1))) None) ≡ None
      pick true z =
          let a : f.0 ≡ k = sym (t 0 f.0 f.1 refl) ∙ cells_are_same (take n f.1.cells) q z ∙ cells_are_same q k e in
          let b = ap (same_cells k) a ∙ same_itself k in
          let c = sym h.0 ∙ b in
          absurd (cc)
      pick false z = refl

  pub runs_saved : (es : List (List Datum × HeldRow)) → IsDistinct same_cells (keys_of es) →
      ((i : ℕ) (k : List Datum) (r : HeldRow) → slice_get es i ≡ Some (k, r) → take n r.cells ≡ k) → (q : List Datum) → run_among n (starts es) q ≡ run_from (lookup (same_cells q) es)
  unfolding IsDistinct
  runs_saved [] once t q = refl
  runs_saved (f ∷ es) once t q = pick (same_cells q f.0) refl (runs_saved es once.1 (λ i a r z. t (suc i) a r z) q)
    where
      first : take n f.1.cells ≡ f.0
      first = t 0 f.0 f.1 refl

      pick : (b : Bool) → same_cells q f.0 ≡ b → run_among n (starts es) q ≡ run_from (lookup (same_cells q) es) →
          later_run (run_among n (starts es) q) (cond (same_cells (take n f.1.cells) q) (Some (run_of_start (start_of f.1))) None) ≡ run_from (cond b (Some f.1) (lookup (same_cells q) es))
      pick true z rest =
          let own : same_cells (take n f.1.cells) q ≡ true = ap (same_cells (take n f.1.cells)) (cells_are_same q f.0 z ∙ sym first) ∙ same_itself (take n f.1.cells) in
          ap (λ o. later_run o (cond (same_cells (take n f.1.cells) q) (Some (run_of_start (start_of f.1))) None)) (none_among es f.0 q z once.0 (λ i a r z. t (suc i) a r z))
          ∙ ap (λ b. later_run None (cond b (Some (run_of_start (start_of f.1))) None)) own
      pick false z rest =
          let other : same_cells (take n f.1.cells) q ≡ false = ap (λ l. same_cells l q) first ∙ apart (same_cells f.0 q) refl z in
          ap (λ o. later_run o (cond (same_cells (take n f.1.cells) q) (Some (run_of_start (start_of f.1))) None)) rest
          ∙ ap (λ b. later_run (run_from (lookup (same_cells q) es)) (cond b (Some (run_of_start (start_of f.1))) None)) other
          ∙ alone (run_from (lookup (same_cells q) es))
        where
          apart : (b : Bool) → same_cells f.0 q ≡ b → same_cells q f.0 ≡ false → same_cells f.0 q ≡ false
          apart true e z = let a = ap (same_cells q) (cells_are_same f.0 q e) ∙ same_itself q in let b = sym a ∙ z in absurd (cc)
          apart false e z = e

          alone : (o : Option Run) → later_run o None ≡ o
          alone None = refl
          alone (Some x) = refl

-- the row that is told of a key begins with it
first_of : (k xs : List Datum) → take (length k) (k ++ xs) ≡ k
first_of [] xs = refl
first_of (d ∷ k) xs = ap (λ l. d ∷ l) (first_of k xs)

key_length : (key : List ℕ) (ds : List Datum) → length (key_data key ds) ≡ length key
key_length [] ds = refl
key_length (c ∷ key) ds = let r = key_length key ds in omega (arith, r)

has_length : (key : List ℕ) (k : List Datum) (xs : List (List Datum)) → 0 < length (filter (has_key (key_data key) same_cells k) xs) → length k ≡ length key
has_length key k [] h = absurd (omega (arith, h))
has_length key k (x ∷ xs) h = pick (same_cells k (key_data key x)) refl h (λ z. has_length key k xs z)
  where
    pick : (b : Bool) → same_cells k (key_data key x) ≡ b → 0 < length (cond b (x ∷ filter (has_key (key_data key) same_cells k) xs) (filter (has_key (key_data key) same_cells k) xs)) →
        (0 < length (filter (has_key (key_data key) same_cells k) xs) → length k ≡ length key) → length k ≡ length key
    pick true e z rest = ap length (cells_are_same k (key_data key x) e) ∙ key_length key x
    pick false e z rest = rest z

row_begins : (aggs : List Agg) (k row : List Datum) (xs : List (List Datum)) → Some row ≡ group_row_in plain_cells aggs k xs → (take (length k) row ≡ k) × (0 < length xs)
row_begins aggs k row [] h = absurd (cc)
row_begins aggs k row (x ∷ xs) h =
    let z = some_is row (k ++ map (λ a. plain_cells.of_int (agg_in plain_cells a (x ∷ xs))) aggs) h in
    (ap (take (length k)) z ∙ first_of k (map (λ a. plain_cells.of_int (agg_in plain_cells a (x ∷ xs))) aggs), omega arith)

pub told_begins : (key : List ℕ) (aggs : List Agg) (k row : List Datum) (rows : List HeldRow) → Some row ≡ tell key aggs k (bare rows) → take (length key) row ≡ k
told_begins key aggs k row rows h =
    let r = row_begins aggs k row (of_key key k rows) h in
    ap (λ n. take n row) (sym (has_length key k (bare rows) r.1)) ∙ r.0

-- SAVED PARTS
pub all_pass : {X : Type 0} (p : X → Bool) (xs : List X) → failing p xs ≡ 0 → list_all p xs ≡ true
all_pass p [] h = refl
all_pass p (x ∷ xs) h = pick (p x) (all_pass p xs (omega (arith, h))) (omega (arith, h))
  where
    pick : (b : Bool) → list_all p xs ≡ true → cond {A = ℕ} b 0 1 ≡ 0 → (b && list_all p xs) ≡ true
    pick true r z = r
    pick false r z = absurd (omega (arith, z))

module _ (rows waiting told : List Edge) (first second entries : List SavedEntry) (one : first ≡ [] ++ entries_of 0 rows) (two : second ≡ first ++ entries_of 1 waiting) (three : entries ≡ second ++ entries_of 2 told) where
  all : entries ≡ (entries_of 0 rows ++ entries_of 1 waiting) ++ entries_of 2 told
  all = three ∙ (λ i. (two ∙ (λ j. one j ++ entries_of 1 waiting)) i ++ entries_of 2 told)

  parts : (p : ℕ) → part_of p entries ≡ (part_of p (entries_of 0 rows) ++ part_of p (entries_of 1 waiting)) ++ part_of p (entries_of 2 told)
  parts p = ap (part_of p) all ∙ part_of_append p (entries_of 0 rows ++ entries_of 1 waiting) (entries_of 2 told)
      ∙ ap (λ l. l ++ part_of p (entries_of 2 told)) (part_of_append p (entries_of 0 rows) (entries_of 1 waiting))

  nothing : (xs : List Edge) → xs ++ [] ≡ xs
  nothing [] = refl
  nothing (x ∷ xs) = ap (λ l. x ∷ l) (nothing xs)

  pub rows_part : part_of 0 entries ≡ rows
  rows_part = parts 0 ∙ (λ i. (part_of_own 0 rows i ++ part_of_other 0 1 waiting refl i) ++ part_of_other 0 2 told refl i) ∙ nothing (rows ++ []) ∙ nothing rows

  pub waiting_part : part_of 1 entries ≡ waiting
  waiting_part = parts 1 ∙ (λ i. (part_of_other 1 0 rows refl i ++ part_of_own 1 waiting i) ++ part_of_other 1 2 told refl i) ∙ nothing waiting

  pub told_part : part_of 2 entries ≡ told
  told_part = parts 2 ∙ (λ i. (part_of_other 2 0 rows refl i ++ part_of_other 2 1 waiting refl i) ++ part_of_own 2 told i)

  pub group_saved : (left kinds : List CellKind) (x : ℕ) → are_row_starts left x rows ≡ true → may_all_wait left x waiting ≡ true → are_row_starts kinds x told ≡ true → GroupSound left kinds x entries
  group_saved left kinds x r w t = record {
    parts = ap (are_of_parts 3) all
        ∙ parts_append 3 (entries_of 0 rows ++ entries_of 1 waiting) (entries_of 2 told)
        (parts_append 3 (entries_of 0 rows) (entries_of 1 waiting) (parts_own 3 0 rows refl) (parts_own 3 1 waiting refl)) (parts_own 3 2 told refl);
    rows = ap (are_row_starts left x) rows_part ∙ r;
    waiting = ap (may_all_wait left x) waiting_part ∙ w;
    told = ap (are_row_starts kinds x) told_part ∙ t;
  }

-- the runs of a map may be told
comes_early : (s t : ℕ) → s < t → nat_lt s t ≡ true
comes_early s t h = grind (arith, nat_tests)

pub told_passes : (kinds : List CellKind) (x : ℕ) (es : List (List Datum × HeldRow)) →
    ((i : ℕ) (k : List Datum) (r : HeldRow) → slice_get es i ≡ Some (k, r) → IsRunOf kinds x (record { row = r.cells; start = r.start })) → are_row_starts kinds x (map (λ e. start_of e.1) es) ≡ true
told_passes kinds x [] h = refl
told_passes kinds x (e ∷ es) h =
    let r = h 0 e.0 e.1 refl in
    both _ _ (both _ _ same_inf (both _ _ (comes_early e.1.start x r.early) r.stored)) (told_passes kinds x es (λ i k r z. h (suc i) k r z))
  where
    both : (a b : Bool) → a ≡ true → b ≡ true → (a && b) ≡ true
    both a b p q = grind arith

    same_inf : nat_eq inf inf ≡ true
    same_inf = grind (arith, nat_tests)

-- ITEM BY ITEM
pub groups_next : (starts : List Edge) (i : ℕ) (e : Edge) (old new : List HeldRow) → i < length starts → e ≡ get_or starts i e →
    ((w : HeldRow → ℕ) → total w new ≡ total w old + w (record { cells = e.cells; start = e.sync })) →
    SameBag old (rows_of (take i starts)) → SameBag new (rows_of (take (i + 1) starts))
groups_next starts i e old new lt is added same = record {
  weigh = λ w.
      let a = added w in
      let b = same.weigh w in
      let row_of : Edge → HeldRow = λ e. record { cells = e.cells; start = e.sync } in
      let d = total-map w row_of (take i starts) in
      let f = total-map w row_of (take (i + 1) starts) in
      let g = total_more (λ x. w (row_of x)) starts i e lt in
      let h = ap (λ x. w (row_of x)) is in
      omega (arith, a, b, d, f, g, h);
}

pub runs_next : (n : ℕ) (starts : List Edge) (i : ℕ) (e : Edge) (key row : List Datum) (old new : List Datum → Option Run) → i < length starts → e ≡ get_or starts i e → key ≡ take n e.cells → row ≡ e.cells →
    ((k : List Datum) → new k ≡ cond (same_cells key k) (Some (record { row = row; start = e.sync })) (old k)) → ((k : List Datum) → old k ≡ run_among n (take i starts) k) →
    (k : List Datum) → new k ≡ run_among n (take (i + 1) starts) k
runs_next n starts i e key row old new lt is is_key is_row reruns so_far k =
    reruns k ∙ ap (λ q. cond (same_cells q k) (Some (record { row = row; start = e.sync })) (old k)) is_key
    ∙ ap (λ r. cond (same_cells (take n e.cells) k) (Some (record { row = r; start = e.sync })) (old k)) is_row
    ∙ ap (λ o. cond (same_cells (take n e.cells) k) (Some (run_of_start e)) o) (so_far k)
    ∙ sym (run_among_more n (take i starts) e k)
    ∙ ap (λ l. run_among n l k) (sym (take_more starts i e lt ∙ ap (λ x. take i starts ++ x ∷ []) (sym is)))

-- WHAT IS SAVED
module _ {S : Type 0} (key : List ℕ) (aggs : List Agg) (left kinds : List CellKind) (x : ℕ) (rows : List HeldRow) (running : IndexMap (List Datum) HeldRow S) (waiting : List Pending)
    (starts queue told : List Edge) (is_starts : starts ≡ starts_of rows) (is_queue : queue ≡ queued waiting) (is_told : told ≡ map (λ e. start_of e.1) running.entries)
    (first second entries : List SavedEntry) (one : first ≡ [] ++ entries_of 0 starts) (two : second ≡ first ++ entries_of 1 queue) (three : entries ≡ second ++ entries_of 2 told)
    (once : IsUnique same_cells running) where
  run_there : (i : ℕ) (k : List Datum) (r : HeldRow) → slice_get running.entries i ≡ Some (k, r) → run_of running k ≡ Some (record { row = r.cells; start = r.start })
  run_there i k r is = ap run_from (hash_map_get_place same_cells_equiv running i k r once is)

  pub saved_sound : IsSide left x rows waiting → AreRunsOf kinds x (run_of running) → GroupSound left kinds x entries
  saved_sound side runs =
      group_saved starts queue told first second entries one two three left kinds x
      (ap (are_row_starts left x) is_starts ∙ all_pass (is_row_start left x) (starts_of rows) side.started)
      (ap (may_all_wait left x) is_queue ∙ all_pass (may_wait left x) (queued waiting) side.later)
      (ap (are_row_starts kinds x) is_told
      ∙ told_passes kinds x running.entries (λ i k r is. runs k (record { row = r.cells; start = r.start }) (run_there i k r is)))

  pub saved_resumes : (ends : List Edge) (own : List Pending) (texts : List (List ℕ)) (hl hr out : List Edge) → waiting ≡ all_pending ends own → GroupSound left kinds x entries →
      KeepsGrouped key aggs left texts (record { held = rows; ends = ends }) running own x hl hr out →
      GroupResumes left kinds key aggs texts x entries hl hr out
  saved_resumes ends own texts hl hr out is sound k = record {
    sound = sound;
    group = kept_same key aggs rows (rows_of (part_of 0 entries)) (run_of running) (run_among (length key) (part_of 2 entries)) (queued waiting) (part_of 1 entries) x hl out
        (subst (λ l. SameBag l rows) (sym (ap rows_of (rows_part starts queue told first second entries one two three ∙ is_starts) ∙ rows_of_starts rows)) (SameBag-refl rows))
        (λ q. ap (λ l. run_among (length key) l q) (told_part starts queue told first second entries one two three ∙ is_told)
        ∙ runs_saved (length key) running.entries once (λ i a r is. told_begins key aggs a r.cells rows (ap row_of_run (sym (run_there i a r is)) ∙ k.group.now.steady a)) q)
        (subst (λ l. SameBag l (queued waiting)) (sym (waiting_part starts queue told first second entries one two three ∙ is_queue)) (SameBag-refl (queued waiting)))
        (subst (λ w. KeepsGroup key aggs rows running w x hl out) (sym is) k.group);
    low = k.low;
    left_placed = k.left_placed;
    left_cells = k.left_cells;
    right_history = k.right_history;
    right_placed = k.right_placed;
  }

-- WHAT IS LOADED
pub loaded_keeps : {S : Type 0} (key : List ℕ) (aggs : List Agg) (left kinds : List CellKind) (x : ℕ) (rows : RowsAndEnds) (running : IndexMap (List Datum) HeldRow S) (waiting : List Pending)
    (entries : List SavedEntry) → rows.ends ≡ [] → SameBag rows.held (rows_of (part_of 0 entries)) → SameBag (queued waiting) (part_of 1 entries) →
    ((k : List Datum) → run_of running k ≡ run_among (length key) (part_of 2 entries) k) →
    (texts : List (List ℕ)) (hl hr out : List Edge) → GroupResumes left kinds key aggs texts x entries hl hr out → KeepsGrouped key aggs left texts rows running waiting x hl hr out
loaded_keeps key aggs left kinds x rows running waiting entries none is_rows is_waiting is_runs texts hl hr out r = record {
  group = subst (λ es. KeepsGroup key aggs rows.held running (all_pending es waiting) x hl out) (sym none) (kept_same key aggs (rows_of (part_of 0 entries)) rows.held (run_among (length key) (part_of 2 entries)) (run_of running) (part_of 1 entries) (queued waiting) x hl out
      is_rows is_runs is_waiting r.group);
  low = r.low;
  left_placed = r.left_placed;
  left_cells = r.left_cells;
  right_history = r.right_history;
  right_placed = r.right_placed;
}

pub loaded_runs : {S : Type 0} (n : ℕ) (kinds : List CellKind) (x : ℕ) (running : IndexMap (List Datum) HeldRow S) (told : List Edge) →
    ((k : List Datum) → run_of running k ≡ run_among n told k) → are_row_starts kinds x told ≡ true → AreRunsOf kinds x (run_of running)
loaded_runs n kinds x running told is h k r e = run_may_be_told n kinds x told k r h (sym (is k) ∙ e)

-- WHOSE ROWS ARE SAVED
pub sound_stored : (s : Standing) (x : ℕ) (entries : List SavedEntry) → GroupSound s.left_kinds s.own_kinds x entries → AreStoredAs group_row s entries
sound_stored s x entries h = parts_pass (λ p cells. IsStoredAs s (group_row p) cells) 3 entries h.parts pick
  where
    pick : (p : ℕ) → p < 3 → All (λ e. IsStoredAs s (group_row p) e.cells) (part_of p entries)
    pick zero low = row_cells s.left_kinds x (part_of 0 entries) h.rows
    pick (suc zero) low = waiting_cells s.left_kinds x (part_of 1 entries) h.waiting
    pick (suc (suc zero)) low = row_cells s.own_kinds x (part_of 2 entries) h.told
    pick (suc (suc (suc n))) low = absurd (omega (arith, low))
