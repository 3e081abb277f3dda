-- What is kept of a Session at first, how much it is, and after it was saved and loaded.
use Rattle.std.specs.Prelude.{◌≡◌, ℕ, zero, suc, ◌+◌, ◌<◌, ◌≤◌, ◌&&◌, nat_eq, nat_lt, nat_le, Bool, true, false, cond, Option, None, Some, List, [], ◌++◌, length, map, All, refl}
use Rattle.std.specs.List.{list_all}
use Rattle.std.proofs.Common.{sym, ◌∙◌, ap, subst, arith}
use Rattle.std.proofs.lemmas.Bool.{and_parts}
use Rattle.std.proofs.lemmas.Bool.Decides.{nat_tests}
use Rattle.std.proofs.lemmas.List.{append-nil}
use Rattle.tw_rows.specs.Bag.{SameBag, total}
use Rattle.tw_rows.specs.Cells.{datum_kind}
use Rattle.tw_rows.specs.Instant.{inf, later}
use Rattle.tw_rows.specs.SameCells.{same_cells, same_itself}
use Rattle.tw_rows.specs.declared.cells.Datum.{Datum}
use Rattle.tw_rows.specs.declared.edge.Edge.{Edge}
use Rattle.tw_rows.specs.declared.edge.HeldRow.{HeldRow}
use Rattle.tw_rows.specs.declared.kind.CellKind.{CellKind}
use Rattle.tw_rows.proofs.Bags.{SameBag-trans, SameBag-filter, total_same, total_swap, total_zero}
use Rattle.edge_history.specs.Balance.{Told}
use Rattle.edge_history.specs.History.{CellEvent, of}
use Rattle.edge_history.specs.Order.{failing, many}
use Rattle.edge_history.specs.Opens.{is_start}
use Rattle.edge_history.specs.Side.{reaches}
use Rattle.edge_history.proofs.Sums.{sum_le, weaker}
use Rattle.edge_stream.specs.declared.saved.SavedEntry.{SavedEntry}
use Rattle.end_queue.specs.Pending.{Pending}
use Rattle.edge_stream.specs.Entries.{entries_of, part_of, are_of_parts}
use Rattle.edge_stream.proofs.CarriedParts.{parts_pass, part_of_own, part_of_other, part_of_append, parts_own, parts_append, all_pass as all_of_list}
use Rattle.plan_model.specs.declared.node.Node.TheVariants.{Session}
use Rattle.plan_model.specs.Nodes.{node_in}
use Rattle.plan_laws.specs.Held.{may_hold}
use Rattle.plan_laws.specs.Keeping.{plain_cells}
use Rattle.synopsis.specs.Held.{key_of, is_of_key}
use Rattle.synopsis.proofs.Keyed.{ones}
use Rattle.sweep_sides.specs.Waiting.{queued}
use Rattle.sweep_laws.specs.Saving.{starts_of, rows_of, is_row_start, may_wait, are_row_starts, may_all_wait}
use Rattle.edge_stream.specs.Standing.{Standing, IsStoredAs, AreStoredAs}
use Rattle.sweep_sides.proofs.KeptSides.{row_cells, waiting_cells, open_few, starts_few}
use Rattle.sweep_laws.proofs.Stored.{rows_of_starts}
use Rattle.session_window.specs.Kept.{is_for, is_for_at, keeps_to, waits_from, is_placed_at, HasOne}
use Rattle.session_window.specs.Windows.{windows}
use Rattle.session_window.specs.Holding.{SessionHeld, SessionKeeps}
use Rattle.sweep_sides.specs.Waiting.{AreTimed}
use Rattle.sweep_sides.specs.Sweeping.{told_events}
use Rattle.session_window.specs.declared.side.SessionSide.{SessionSide}
use Rattle.session_window.specs.Sides.{SideKeeps, SideFits, IsEmpty}
use Rattle.session_window.specs.States.{SessionSound}
use Rattle.session_window.proofs.Members.{In, found, counted, passes, all_pass}
use Rattle.session_window.proofs.Keys.{same_turned, last_there}
use Rattle.session_window.proofs.Steps.{kept_none}
use Rattle.session_window.specs.Operating.{session_node, session_row}
use Rattle.session_window.proofs.Answering.{windows_are}

-- of no edges nothing is kept, which fits any time
pub session_opens : (s : SessionSide) → IsEmpty s → SideKeeps s 0 [] []
session_opens s e = record {
  positive = e.positive;
  timed = subst AreTimed (sym e.none) refl;
  kept = (let a = e.no_rows in let b = e.no_ends in let c = e.none in rw (a, b, c) (kept_none s.sessions.rows.key s.sessions.timeout e.positive));
}

pub session_fits : (s : SessionSide) (kinds : List CellKind) (to : ℕ) → IsEmpty s → SideFits kinds to s
session_fits s kinds to e = record {
  side = (let a = e.no_rows in let c = e.none in rw (a, c) (record { started = refl; later = refl; timed = refl }));
  starts = (let c = e.none in rw c refl);
}

-- what was told tells the events of the node
pub session_tells : (s : SessionSide) (to : ℕ) (hl hr out : List Edge) → SideKeeps s to hl out → Told to out (told_events (session_node s) hl hr)
session_tells s to hl hr out k =
    subst (λ (l : List CellEvent). Told to out l) (windows_are s.sessions.rows.key s.sessions.timeout (of hl) (of hr) k.positive) k.kept.told

module _ (columns : List ℕ) (timeout : ℕ) where
  -- LOADING
  held_again : (a : List CellEvent) (t : ℕ) (rows rows2 : List HeldRow) (ends ends2 : List Pending) → t ≤ inf → SameBag rows2 rows → HasOne columns rows2 ends2 → failing (is_placed_at t) ends2 ≡ 0 →
      SessionHeld columns timeout a t rows ends → SessionHeld columns timeout a t rows2 ends2
  held_again a t rows rows2 ends ends2 low same one placed h = record {
    last = h.last;
    now = record {
      open_rows = SameBag-trans _ _ _ same h.now.open_rows;
      lasts = h.now.lasts;
      all = λ k l. same.weigh (λ r. cond (same_cells k (key_of columns r.cells)) 1 0) ∙ h.now.all k l;
    };
    lasts = λ k s l.
        let f = SameBag-filter (is_of_key columns k) rows2 rows same in
        let y = h.lasts k s l in
        record {
          there = (let a = f.weigh (λ r. cond (nat_eq r.start s) 1 0) in let b = y.there in omega (arith, a, b));
          none_later = f.weigh (λ r. cond (nat_lt s r.start) 1 0) ∙ y.none_later;
        };
    awaits = record { one = one; in_time = λ k n some. of_entry k n (found (is_for_at k n) ends2 some) };
    later = weaker (is_placed_at t) (waits_from t) ends2 (λ p e. from p.at e) placed;
  }
    where
      from : (n : ℕ) → nat_eq n t ≡ true → nat_le t n ≡ true
      from n e = grind (arith, nat_tests)

      equal : (m n : ℕ) → nat_eq m n ≡ true → m ≡ n
      equal m n e = grind (arith, nat_tests)

      le : (m n : ℕ) → m ≤ n → nat_le m n ≡ true
      le m n l = grind (arith, nat_tests)

      both : (a b : Bool) → a ≡ true → b ≡ true → (a && b) ≡ true
      both true b h k = k
      both false b h k = absurd (cc)

      some_rows : (n e : ℕ) → 1 ≤ e → e ≡ cond (nat_eq n 0) 0 1 → 1 ≤ n
      some_rows zero e l i = absurd (let z : cond {A = ℕ} (nat_eq 0 0) 0 1 ≡ 0 = refl in omega (arith, l, i, z))
      some_rows (suc n) e l i = omega arith

      kept : (k : List Datum) (n : ℕ) → n ≡ t → (r : HeldRow) × (is_of_key columns k r ≡ true) × In r rows2 → (o : Option ℕ) → h.last k ≡ o → 1 ≤ many (keeps_to timeout columns k n) rows2
      kept k n e r None l = absurd (
          let z = same.weigh (λ x. cond (same_cells k (key_of columns x.cells)) 1 0) ∙ h.now.all k l in
          let c = counted (λ (x : HeldRow). same_cells k (key_of columns x.cells)) r.0 rows2 r.2 (same_turned k (key_of columns r.0.cells) ∙ r.1) in
          omega (arith, z, c))
      kept k n e r (Some s) l =
          let x = last_there (is_of_key columns k) rows s (h.lasts k s l) in
          let y = (h.now.lasts k s l).1 in
          let c = counted (keeps_to timeout columns k n) x.0 rows x.3
          (both (is_of_key columns k x.0) (nat_le n (later timeout x.0.start)) x.2 (le n (later timeout x.0.start) (let z = x.1 in omega (arith, e, y, z, low)))) in
          let v = same.weigh (λ r. cond (keeps_to timeout columns k n r) 1 0) in
          omega (arith, c, v)

      of_entry : (k : List Datum) (n : ℕ) → (p : Pending) × (is_for_at k n p ≡ true) × In p ends2 → 1 ≤ many (keeps_to timeout columns k n) rows2
      of_entry k n p =
          let q = and_parts (same_cells p.0.edge.cells k) (nat_eq p.0.at n) p.1 in
          let e = equal p.0.at t (passes (is_placed_at t) p.0 ends2 p.2 placed) in
          let f = equal p.0.at n q.1 in
          let m = counted (is_for k) p.0 ends2 p.2 q.0 in
          kept k n (omega (arith, e, f)) (found (is_of_key columns k) rows2 (some_rows (many (is_of_key columns k) rows2) (many (is_for k) ends2) m (one k))) (h.last k) refl

  pub session_loaded : (columns2 : List ℕ) (timeout2 : ℕ) (x : ℕ) (rows rows2 : List HeldRow) (ends ends2 : List Pending) (waiting waiting2 came out : List Edge) → x ≤ inf →
      columns2 ≡ columns → timeout2 ≡ timeout → SameBag rows2 rows → SameBag waiting2 waiting → HasOne columns rows2 ends2 → failing (is_placed_at x) ends2 ≡ 0 →
      SessionKeeps columns timeout rows ends waiting x came out → SessionKeeps columns2 timeout2 rows2 ends2 waiting2 x came out
  session_loaded columns2 timeout2 x rows rows2 ends ends2 waiting waiting2 came out low e f a b one placed k =
      subst (λ (l : List ℕ). SessionKeeps l timeout2 rows2 ends2 waiting2 x came out) (sym e)
      (subst (λ n. SessionKeeps columns n rows2 ends2 waiting2 x came out) (sym f) (record {
        history = k.history;
        waits = SameBag-trans _ _ _ b k.waits;
        now = held_again (of came) x rows rows2 ends ends2 low a one placed k.now;
        told = k.told;
      }))

-- each entry of a sound state has the cells of its row
pub session_rows_stored : (s : Standing) (saved : List SavedEntry) (x : ℕ) (kinds : List CellKind) → s.left_kinds ≡ kinds → SessionSound kinds x saved →
    AreStoredAs session_row s saved
session_rows_stored s saved x kinds el sound = parts_pass (λ part. IsStoredAs s (session_row part)) 2 saved sound.parts each
  where
    left : (p : ℕ) → All (λ e. map datum_kind e.cells ≡ kinds) (part_of p saved) → All (λ e. map datum_kind e.cells ≡ s.left_kinds) (part_of p saved)
    left p h = subst (λ (k : List CellKind). All (λ (e : Edge). map datum_kind e.cells ≡ k) (part_of p saved)) (sym el) h

    each : (p : ℕ) → p < 2 → All (λ e. IsStoredAs s (session_row p) e.cells) (part_of p saved)
    each zero low = left 0 (row_cells kinds x (part_of 0 saved) sound.rows)
    each (suc zero) low = left 1 (waiting_cells kinds x (part_of 1 saved) sound.waiting)
    each (suc (suc n)) low = absurd (omega (arith, low))

-- HOW MUCH IS KEPT
-- no more entries than rows
ends_few : (columns : List ℕ) (rows : List HeldRow) (ends : List Pending) → HasOne columns rows ends → length ends ≤ length rows
ends_few columns rows ends one =
    let a = ones ends in
    let b = ones rows in
    let s = sum_le (λ (p : Pending). nat_lt 0 (many (is_of_key columns p.edge.cells) rows)) (λ p. 1) (λ p. many (is_of_key columns p.edge.cells) rows) ends (λ p h. some (many (is_of_key columns p.edge.cells) rows) h)
    (all_pass (λ (p : Pending). nat_lt 0 (many (is_of_key columns p.edge.cells) rows)) ends has_rows) in
    let t = total_swap (λ (p : Pending) (r : HeldRow). cond {A = ℕ} (is_of_key columns p.edge.cells r) 1 0) ends rows in
    let u = sum_le (λ r. true) (λ (r : HeldRow). total (λ (p : Pending). cond {A = ℕ} (is_of_key columns p.edge.cells r) 1 0) ends) (λ r. 1) rows (λ r _. at_most r) (total_zero rows) in
    omega (arith, a, b, s, t, u)
  where
    some : (n : ℕ) → nat_lt 0 n ≡ true → 1 ≤ n
    some n h = grind (arith, nat_tests)

    above : (n : ℕ) → 1 ≤ n → nat_lt 0 n ≡ true
    above n h = grind (arith, nat_tests)

    not_none : (n e : ℕ) → 1 ≤ e → e ≡ cond (nat_eq n 0) 0 1 → 1 ≤ n
    not_none zero e l i = absurd (let z : cond {A = ℕ} (nat_eq 0 0) 0 1 ≡ 0 = refl in omega (arith, l, i, z))
    not_none (suc n) e l i = omega arith

    has_rows : (p : Pending) → In p ends → nat_lt 0 (many (is_of_key columns p.edge.cells) rows) ≡ true
    has_rows p i =
        above (many (is_of_key columns p.edge.cells) rows)
        (not_none (many (is_of_key columns p.edge.cells) rows) (many (is_for p.edge.cells) ends) (counted (is_for p.edge.cells) p ends i (same_itself p.edge.cells)) (one p.edge.cells))

    one_most : (b : Bool) → cond {A = ℕ} b 0 1 ≤ 1
    one_most b = grind arith

    at_most : (r : HeldRow) → total (λ (p : Pending). cond {A = ℕ} (is_of_key columns p.edge.cells r) 1 0) ends ≤ 1
    at_most r =
        let a = total_same (λ (p : Pending). cond {A = ℕ} (is_of_key columns p.edge.cells r) 1 0) (λ p. cond (is_for (key_of columns r.cells) p) 1 0) ends
        (λ p. ap (λ b. cond {A = ℕ} b 1 0) (same_turned (key_of columns r.cells) p.edge.cells)) in
        let b = one (key_of columns r.cells) in
        let c = one_most (nat_eq (many (is_of_key columns (key_of columns r.cells)) rows) 0) in
        omega (arith, a, b, c)

pub session_bound : (columns : List ℕ) (timeout : ℕ) (x : ℕ) (rows : List HeldRow) (ends waiting : List Pending) (left right out : List Edge) →
    1 ≤ timeout → SessionKeeps columns timeout rows ends (queued waiting) x left out →
    length rows + length ends + length waiting ≤ may_hold (Session 0 timeout columns) x x (of left) (of right) (node_in plain_cells (Session 0 timeout columns) (of left) (of right))
session_bound columns timeout x rows ends waiting left right out pos k =
    let e = ends_few columns rows ends k.now.awaits.one in
    let f = open_few x (windows columns timeout (of left)) rows k.now.now.open_rows in
    let g = starts_few left x waiting k.history k.waits in
    let o = ap (λ (l : List CellEvent). many (reaches x) l) (windows_are columns timeout (of left) (of right) pos) in
    omega (arith, e, f, g, o)

-- SAVING
module _ (rows : List HeldRow) (waiting : List Edge) (s0 s1 s2 : List SavedEntry) (empty : s0 ≡ []) (e1 : s1 ≡ s0 ++ entries_of 0 (starts_of rows)) (e2 : s2 ≡ s1 ++ entries_of 1 waiting) where
  all : s2 ≡ entries_of 0 (starts_of rows) ++ entries_of 1 waiting
  all = e2 ∙ ap (λ s. s ++ entries_of 1 waiting) (e1 ∙ ap (λ s. s ++ entries_of 0 (starts_of rows)) empty)

  cut_of : (p : ℕ) → part_of p s2 ≡ part_of p (entries_of 0 (starts_of rows)) ++ part_of p (entries_of 1 waiting)
  cut_of p = ap (part_of p) all ∙ part_of_append p (entries_of 0 (starts_of rows)) (entries_of 1 waiting)

  rows_part : part_of 0 s2 ≡ starts_of rows
  rows_part = cut_of 0 ∙ ((λ i. part_of_own 0 (starts_of rows) i ++ part_of_other 0 1 waiting refl i) ∙ append-nil (starts_of rows))

  waiting_part : part_of 1 s2 ≡ waiting
  waiting_part = cut_of 1 ∙ (λ i. part_of_other 1 0 (starts_of rows) refl i ++ part_of_own 1 waiting i)

  pub session_saved : (kinds : List CellKind) (x : ℕ) → failing (is_row_start kinds x) (starts_of rows) ≡ 0 → failing (may_wait kinds x) waiting ≡ 0 → failing is_start waiting ≡ 0 → SessionSound kinds x s2
  session_saved kinds x a b e = record {
    parts = ap (are_of_parts 2) all ∙ parts_append 2 (entries_of 0 (starts_of rows)) (entries_of 1 waiting) (parts_own 2 0 (starts_of rows) refl) (parts_own 2 1 waiting refl);
    rows = ap (are_row_starts kinds x) rows_part ∙ all_of_list (is_row_start kinds x) (starts_of rows) a;
    waiting = ap (may_all_wait kinds x) waiting_part ∙ all_of_list (may_wait kinds x) waiting b;
    starts = ap (list_all is_start) waiting_part ∙ all_of_list is_start waiting e;
  }

  pub session_resumed : (columns : List ℕ) (timeout : ℕ) (x : ℕ) (ends : List Pending) (came out : List Edge) →
      SessionKeeps columns timeout rows ends waiting x came out → SessionKeeps columns timeout (rows_of (part_of 0 s2)) ends (part_of 1 s2) x came out
  session_resumed columns timeout x ends came out k =
      subst (λ (a : List HeldRow). SessionKeeps columns timeout a ends (part_of 1 s2) x came out) (sym (ap rows_of rows_part ∙ rows_of_starts rows))
      (subst (λ (a : List Edge). SessionKeeps columns timeout rows ends a x came out) (sym waiting_part) k)
