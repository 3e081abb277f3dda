-- What is saved says what is kept.
use Rattle.std.specs.Prelude.{◌≡◌, ℕ, zero, suc, ◌+◌, ◌*◌, ◌/◌, ◌%◌, ◌<◌, ◌≤◌, nat_eq, Bool, true, false, cond, All, List, [], ◌∷◌, ◌++◌, length, get_or, map, filter, take, refl}
use Rattle.std.specs.Map.{lookup}
use Rattle.std.proofs.Common.{sym, ◌∙◌, ap, subst, arith}
use Rattle.std.proofs.lemmas.Bool.{and_parts}
use Rattle.std.proofs.lemmas.Bool.Decides.{nat_tests}
use Rattle.std.proofs.lemmas.List.{append-nil, append_assoc, length-append, length-map, map-append, take_more}
use Rattle.std.proofs.lemmas.List.Elements.{All-nil, All-cons, All-head, All-tail, All-append, All-map, All-weaker}
use Rattle.std.proofs.lemmas.List.Concat.{flat_map-append}
use Rattle.tw_rows.specs.Cells.{datum_kind}
use Rattle.tw_rows.specs.Kinds.{cell_kind_of}
use Rattle.tw_rows.specs.Bag.{total}
use Rattle.tw_rows.specs.declared.edge.Edge.{Edge}
use Rattle.tw_rows.specs.declared.kind.CellKind.{CellKind}
use Rattle.indexmap.specs.IndexMap.{IsUnique}
use Rattle.edge_history.specs.Order.{failing, is_real, is_from}
use Rattle.edge_stream.specs.declared.saved.SavedEntry.{SavedEntry}
use Rattle.edge_stream.specs.Entries.{entry_of, saved_edge, entries_of, part_of}
use Rattle.edge_stream.proofs.CarriedParts.{part_of_own, part_of_other, part_of_append}
use Rattle.row_reader.specs.Printed.{IsEnd}
use Rattle.admission.specs.Admission.{Admission}
use Rattle.ingress.specs.declared.opens.OpenKey.{OpenKey}
use Rattle.ingress.specs.declared.opens.OpenStart.{OpenStart}
use Rattle.ingress.specs.declared.ingress.Ingress.{Ingress}
use Rattle.ingress.specs.OpenKeys.{same_key, same_key-Decides, starts_if, starts_in}
use Rattle.ingress.specs.Fits.{are_stored, is_fit}
use Rattle.ingress.specs.Held.{IsHeld}
use Rattle.ingress.specs.Keeping.{CellOpen, kept_of, is_named, cell_rows, cell_open, opens_in}
use Rattle.ingress.specs.Counts.{may_hold}
use Rattle.ingress.specs.Admits.{cells_of, IsStored, Follows, Admits}
use Rattle.ingress.specs.Times.{IsTimed}
use Rattle.ingress.specs.Saving.{stream_of, waiting_of, open_at, open_of, opens_of, IsSoundEntry, IsSound, Resumes}
use Rattle.ingress.specs.Loaded.{entry_of_open, waits_from}
use Rattle.ingress.proofs.Fitting.{stored_kinds, none_fails_at}
use Rattle.ingress.proofs.Keep.{other_number}
use Rattle.ingress.proofs.Timed.{end_if}
use Rattle.ingress.proofs.HeldTimes.{IsTimedStart, IsTimedEdge, starts_timed, held_timed}
use Rattle.ingress.proofs.Counting.{named_in, states_back, held_within}

-- PARTS
-- the part of an edge, of an open start, and of one that was dropped, of stream s
edge_role : (s : ℕ) → ((3 * s) % 3 ≡ 0) × ((3 * s) / 3 ≡ s)
edge_role s = (omega arith, omega arith)

open_role : (s : ℕ) → ((3 * s + 1) % 3 ≡ 1) × ((3 * s + 1) / 3 ≡ s)
open_role s = (omega arith, omega arith)

dropped_role : (s : ℕ) → ((3 * s + 2) % 3 ≡ 2) × ((3 * s + 2) / 3 ≡ s)
dropped_role s = (omega arith, omega arith)

pub opened_back : (o : CellOpen) → open_of (entry_of_open o) ≡ o ∷ []
opened_back o = go o.state.dropped
  where
    entry : Bool → SavedEntry
    entry b = record { part = 3 * o.key.stream + cond b 2 1; sync = o.state.start; other = o.key.given; cells = o.key.cells }

    whole : Bool → CellOpen
    whole b = record { key = o.key; state = record { start = o.state.start; dropped = b } }

    go : (b : Bool) → open_of (record { part = 3 * o.key.stream + cond b 2 1; sync = o.state.start; other = o.key.given; cells = o.key.cells })
        ≡ record { key = o.key; state = record { start = o.state.start; dropped = b } } ∷ []
    go true =
        let e : SavedEntry = record { part = 3 * o.key.stream + 2; sync = o.state.start; other = o.key.given; cells = o.key.cells } in
        let d = dropped_role o.key.stream in
        ap (λ r. open_at r (stream_of e) e) d.0 ∙ ap (λ s. open_at 2 s e) d.1
    go false =
        let e : SavedEntry = record { part = 3 * o.key.stream + 1; sync = o.state.start; other = o.key.given; cells = o.key.cells } in
        let d = open_role o.key.stream in
        ap (λ r. open_at r (stream_of e) e) d.0 ∙ ap (λ s. open_at 1 s e) d.1

pub all_opened : (xs : List CellOpen) → opens_of (map entry_of_open xs) ≡ xs
all_opened [] = refl
all_opened (x ∷ xs) = ap (λ l. l ++ opens_of (map entry_of_open xs)) (opened_back x) ∙ ap (λ l. x ∷ l) (all_opened xs)

no_edge : (s : ℕ) (xs : List CellOpen) → waiting_of (map entry_of_open xs) s ≡ []
no_edge s [] = refl
no_edge s (x ∷ xs) = ap (λ b. map saved_edge (cond b (entry_of_open x ∷ rest) rest)) (other x.state.dropped) ∙ no_edge s xs
  where
    rest : List SavedEntry
    rest = filter (λ (e : SavedEntry). nat_eq e.part (3 * s)) (map entry_of_open xs)

    other : (b : Bool) → nat_eq (3 * x.key.stream + cond b 2 1) (3 * s) ≡ false
    other true = other_number (3 * x.key.stream + 2) (3 * s) (λ e. omega (arith, e))
    other false = other_number (3 * x.key.stream + 1) (3 * s) (λ e. omega (arith, e))

no_open : (s : ℕ) (es : List Edge) → opens_of (entries_of (3 * s) es) ≡ []
no_open s [] = refl
no_open s (e ∷ es) = ap (λ r. open_at r (stream_of (entry_of (3 * s) e)) (entry_of (3 * s) e) ++ opens_of (entries_of (3 * s) es)) (edge_role s).0 ∙ no_open s es

pub none_open : (s : ℕ) (ws : List (List Edge)) → opens_of (waits_from s ws) ≡ []
none_open s [] = refl
none_open s (w ∷ ws) = flat_map-append open_of (entries_of (3 * s) w) (waits_from (suc s) ws) ∙ ap (λ l. l ++ opens_of (waits_from (suc s) ws)) (no_open s w) ∙ none_open (suc s) ws

other_part : (s k : ℕ) → (s ≡ k → ⊥) → nat_eq (3 * s) (3 * k) ≡ false
other_part s k h = other_number (3 * s) (3 * k) (λ e. h (omega (arith, e)))

waits_before : (k s : ℕ) (ws : List (List Edge)) → k < s → waiting_of (waits_from s ws) k ≡ []
waits_before k s [] low = refl
waits_before k s (w ∷ ws) low =
    part_of_append (3 * k) (entries_of (3 * s) w) (waits_from (suc s) ws)
    ∙ ap (λ l. l ++ waiting_of (waits_from (suc s) ws) k) (part_of_other (3 * k) (3 * s) w (other_part s k (λ e. omega (arith, e, low))))
    ∙ waits_before k (suc s) ws (omega (arith, low))

waits_at : (s j k : ℕ) (ws : List (List Edge)) → k ≡ s + j → waiting_of (waits_from s ws) k ≡ get_or ws j []
waits_at s j k [] is = refl
waits_at s zero k (w ∷ ws) is =
    let same : k ≡ s = omega (arith, is) in
    part_of_append (3 * k) (entries_of (3 * s) w) (waits_from (suc s) ws)
    ∙ ap (λ l. l ++ waiting_of (waits_from (suc s) ws) k) (ap (λ n. part_of (3 * n) (entries_of (3 * s) w)) same ∙ part_of_own (3 * s) w)
    ∙ ap (λ l. w ++ l) (waits_before k (suc s) ws (omega (arith, same)))
    ∙ append-nil w
waits_at s (suc j) k (w ∷ ws) is =
    part_of_append (3 * k) (entries_of (3 * s) w) (waits_from (suc s) ws)
    ∙ ap (λ l. l ++ waiting_of (waits_from (suc s) ws) k) (part_of_other (3 * k) (3 * s) w (other_part s k (λ e. omega (arith, e, is))))
    ∙ waits_at (suc s) j k ws (omega (arith, is))

-- STREAM BY STREAM
waits_append : (s : ℕ) (ws : List (List Edge)) (w : List Edge) → waits_from s (ws ++ w ∷ []) ≡ waits_from s ws ++ entries_of (3 * (s + length ws)) w
waits_append s [] w =
    let e : s ≡ s + 0 = omega arith in
    append-nil (entries_of (3 * s) w) ∙ ap (λ n. entries_of (3 * n) w) e
waits_append s (x ∷ ws) w =
    let e : suc s + length ws ≡ s + suc (length ws) = omega arith in
    ap (λ l. entries_of (3 * s) x ++ l) (waits_append (suc s) ws w ∙ ap (λ n. waits_from (suc s) ws ++ entries_of (3 * n) w) e)
    ∙ sym (append_assoc (entries_of (3 * s) x) (waits_from (suc s) ws) (entries_of (3 * (s + suc (length ws))) w))

pub waits_next : (old now after : List SavedEntry) (ws : List (List Edge)) (n part : ℕ) (w : List Edge) → n < length ws → length (take n ws) ≡ n → w ≡ get_or ws n w → part ≡ 3 * n →
    now ≡ old ++ waits_from 0 (take n ws) → after ≡ now ++ entries_of part w → after ≡ old ++ waits_from 0 (take (n + 1) ws)
waits_next old now after ws n part w low len is at so_far one =
    let k : part ≡ 3 * (0 + length (take n ws)) = omega (arith, at, len) in
    one
    ∙ ap (λ l. l ++ entries_of part w) so_far
    ∙ append_assoc old (waits_from 0 (take n ws)) (entries_of part w)
    ∙ ap (λ l. old ++ l) (
    ap (λ q. waits_from 0 (take n ws) ++ entries_of q w) k
    ∙ sym (waits_append 0 (take n ws) w)
    ∙ ap (λ x. waits_from 0 (take n ws ++ x ∷ [])) is
    ∙ sym (ap (waits_from 0) (take_more ws n w low)))

pub starts_next : (old now after : List SavedEntry) (k : OpenKey) (xs : List OpenStart) (n : ℕ) (st : OpenStart) → n < length xs → st ≡ get_or xs n st →
    now ≡ old ++ map entry_of_open (map (cell_open k) (take n xs)) → after ≡ now ++ entry_of_open (cell_open k st) ∷ [] → after ≡ old ++ map entry_of_open (map (cell_open k) (take (n + 1) xs))
starts_next old now after k xs n st low is so_far one =
    one
    ∙ ap (λ l. l ++ entry_of_open (cell_open k st) ∷ []) so_far
    ∙ append_assoc old (map entry_of_open (map (cell_open k) (take n xs))) (entry_of_open (cell_open k st) ∷ [])
    ∙ ap (λ l. old ++ l) (
    ap (λ x. map entry_of_open (map (cell_open k) (take n xs)) ++ entry_of_open (cell_open k x) ∷ []) is
    ∙ sym (ap (λ l. map entry_of_open (map (cell_open k) l)) (take_more xs n st low)
    ∙ ap (map entry_of_open) (map-append (cell_open k) (take n xs) (get_or xs n st ∷ []))
    ∙ map-append entry_of_open (map (cell_open k) (take n xs)) (cell_open k (get_or xs n st) ∷ [])))

-- WHAT IS SAVED
module _ (texts : List (List ℕ)) (a : Admission) (given : ℕ → List Edge) (i : Ingress) (saved : List SavedEntry)
    (is : saved ≡ waits_from 0 i.held.waiting.items ++ map entry_of_open (opens_in i.held.opens.starts.entries)) (unique : IsUnique same_key i.held.opens.starts) where
  pub waiting_are : (s : ℕ) → waiting_of saved s ≡ get_or i.held.waiting.items s []
  waiting_are s =
      ap (λ l. waiting_of l s) is
      ∙ part_of_append (3 * s) (waits_from 0 i.held.waiting.items) (map entry_of_open (opens_in i.held.opens.starts.entries))
      ∙ ap (λ l. waiting_of (waits_from 0 i.held.waiting.items) s ++ l) (no_edge s (opens_in i.held.opens.starts.entries))
      ∙ append-nil (waiting_of (waits_from 0 i.held.waiting.items) s)
      ∙ waits_at 0 s s i.held.waiting.items (omega arith)

  pub opens_saved : opens_of saved ≡ opens_in i.held.opens.starts.entries
  opens_saved =
      ap opens_of is
      ∙ flat_map-append open_of (waits_from 0 i.held.waiting.items) (map entry_of_open (opens_in i.held.opens.starts.entries))
      ∙ ap (λ l. l ++ opens_of (map entry_of_open (opens_in i.held.opens.starts.entries))) (none_open 0 i.held.waiting.items)
      ∙ all_opened (opens_in i.held.opens.starts.entries)

  pub queues_saved : (k : OpenKey) → map (λ o. o.state) (filter (is_named k) (opens_of saved)) ≡ starts_in i.held.opens.starts k
  queues_saved k =
      ap (λ l. map (λ (o : CellOpen). o.state) (filter (is_named k) l)) opens_saved
      ∙ ap (map (λ (o : CellOpen). o.state)) (named_in k i.held.opens.starts.entries unique)
      ∙ states_back k (starts_if (lookup (same_key k) i.held.opens.starts.entries))

  counted : length (cells_of i) ≡ length i.kinds.items
  counted = length-map (map (λ k. k.items) i.kinds.items) (λ k. map cell_kind_of k) ∙ length-map i.kinds.items (λ k. k.items)

  module _ (f : Follows texts a given i) where
    pub saved_resumes : (bounds marks : ℕ → ℕ) → IsSound (cells_of i) saved bounds marks i.released → ((s : ℕ) → s < length i.kinds.items → a.bound s ≡ bounds s) → ((s : ℕ) → s < length i.kinds.items → a.mark s ≡ marks s) →
        Resumes (cells_of i) saved bounds marks i.released texts a given
    saved_resumes bounds marks sound same_bounds same_marks = record {
      sound = sound;
      same_bounds = λ s less. same_bounds s (let n = counted in omega (arith, n, less));
      same_marks = λ s less. same_marks s (let n = counted in omega (arith, n, less));
      made = f.made;
      opens = f.opens;
      reads_made = f.reads_made;
      reads_opens = f.reads_opens;
      made_placed = f.made_placed;
      opens_placed = f.opens_placed;
      held = λ s less. subst (λ es. IsHeld i.released (given s) es (cell_rows f.made f.opens s)) (sym (waiting_are s))
          (f.keeps.held s (let n = counted in let l = i.shape.waiting ∙ length-map i.kinds.items (λ k. k.items) in omega (arith, n, l, less)));
      queued = λ k. queues_saved k ∙ f.keeps.queued k;
      declared = subst (λ n. All (λ o. o.key.stream < n) f.opens) (sym counted) f.declared;
      stored = f.stored;
      none_made = λ s past. f.none_made s (let n = counted in omega (arith, n, past));
      none_given = λ s past. f.none_given s (let n = counted in omega (arith, n, past));
    }

-- SOUND
-- an open start that can be saved: of a declared stream, with cells like its columns and event times, and with the given start
-- where it was dropped
record IsWell (cells : List (List CellKind)) (k : OpenKey) (st : OpenStart) : Type 0 where
  low : k.stream < length cells
  kinds : map datum_kind k.cells ≡ get_or cells k.stream []
  times : IsEnd st.start × IsEnd k.given
  dropped : st.dropped ≡ true → st.start ≡ k.given

module _ (cells : List (List CellKind)) where
  all_named : (xs : List CellOpen) → ((k : OpenKey) → All (IsWell cells k) (map (λ o. o.state) (filter (is_named k) xs))) → All (λ o. IsWell cells o.key o.state) xs
  all_named [] h = All-nil (λ (o : CellOpen). IsWell cells o.key o.state)
  all_named (x ∷ xs) h = All-cons (λ (o : CellOpen). IsWell cells o.key o.state) x xs own (all_named xs rest)
    where
      states : OpenKey → List OpenStart
      states k = map (λ (o : CellOpen). o.state) (filter (is_named k) xs)

      own : IsWell cells x.key x.state
      own = All-head (IsWell cells x.key) x.state (map (λ (o : CellOpen). o.state) (filter (is_named x.key) xs))
          (subst (λ b. All (IsWell cells x.key) (map (λ (o : CellOpen). o.state) (cond b (x ∷ filter (is_named x.key) xs) (filter (is_named x.key) xs)))) ((same_key-Decides x.key x.key).1 refl) (h x.key))

      rest : (k : OpenKey) → All (IsWell cells k) (map (λ (o : CellOpen). o.state) (filter (is_named k) xs))
      rest k = go (same_key x.key k) (h k)
        where
          go : (b : Bool) → All (IsWell cells k) (map (λ (o : CellOpen). o.state) (cond b (x ∷ filter (is_named k) xs) (filter (is_named k) xs))) → All (IsWell cells k) (map (λ (o : CellOpen). o.state) (filter (is_named k) xs))
          go true a = All-tail (IsWell cells k) x.state (map (λ (o : CellOpen). o.state) (filter (is_named k) xs)) a
          go false a = a

  named_all : (k : OpenKey) (ys : List CellOpen) → All (λ o. o.key.stream < length cells) ys → All (IsStored cells) ys → All IsTimedStart ys →
      All (IsWell cells k) (map kept_of (filter (is_named k) ys))
  named_all k [] low stored timed = All-nil (IsWell cells k)
  named_all k (y ∷ ys) low stored timed =
      go (same_key y.key k) refl
      (named_all k ys (All-tail (λ (o : CellOpen). o.key.stream < length cells) y ys low) (All-tail (IsStored cells) y ys stored) (All-tail IsTimedStart y ys timed))
    where
      own : IsWell cells y.key (kept_of y)
      own = record {
        low = All-head (λ (o : CellOpen). o.key.stream < length cells) y ys low;
        kinds = All-head (IsStored cells) y ys stored;
        times = (let t = All-head IsTimedStart y ys timed in (end_if y.state.dropped y.key.given y.state.start t.0 t.1, t.0));
        dropped = λ d. ap (λ b. cond b y.key.given y.state.start) d;
      }

      go : (b : Bool) → same_key y.key k ≡ b → All (IsWell cells k) (map kept_of (filter (is_named k) ys)) → All (IsWell cells k) (map kept_of (cond b (y ∷ filter (is_named k) ys) (filter (is_named k) ys)))
      go true is rest = All-cons (IsWell cells k) (kept_of y) (map kept_of (filter (is_named k) ys)) (subst (λ q. IsWell cells q (kept_of y)) ((same_key-Decides y.key k).0 is) own) rest
      go false is rest = rest

  module _ (last : ℕ) where
    open_sound : (o : CellOpen) → IsWell cells o.key o.state → IsSoundEntry cells last (entry_of_open o)
    open_sound o h = go o.state.dropped h.dropped
      where
        go : (b : Bool) → (b ≡ true → o.state.start ≡ o.key.given) → IsSoundEntry cells last (record { part = 3 * o.key.stream + cond b 2 1; sync = o.state.start; other = o.key.given; cells = o.key.cells })
        go true same = let d = dropped_role o.key.stream in record {
          declared = (let l = h.low in omega (arith, d.1, l));
          kinds = h.kinds ∙ ap (λ s. get_or cells s []) (sym d.1);
          times = h.times;
          edge = λ r. absurd (omega (arith, r, d.0));
          dropped = λ r. same refl;
        }
        go false same = let d = open_role o.key.stream in record {
          declared = (let l = h.low in omega (arith, d.1, l));
          kinds = h.kinds ∙ ap (λ s. get_or cells s []) (sym d.1);
          times = h.times;
          edge = λ r. absurd (omega (arith, r, d.0));
          dropped = λ r. absurd (omega (arith, r, d.0));
        }

    late_edge : (e : Edge) → is_from last e ≡ true → last ≤ e.sync
    late_edge e h = grind (arith, nat_tests)

    edges_sound : (s : ℕ) (es : List Edge) → s < length cells → failing (is_fit (get_or cells s [])) es ≡ 0 → failing (is_from last) es ≡ 0 → All IsTimedEdge es →
        All (IsSoundEntry cells last) (entries_of (3 * s) es)
    edges_sound s [] low fit late timed = All-nil (IsSoundEntry cells last)
    edges_sound s (e ∷ es) low fit late timed =
        let p = and_parts (is_real e) (are_stored (get_or cells s []) e.cells) (none_fails_at (is_fit (get_or cells s [])) (e ∷ es) 0 e fit (omega arith)) in
        let d = edge_role s in
        All-cons (IsSoundEntry cells last) (entry_of (3 * s) e) (entries_of (3 * s) es)
        (record {
          declared = omega (arith, d.1, low);
          kinds = stored_kinds (get_or cells s []) e.cells p.1 ∙ ap (λ k. get_or cells k []) (sym d.1);
          times = All-head IsTimedEdge e es timed;
          edge = λ r. (p.0, late_edge e (none_fails_at (is_from last) (e ∷ es) 0 e late (omega arith)));
          dropped = λ r. absurd (omega (arith, r, d.0));
        })
        (edges_sound s es low (omega (arith, fit)) (omega (arith, late)) (All-tail IsTimedEdge e es timed))

    waits_sound : (s : ℕ) (ws : List (List Edge)) → s + length ws ≤ length cells → ((j : ℕ) → j < length ws → failing (is_fit (get_or cells (s + j) [])) (get_or ws j []) ≡ 0) →
        ((j : ℕ) → j < length ws → failing (is_from last) (get_or ws j []) ≡ 0) → ((j : ℕ) → j < length ws → All IsTimedEdge (get_or ws j [])) → All (IsSoundEntry cells last) (waits_from s ws)
    waits_sound s [] long fit late timed = All-nil (IsSoundEntry cells last)
    waits_sound s (w ∷ ws) long fit late timed =
        let z : s + 0 ≡ s = omega arith in
        All-append (IsSoundEntry cells last) (entries_of (3 * s) w) (waits_from (suc s) ws)
        (edges_sound s w (omega (arith, long)) (ap (λ k. failing (is_fit (get_or cells k [])) w) (sym z) ∙ fit 0 (omega arith)) (late 0 (omega arith)) (timed 0 (omega arith)))
        (waits_sound (suc s) ws (omega (arith, long))
        (λ j less. (let n : suc s + j ≡ s + suc j = omega arith in ap (λ k. failing (is_fit (get_or cells k [])) (get_or ws j [])) n ∙ fit (suc j) (omega (arith, less))))
        (λ j less. late (suc j) (omega (arith, less)))
        (λ j less. timed (suc j) (omega (arith, less))))

waits_long : (s : ℕ) (ws : List (List Edge)) → length (waits_from s ws) ≡ total (λ w. length w) ws
waits_long s [] = refl
waits_long s (w ∷ ws) =
    let a = length-append (entries_of (3 * s) w) (waits_from (suc s) ws) in
    let b = length-map w (entry_of (3 * s)) in
    let c = waits_long (suc s) ws in
    omega (arith, a, b, c)

module _ (texts : List (List ℕ)) (a : Admission) (given : ℕ → List Edge) (i : Ingress) (saved : List SavedEntry)
    (is : saved ≡ waits_from 0 i.held.waiting.items ++ map entry_of_open (opens_in i.held.opens.starts.entries)) (unique : IsUnique same_key i.held.opens.starts) where
  pub saved_sound : (bounds marks : ℕ → ℕ) → Admits texts a given i → IsTimed a → IsEnd i.released → ((s : ℕ) → s < length i.kinds.items → a.bound s ≡ bounds s) →
      ((s : ℕ) → s < length i.kinds.items → a.mark s ≡ marks s) → IsSound (cells_of i) saved bounds marks i.released
  saved_sound bounds marks k t time same_bounds same_marks = record {
    time = time;
    bound_times = λ s less. subst IsEnd (same_bounds s (here s less)) (t.bounds s);
    mark_times = λ s less. subst IsEnd (same_marks s (here s less)) (t.marks s);
    low = λ s less. (let l = k.low s (here s less) in let b = same_bounds s (here s less) in omega (arith, l, b));
    above = λ s less.
        let l = i.above s in
        let b = same_bounds s (here s less) in
        let m = same_marks s (here s less) in
        let fb = f.bounds s (here s less) in
        let fm = f.marks s (here s less) in
        omega (arith, l, b, m, fb, fm);
    each = subst (All (IsSoundEntry (cells_of i) i.released)) (sym is)
        (All-append (IsSoundEntry (cells_of i) i.released) (waits_from 0 i.held.waiting.items) (map entry_of_open xs)
        (waits_sound (cells_of i) i.released 0 i.held.waiting.items (omega (arith, long, n))
        (λ j less. ap (λ k. failing (is_fit (get_or (cells_of i) k [])) (get_or i.held.waiting.items j [])) (let z : 0 + j ≡ j = omega arith in z) ∙ i.shape.fit j)
        (λ j less. (f.keeps.held j less).from)
        (held_timed texts a given i t f))
        (All-map (IsSoundEntry (cells_of i) i.released) entry_of_open xs
        (All-weaker (λ (o : CellOpen). IsWell (cells_of i) o.key o.state) (λ (o : CellOpen). IsSoundEntry (cells_of i) i.released (entry_of_open o)) (open_sound (cells_of i) i.released) xs
        (all_named (cells_of i) xs (λ q. subst (All (IsWell (cells_of i) q)) (sym (own q))
        (named_all (cells_of i) q f.opens (subst (λ m. All (λ o. o.key.stream < m) f.opens) (sym n) f.declared) f.stored (starts_timed texts a given i t f)))))));
  }
    where
      f : Follows texts a given i
      f = k.follows

      xs : List CellOpen
      xs = opens_in i.held.opens.starts.entries

      n : length (cells_of i) ≡ length i.kinds.items
      n = length-map (map (λ k. k.items) i.kinds.items) (λ k. map cell_kind_of k) ∙ length-map i.kinds.items (λ k. k.items)

      long : length i.held.waiting.items ≡ length i.kinds.items
      long = i.shape.waiting ∙ length-map i.kinds.items (λ k. k.items)

      here : (s : ℕ) → s < length (cells_of i) → s < length i.kinds.items
      here s less = omega (arith, n, less)

      own : (q : OpenKey) → map (λ (o : CellOpen). o.state) (filter (is_named q) (opens_in i.held.opens.starts.entries)) ≡ map kept_of (filter (is_named q) k.follows.opens)
      own q = ap (map (λ (o : CellOpen). o.state)) (named_in q i.held.opens.starts.entries unique) ∙ states_back q (starts_if (lookup (same_key q) i.held.opens.starts.entries)) ∙ k.follows.keeps.queued q

  pub saved_few : Follows texts a given i → length saved ≤ may_hold (length i.kinds.items) i.released a
  saved_few f =
      let e = ap length is in
      let l = length-append (waits_from 0 i.held.waiting.items) (map entry_of_open (opens_in i.held.opens.starts.entries)) in
      let m = length-map (opens_in i.held.opens.starts.entries) entry_of_open in
      let w = waits_long 0 i.held.waiting.items in
      let h = held_within texts a given i f unique in
      omega (arith, e, l, m, w, h)
