-- What is saved is what goes on.
use Rattle.std.specs.Prelude.{◌≡◌, ℕ, zero, suc, ◌<◌, ◌≤◌, ◌&&◌, Bool, true, false, cond, List, [], ◌∷◌, ◌++◌, map, replicate, length, All, refl}
use Rattle.std.specs.List.Sorted.{IsNonDecreasing, IsNonDecreasingBy}
use Rattle.std.proofs.Common.{sym, ◌∙◌, ap, subst, arith}
use Rattle.std.proofs.lemmas.Bool.{and_parts}
use Rattle.std.proofs.lemmas.List.{append-nil, length-map, get_or-map}
use Rattle.std.proofs.lemmas.List.Elements.{All-nil, All-cons, All-head, All-tail, All-append, All-weaker, All-replicate, All-drop}
use Rattle.std.proofs.lemmas.List.Kept.{IsNonDecreasingBy-filter}
use Rattle.std.proofs.lemmas.List.Sorted.{IsNonDecreasingBy-drop, IsNonDecreasingBy-short}
use Rattle.std.proofs.lemmas.Grind.{flat_map-append}
use Rattle.tw_rows.specs.Instant.{inf}
use Rattle.tw_rows.specs.Event.{alive}
use Rattle.tw_rows.specs.Rows.{Row}
use Rattle.tw_rows.specs.Cells.{ArePlaced, datum_kind, read_cells}
use Rattle.tw_rows.specs.Kinds.{cell_kind_of}
use Rattle.tw_rows.specs.SameCells.{same_cells, same_itself}
use Rattle.tw_rows.specs.declared.cells.Datum.{Datum}
use Rattle.tw_rows.specs.declared.kind.Kind.{Kind}
use Rattle.tw_rows.specs.declared.kind.CellKind.{CellKind}
use Rattle.tw_rows.specs.declared.kind.CellKind.TheVariants.{Whole, Bit, Place}
use Rattle.tw_rows.specs.declared.edge.Edge.{Edge}
use Rattle.edge_stream.specs.declared.saved.SavedEntry.{SavedEntry}
use Rattle.edge_history.specs.Order.{failing, is_below}
use Rattle.edge_history.specs.History.{of}
use Rattle.edge_history.specs.Balance.{news}
use Rattle.edge_history.proofs.Sums.{failing-append}
use Rattle.plan_laws.specs.Places.{read_events, AreDistinct, EdgesArePlaced}
use Rattle.plan_laws.proofs.Standing.{of_valid}
use Rattle.plan_model.specs.Opens.{rise, starts_before, ends_before, open_before}
use Rattle.synopsis.specs.Kept.{since_at}
use Rattle.plan_laws.specs.RowCells.{cells_of}
use Rattle.egress.specs.Kept.{are_placed}
use Rattle.egress.specs.Waiting.{edges_if, edges_at, waiting_in, SameMoves, WaitingArePlaced}
use Rattle.egress.specs.Output.{Holds}
use Rattle.egress.specs.Saving.{entries_of, starts_of, end_of, ends_of, IsKept, Resumes}
use Rattle.egress.specs.Saved.{EndAt, TakenEnds, TakenRest, IsSettled}
use Rattle.egress.specs.declared.egress.Egress.{Egress}
use Rattle.egress.proofs.Entries.{starts_append}
use Rattle.plan_laws.proofs.RowCells.{cells_again}
use Rattle.egress.proofs.Reading.{placed_if, placed_all, none_unplaced}
use Rattle.egress.proofs.SavedEnds.{no_ends, order_more}
use Rattle.egress.proofs.SavedInstants.{none_begun}
use Rattle.egress.proofs.Taking.{first_passes}

-- the kinds of cells by a test
abbrev same_kind : CellKind → CellKind → Bool
same_kind Whole Whole = true
same_kind Whole Bit = false
same_kind Whole Place = false
same_kind Bit Whole = false
same_kind Bit Bit = true
same_kind Bit Place = false
same_kind Place Whole = false
same_kind Place Bit = false
same_kind Place Place = true

abbrev kinds_test : List CellKind → List CellKind → Bool
kinds_test [] [] = true
kinds_test [] (k ∷ ks) = false
kinds_test (x ∷ xs) [] = false
kinds_test (x ∷ xs) (k ∷ ks) = same_kind x k && kinds_test xs ks

kind_same : (x k : CellKind) → same_kind x k ≡ true → x ≡ k
kind_same Whole Whole h = refl
kind_same Whole Bit h = absurd (cc)
kind_same Whole Place h = absurd (cc)
kind_same Bit Whole h = absurd (cc)
kind_same Bit Bit h = refl
kind_same Bit Place h = absurd (cc)
kind_same Place Whole h = absurd (cc)
kind_same Place Bit h = absurd (cc)
kind_same Place Place h = refl

kinds_same : (xs ks : List CellKind) → kinds_test xs ks ≡ true → xs ≡ ks
kinds_same [] [] h = refl
kinds_same [] (k ∷ ks) h = absurd (cc)
kinds_same (x ∷ xs) [] h = absurd (cc)
kinds_same (x ∷ xs) (k ∷ ks) h =
    let parts = and_parts (same_kind x k) (kinds_test xs ks) h in
    let one = kind_same x k parts.0 in
    let rest = kinds_same xs ks parts.1 in
    λ i. one i ∷ rest i

kind_itself : (x : CellKind) → same_kind x x ≡ true
kind_itself Whole = refl
kind_itself Bit = refl
kind_itself Place = refl

kinds_itself : (xs : List CellKind) → kinds_test xs xs ≡ true
kinds_itself [] = refl
kinds_itself (x ∷ xs) = ap (λ b. b && kinds_test xs xs) (kind_itself x) ∙ kinds_itself xs

abbrev of_kinds : List Kind → List Datum → Bool
of_kinds kinds cells = kinds_test (map datum_kind cells) (map cell_kind_of kinds)

all_of_kinds : (kinds : List Kind) (es : List Edge) → All (λ e. map datum_kind e.cells ≡ map cell_kind_of kinds) es → failing (λ e. of_kinds kinds e.cells) es ≡ 0
all_of_kinds kinds [] h = refl
all_of_kinds kinds (e ∷ es) h =
    let own = ap (λ ks. kinds_test ks (map cell_kind_of kinds)) (All-head (λ (x : Edge). map datum_kind x.cells ≡ map cell_kind_of kinds) e es h) ∙ kinds_itself (map cell_kind_of kinds) in
    let one : cond {A = ℕ} (of_kinds kinds e.cells) 0 1 ≡ 0 = ap (λ b. cond {A = ℕ} b 0 1) own in
    let rest = all_of_kinds kinds es (All-tail (λ (x : Edge). map datum_kind x.cells ≡ map cell_kind_of kinds) e es h) in
    omega (arith, one, rest)

-- the start lines of a row do not fall, and come before the time
starts_rise : (rows : ℕ → List Row) (r : Row) (t : ℕ) → IsNonDecreasing (starts_before rows r t) × All (λ s. s < t) (starts_before rows r t)
starts_rise rows r zero = (IsNonDecreasingBy-short (λ (x : ℕ). x) [] (omega arith), All-nil (λ s. s < 0))
starts_rise rows r (suc t) =
    let was = starts_rise rows r t in
    let new : All (λ s. s ≡ t) (replicate (rise rows r t) t) = All-replicate (λ s. s ≡ t) (rise rows r t) t refl in (
      order_more (λ (x : ℕ). x) t (starts_before rows r t) (replicate (rise rows r t) t) was.0 (All-weaker (λ s. s < t) (λ s. s ≤ t) (λ s h. omega (arith, h)) (starts_before rows r t) was.1) new,
      All-append (λ s. s < suc t) (starts_before rows r t) (replicate (rise rows r t) t)
          (All-weaker (λ s. s < t) (λ s. s < suc t) (λ s h. omega (arith, h)) (starts_before rows r t) was.1)
          (All-weaker (λ s. s ≡ t) (λ s. s < suc t) (λ s h. omega (arith, h)) (replicate (rise rows r t) t) new),
    )

open_rises : (rows : ℕ → List Row) (r : Row) (t : ℕ) → IsNonDecreasing (open_before rows r t) × All (λ s. s < t) (open_before rows r t)
open_rises rows r t =
    let all = starts_rise rows r t in
    (IsNonDecreasingBy-drop (λ (x : ℕ). x) (ends_before rows r t) (starts_before rows r t) all.0, All-drop (λ s. s < t) (ends_before rows r t) (starts_before rows r t) all.1)

-- a key that does not fall along entries
keys_rise : (n : SavedEntry → ℕ) (es : List SavedEntry) → IsNonDecreasingBy n es → IsNonDecreasing (map n es)
keys_rise n [] h i j d low within = absurd (omega (arith, within))
keys_rise n (e ∷ es) h i j d low within =
    let len = length-map (e ∷ es) n in
    let inside : j < length (e ∷ es) = omega (arith, len, within) in
    let a = get_or-map n (e ∷ es) i e d (omega (arith, low, inside)) in
    let b = get_or-map n (e ∷ es) j e d inside in
    let k = h i j e low inside in
    omega (arith, a, b, k)

-- what holds of the starts of each row holds of each entry
kept_all : (kinds : List Kind) (closed : ℕ) (es : List SavedEntry) → ((c : List Datum) → All (λ s. s < closed) (starts_of es c)) → failing (λ e. of_kinds kinds e.cells) es ≡ 0 →
    All (λ e. (e.part ≡ 0) × (closed ≤ e.other) × (e.other ≤ inf)) es → All (IsKept kinds closed) es
kept_all kinds closed [] starts cells each = All-nil (IsKept kinds closed)
kept_all kinds closed (e ∷ es) starts cells each =
    let parts = first_passes (of_kinds kinds e.cells) (failing (λ x. of_kinds kinds x.cells) es) cells in
    let own = All-head (λ (x : SavedEntry). (x.part ≡ 0) × (closed ≤ x.other) × (x.other ≤ inf)) e es each in
    All-cons (IsKept kinds closed) e es (record {
      part = own.0;
      cells = kinds_same (map datum_kind e.cells) (map cell_kind_of kinds) parts.0;
      begun = All-head (λ s. s < closed) e.sync (starts_of es e.cells) (subst (All (λ s. s < closed))
          (ap (λ b. map (λ (x : SavedEntry). x.sync) (cond b (e ∷ entries_of es e.cells) (entries_of es e.cells))) (same_itself e.cells)) (starts e.cells));
      going = own.1;
      bounded = own.2;
    }) (kept_all kinds closed es (λ c. rest c (same_cells e.cells c) refl) parts.1 (All-tail (λ (x : SavedEntry). (x.part ≡ 0) × (closed ≤ x.other) × (x.other ≤ inf)) e es each))
  where
    rest : (c : List Datum) (b : Bool) → same_cells e.cells c ≡ b → All (λ s. s < closed) (starts_of es c)
    rest c true f = All-tail (λ s. s < closed) e.sync (starts_of es c) (subst (All (λ s. s < closed)) (ap (λ b. map (λ (x : SavedEntry). x.sync) (cond b (e ∷ entries_of es c) (entries_of es c))) f) (starts c))
    rest c false f = subst (All (λ s. s < closed)) (ap (λ b. map (λ (x : SavedEntry). x.sync) (cond b (e ∷ entries_of es c) (entries_of es c))) f) (starts c)

pub settles : (texts : List (List ℕ)) (h : List Edge) (c a : ℕ) (o : Egress) → AreDistinct texts → failing (is_below c) h ≡ 0 → Holds texts h a c o → IsSettled texts (of h) c
settles texts h c a o apart below holds = record {
  distinct = apart;
  valid = of_valid h holds.history;
  begun = λ w t low under. none_begun w c t low h holds.history below under;
}

-- what waits is placed where the edges are
edges_placed_if : (texts : List (List ℕ)) (es : List Edge) → failing (λ e. are_placed texts e.cells) es ≡ 0 → EdgesArePlaced texts es
edges_placed_if texts [] h = All-nil (λ (x : Edge). ArePlaced texts x.cells)
edges_placed_if texts (e ∷ es) h =
    let parts = first_passes (are_placed texts e.cells) (failing (λ x. are_placed texts x.cells) es) h in
    All-cons (λ (x : Edge). ArePlaced texts x.cells) e es (placed_if texts e.cells parts.0) (edges_placed_if texts es parts.1)

pub waits_placed : (texts : List (List ℕ)) (h : List Edge) (a c : ℕ) (o : Egress) → EdgesArePlaced texts h → Holds texts h a c o → WaitingArePlaced texts (waiting_in o.waiting)
waits_placed texts h a c o placed holds t = edges_placed_if texts (edges_if (waiting_in o.waiting t)) ((holds.cells (are_placed texts) (placed_all texts h placed)).waits t)

module _ (texts : List (List ℕ)) (apart : AreDistinct texts) (h : List Edge) (c : ℕ) (o : Egress) (holds : Holds texts h c c o) (placed : EdgesArePlaced texts h)
    (kinds : All (λ e. map datum_kind e.cells ≡ map cell_kind_of o.rows.kinds.items) h) (mid saved : List SavedEntry) (s1 : List Datum → List ℕ)
    (te : TakenEnds (of h) c (waiting_in o.waiting) [] mid (since_at o.rows.starts) s1) (tr : TakenRest mid saved s1) where
  is_all : saved ≡ te.added ++ tr.added
  is_all = tr.is ∙ ap (λ l. l ++ tr.added) te.is

  starts_are : (k : List Datum) → starts_of (te.added ++ tr.added) k ≡ since_at o.rows.starts k
  starts_are k = starts_append te.added tr.added k ∙ ap (λ l. starts_of te.added k ++ l) (tr.starts k) ∙ te.starts k

  opens_rise : (k : List Datum) → IsNonDecreasing (since_at o.rows.starts k) × All (λ s. s < c) (since_at o.rows.starts k)
  opens_rise k = pick (are_placed texts k) refl
    where
      pick : (b : Bool) → are_placed texts k ≡ b → IsNonDecreasing (since_at o.rows.starts k) × All (λ s. s < c) (since_at o.rows.starts k)
      pick true e = subst (λ l. IsNonDecreasing l × All (λ s. s < c) l)
          (sym (ap (since_at o.rows.starts) (sym (cells_again texts apart k (placed_if texts k e))) ∙ holds.swept.reached.opened (read_cells texts k)))
          (open_rises (alive (read_events texts (of h))) (read_cells texts k) c)
      pick false e = subst (λ l. IsNonDecreasing l × All (λ s. s < c) l)
          (sym (none_unplaced (are_placed texts) (since_at o.rows.starts) (holds.cells (are_placed texts) (placed_all texts h placed)).opens k e))
          (IsNonDecreasingBy-short (λ (x : ℕ). x) [] (omega arith), All-nil (λ s. s < c))

  passes : (p : List Datum → Bool) → failing (λ e. p e.cells) h ≡ 0 → failing (λ e. p e.cells) (te.added ++ tr.added) ≡ 0
  passes p none =
      let kept = holds.cells p none in
      failing-append (λ (e : SavedEntry). p e.cells) te.added tr.added (te.cells p kept.waits)
      (tr.cells p (λ k t rest is. pick p kept.opens k t rest is (starts_of te.added k) refl))
    where
      pick : (p : List Datum → Bool) → ((k : List Datum) (t : ℕ) (rest : List ℕ) → since_at o.rows.starts k ≡ t ∷ rest → p k ≡ true) → (k : List Datum) (t : ℕ) (rest : List ℕ) → s1 k ≡ t ∷ rest →
          (front : List ℕ) → starts_of te.added k ≡ front → p k ≡ true
      pick p h k t rest is [] g = h k t rest (sym (te.starts k) ∙ ap (λ s. s ++ s1 k) g ∙ is)
      pick p h k t rest is (y ∷ ys) g = h k y (ys ++ s1 k) (sym (te.starts k) ∙ ap (λ s. s ++ s1 k) g)

  others_rise : IsNonDecreasingBy (λ e. e.other) (te.added ++ tr.added)
  others_rise = order_more (λ (e : SavedEntry). e.other) inf te.added tr.added te.order
      (All-weaker (λ (e : SavedEntry). (e.part ≡ 0) × (c ≤ e.other) × (e.other < inf)) (λ (e : SavedEntry). e.other ≤ inf) (λ e h. let z = h.2 in omega (arith, z)) te.added te.each)
      (All-weaker (EndAt inf) (λ (e : SavedEntry). e.other ≡ inf) (λ e h. h.1) tr.added tr.each)

  bounds : All (λ e. (e.part ≡ 0) × (c ≤ e.other) × (e.other ≤ inf)) (te.added ++ tr.added)
  bounds = All-append (λ (e : SavedEntry). (e.part ≡ 0) × (c ≤ e.other) × (e.other ≤ inf)) te.added tr.added
      (All-weaker (λ (e : SavedEntry). (e.part ≡ 0) × (c ≤ e.other) × (e.other < inf)) (λ (e : SavedEntry). (e.part ≡ 0) × (c ≤ e.other) × (e.other ≤ inf)) (λ e h. (h.0, h.1, let z = h.2 in omega (arith, z))) te.added te.each)
      (All-weaker (EndAt inf) (λ (e : SavedEntry). (e.part ≡ 0) × (c ≤ e.other) × (e.other ≤ inf)) (λ e h. (h.0, let z = h.1 in let y = holds.high in omega (arith, z, y), let z = h.1 in omega (arith, z))) tr.added tr.each)

  pub save_resumes : Resumes o.rows.kinds.items saved c texts h
  save_resumes = subst (λ l. Resumes o.rows.kinds.items l c texts h) (sym is_all) (record {
    sound = record {
      high = holds.high;
      each = kept_all o.rows.kinds.items c (te.added ++ tr.added) (λ k. subst (All (λ s. s < c)) (sym (starts_are k)) (opens_rise k).1)
          (passes (of_kinds o.rows.kinds.items) (all_of_kinds o.rows.kinds.items h kinds)) bounds;
      starts = λ k. subst IsNonDecreasing (sym (starts_are k)) (opens_rise k).0;
      others = λ k. keys_rise (λ e. e.other) (entries_of (te.added ++ tr.added) k)
          (IsNonDecreasingBy-filter (λ (e : SavedEntry). e.other) (λ e. same_cells e.cells k) (te.added ++ tr.added) others_rise);
    };
    history = holds.history;
    opened = λ r. starts_are (cells_of texts r) ∙ holds.swept.reached.opened r;
    ends = λ t low below.
        subst (λ es. SameMoves (edges_at t es) (news t (suc t) (of h)))
        (sym (flat_map-append end_of te.added tr.added ∙ ap (λ l. ends_of te.added ++ l) (no_ends tr.added tr.each) ∙ append-nil (ends_of te.added)))
        (te.ends t low below);
    cells = passes;
  })
