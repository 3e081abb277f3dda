-- Entries that are taken up one by one, and what an output keeps of them.
use Rattle.std.specs.Prelude.{◌≡◌, ℕ, suc, ◌+◌, ◌-◌, ◌<◌, ◌≤◌, nat_eq, nat_lt, Bool, true, false, cond, None, List, [], ◌∷◌, ◌++◌, map, length, All, refl}
use Rattle.std.specs.List.Sorted.{IsNonDecreasing}
use Rattle.std.proofs.Common.{sym, ◌∙◌, ap, subst, arith, get_or, take, drop}
use Rattle.std.proofs.lemmas.Bool.Decides.{nat_tests}
use Rattle.std.proofs.lemmas.List.{append-nil, map-append, length-append, get_or_append_left, get_or_push, get_or_default, take_more, take_all, take-append-drop}
use Rattle.std.proofs.lemmas.List.Elements.{filter-append, All-nil, All-cons, All-head, All-tail, All-append, All-filter, All-get_or}
use Rattle.std.proofs.lemmas.List.Sorted.{IsNonDecreasingBy-push, IsNonDecreasingBy-short}
use Rattle.std.proofs.lemmas.Grind.{flat_map-append}
use Rattle.tw_rows.specs.Instant.{inf}
use Rattle.tw_rows.specs.Event.{alive}
use Rattle.tw_rows.specs.Cells.{ArePlaced}
use Rattle.tw_rows.specs.SameCells.{same_cells, cells_are_same, same_itself}
use Rattle.tw_rows.specs.declared.cells.Datum.{Datum}
use Rattle.tw_rows.specs.declared.kind.Kind.{Kind}
use Rattle.tw_rows.specs.declared.edge.Edge.{Edge}
use Rattle.edge_stream.specs.declared.saved.SavedEntry.{SavedEntry}
use Rattle.edge_history.specs.Order.{failing}
use Rattle.edge_history.specs.History.{of}
use Rattle.edge_history.specs.Balance.{news}
use Rattle.edge_history.proofs.Sums.{failing-append, failing-filter}
use Rattle.plan_laws.specs.Places.{read_events, EdgesArePlaced}
use Rattle.synopsis.specs.Kept.{since_at, EachIsOpen}
use Rattle.plan_laws.specs.RowCells.{cells_of}
use Rattle.egress.specs.Kept.{since_in, HasAdded}
use Rattle.egress.specs.Waiting.{Waiting, edges_if, edges_at, waiting_in, ArePut, SameMoves, WaitingArePlaced}
use Rattle.egress.specs.Output.{Holds}
use Rattle.egress.specs.Reached.{Reached}
use Rattle.egress.specs.Saving.{entries_of, starts_of, others_of, end_of, ends_of, IsKept, IsSound, MayFollow, Resumes, EntriesArePlaced}
use Rattle.egress.specs.declared.egress.Egress.{Egress}
use Rattle.egress.specs.declared.loading.Loaded.{Loaded}
use Rattle.egress.proofs.Putting.{then_put}
use Rattle.egress.proofs.Reaching.{reached_first}
use Rattle.egress.proofs.Taking.{first_passes}

-- NUMBERS THAT DO NOT FALL
pub nothing : {X : Type 0} (xs : List X) → (0 < length xs → ⊥) → xs ≡ []
nothing [] h = refl
nothing (x ∷ xs) h = absurd (h (omega arith))

pub rises_then : (xs : List ℕ) (t l : ℕ) → IsNonDecreasing xs → 0 < length xs → l ≡ get_or xs (length xs - 1) l → l ≤ t → IsNonDecreasing (xs ++ t ∷ [])
rises_then xs t l h some last low =
    IsNonDecreasingBy-push (λ (x : ℕ). x) xs t h (λ d _. let a = get_or_default xs (length xs - 1) d l (omega (arith, some)) in omega (arith, a, last, low))

pub last_below : (xs : List ℕ) (t l : ℕ) → 0 < length xs → l ≡ get_or xs (length xs - 1) l → IsNonDecreasing (xs ++ t ∷ []) → l ≤ t
last_below xs t l some last h =
    let len = length-append xs (t ∷ []) in
    let k = h (length xs - 1) (length xs) l (omega arith) (omega (arith, len)) in
    let a = get_or_append_left xs (t ∷ []) l (length xs - 1) (omega (arith, some)) in
    let b = get_or_push xs t l (length xs) refl in
    omega (arith, k, a, b, last)

pub one_rises : (xs : List ℕ) (t : ℕ) → xs ≡ [] → IsNonDecreasing (xs ++ t ∷ [])
one_rises xs t none = subst (λ l. IsNonDecreasing (l ++ t ∷ [])) (sym none) (IsNonDecreasingBy-short (λ (x : ℕ). x) (t ∷ []) (omega arith))

none_rises : IsNonDecreasing []
none_rises = IsNonDecreasingBy-short (λ (x : ℕ). x) [] (omega arith)

front_rises : (xs ys : List ℕ) → IsNonDecreasing (xs ++ ys) → IsNonDecreasing xs
front_rises xs ys h i j d low within =
    let len = length-append xs ys in
    let k = h i j d low (omega (arith, within, len)) in
    let a = get_or_append_left xs ys d i (omega (arith, low, within)) in
    let b = get_or_append_left xs ys d j within in
    omega (arith, k, a, b)

-- ENTRIES OF A ROW
pub starts_append : (xs ys : List SavedEntry) (c : List Datum) → starts_of (xs ++ ys) c ≡ starts_of xs c ++ starts_of ys c
starts_append xs ys c =
    ap (map (λ (e : SavedEntry). e.sync)) (filter-append (λ (e : SavedEntry). same_cells e.cells c) xs ys)
    ∙ map-append (λ (e : SavedEntry). e.sync) (entries_of xs c) (entries_of ys c)

pub others_append : (xs ys : List SavedEntry) (c : List Datum) → others_of (xs ++ ys) c ≡ others_of xs c ++ others_of ys c
others_append xs ys c =
    ap (map (λ (e : SavedEntry). e.other)) (filter-append (λ (e : SavedEntry). same_cells e.cells c) xs ys)
    ∙ map-append (λ (e : SavedEntry). e.other) (entries_of xs c) (entries_of ys c)

pub starts_then : (xs : List SavedEntry) (e : SavedEntry) (c : List Datum) →
    starts_of (xs ++ e ∷ []) c ≡ cond (same_cells e.cells c) (starts_of xs c ++ e.sync ∷ []) (starts_of xs c)
starts_then xs e c = starts_append xs (e ∷ []) c ∙ pick (same_cells e.cells c)
  where
    pick : (b : Bool) → starts_of xs c ++ map (λ (x : SavedEntry). x.sync) (cond b (e ∷ []) []) ≡ cond b (starts_of xs c ++ e.sync ∷ []) (starts_of xs c)
    pick true = refl
    pick false = append-nil (starts_of xs c)

pub others_then : (xs : List SavedEntry) (e : SavedEntry) (c : List Datum) →
    others_of (xs ++ e ∷ []) c ≡ cond (same_cells e.cells c) (others_of xs c ++ e.other ∷ []) (others_of xs c)
others_then xs e c = others_append xs (e ∷ []) c ∙ pick (same_cells e.cells c)
  where
    pick : (b : Bool) → others_of xs c ++ map (λ (x : SavedEntry). x.other) (cond b (e ∷ []) []) ≡ cond b (others_of xs c ++ e.other ∷ []) (others_of xs c)
    pick true = refl
    pick false = append-nil (others_of xs c)

-- one more time of a row
grown : (xs : List ℕ) (t : ℕ) (k c : List Datum) (b : Bool) → same_cells k c ≡ b → IsNonDecreasing xs → (same_cells k c ≡ true → IsNonDecreasing (xs ++ t ∷ [])) →
    IsNonDecreasing (cond b (xs ++ t ∷ []) xs)
grown xs t k c true e h g = g e
grown xs t k c false e h g = h

-- THE LOOP
-- so many entries were taken up
pub record Loads (kinds : List Kind) (closed : ℕ) (xs : List SavedEntry) (l : Loaded) : Type 0 where
  pub opens : (c : List Datum) → since_at l.starts c ≡ starts_of xs c
  pub ends : (c : List Datum) → since_at l.ends c ≡ others_of xs c
  pub put : ArePut (λ t. None) (waiting_in l.waiting) (ends_of xs)
  pub each : All (IsKept kinds closed) xs
  pub starts : (c : List Datum) → IsNonDecreasing (starts_of xs c)
  pub others : (c : List Datum) → IsNonDecreasing (others_of xs c)
  pub kept : EachIsOpen l.starts

module _ (kinds : List Kind) (closed : ℕ) where
  pub loads_first : (l : Loaded) → ((c : List Datum) → since_at l.starts c ≡ []) → ((c : List Datum) → since_at l.ends c ≡ []) → ((t : ℕ) → waiting_in l.waiting t ≡ None) → EachIsOpen l.starts → Loads kinds closed [] l
  loads_first l opens ends none kept = record {
    kept = kept;
    opens = opens;
    ends = ends;
    put = record { edges = λ t. ap edges_if (none t); none = λ t _ _. none t };
    each = All-nil (IsKept kinds closed);
    starts = λ c. none_rises;
    others = λ c. none_rises;
  }

  module _ (xs : List SavedEntry) (l l2 : Loaded) (e : SavedEntry) (was : Loads kinds closed xs l) where
    pub starts_rise : (c : List Datum) → IsNonDecreasing (since_at l.starts c)
    starts_rise c = subst IsNonDecreasing (sym (was.opens c)) (was.starts c)

    pub ends_rise : (c : List Datum) → IsNonDecreasing (since_at l.ends c)
    ends_rise c = subst IsNonDecreasing (sym (was.ends c)) (was.others c)

    pub loads_next : HasAdded e.cells e.sync 1 l.starts l2.starts → HasAdded e.cells e.other 1 l.ends l2.ends → ArePut (waiting_in l.waiting) (waiting_in l2.waiting) (end_of e) →
        MayFollow kinds closed l.starts l.ends e → (EachIsOpen l.starts → EachIsOpen l2.starts) → Loads kinds closed (xs ++ e ∷ []) l2
    loads_next opens ends put follows kept = record {
      kept = kept was.kept;
      opens = λ c. opens c ∙ ap (λ s. cond (same_cells e.cells c) (s ++ e.sync ∷ []) s) (was.opens c) ∙ sym (starts_then xs e c);
      ends = λ c. ends c ∙ ap (λ s. cond (same_cells e.cells c) (s ++ e.other ∷ []) s) (was.ends c) ∙ sym (others_then xs e c);
      put = subst (ArePut (λ t. None) (waiting_in l2.waiting)) (ap (λ es. ends_of xs ++ es) (sym (append-nil (end_of e))) ∙ sym (flat_map-append end_of xs (e ∷ [])))
          (then_put (λ t. None) (waiting_in l.waiting) (waiting_in l2.waiting) (ends_of xs) (end_of e) was.put put);
      each = All-append (IsKept kinds closed) xs (e ∷ []) was.each (All-cons (IsKept kinds closed) e [] follows.kept (All-nil (IsKept kinds closed)));
      starts = λ c. subst IsNonDecreasing (sym (starts_then xs e c))
          (grown (starts_of xs c) e.sync e.cells c (same_cells e.cells c) refl (was.starts c)
          (λ same. subst (λ s. IsNonDecreasing (s ++ e.sync ∷ [])) (was.opens c) (subst (λ k. IsNonDecreasing (since_at l.starts k ++ e.sync ∷ [])) (cells_are_same e.cells c same) follows.starts_rise)));
      others = λ c. subst IsNonDecreasing (sym (others_then xs e c))
          (grown (others_of xs c) e.other e.cells c (same_cells e.cells c) refl (was.others c)
          (λ same. subst (λ s. IsNonDecreasing (s ++ e.other ∷ [])) (was.ends c) (subst (λ k. IsNonDecreasing (since_at l.ends k ++ e.other ∷ [])) (cells_are_same e.cells c same) follows.ends_rise)));
    }

    -- where all entries are sound, none of the tests fails
    module _ (rest : List SavedEntry) (sound : IsSound kinds ((xs ++ e ∷ []) ++ rest) closed) where
      pub sound_start : IsNonDecreasing (since_at l.starts e.cells ++ e.sync ∷ [])
      sound_start =
          let a = front_rises (starts_of (xs ++ e ∷ []) e.cells) (starts_of rest e.cells) (subst IsNonDecreasing (starts_append (xs ++ e ∷ []) rest e.cells) (sound.starts e.cells)) in
          subst (λ s. IsNonDecreasing (s ++ e.sync ∷ [])) (sym (was.opens e.cells))
          (subst IsNonDecreasing (starts_then xs e e.cells ∙ ap (λ b. cond b (starts_of xs e.cells ++ e.sync ∷ []) (starts_of xs e.cells)) (same_itself e.cells)) a)

      pub sound_other : IsNonDecreasing (since_at l.ends e.cells ++ e.other ∷ [])
      sound_other =
          let a = front_rises (others_of (xs ++ e ∷ []) e.cells) (others_of rest e.cells) (subst IsNonDecreasing (others_append (xs ++ e ∷ []) rest e.cells) (sound.others e.cells)) in
          subst (λ s. IsNonDecreasing (s ++ e.other ∷ [])) (sym (was.ends e.cells))
          (subst IsNonDecreasing (others_then xs e e.cells ∙ ap (λ b. cond b (others_of xs e.cells ++ e.other ∷ []) (others_of xs e.cells)) (same_itself e.cells)) a)

  pub loads_all : (es : List SavedEntry) (i : ℕ) (l : Loaded) → length es ≤ i → Loads kinds closed (take i es) l → Loads kinds closed es l
  loads_all es i l end h = subst (λ xs. Loads kinds closed xs l) (take_all i es end) h

-- the entries up to one, that one, and the others
pub parted : (es : List SavedEntry) (i : ℕ) (e : SavedEntry) → i < length es → e ≡ get_or es i e → es ≡ (take i es ++ e ∷ []) ++ drop (i + 1) es
parted es i e low is = sym (take-append-drop (i + 1) es) ∙ ap (λ l. l ++ drop (i + 1) es) (take_more es i e low ∙ ap (λ x. take i es ++ x ∷ []) (sym is))

pub front_is : {X : Type 0} (es : List X) (i : ℕ) (e : X) → i < length es → e ≡ get_or es i e → take i es ++ e ∷ [] ≡ take (i + 1) es
front_is es i e low is = ap (λ x. take i es ++ x ∷ []) is ∙ sym (take_more es i e low)

pub all_there : (kinds : List Kind) (closed : ℕ) (es : List SavedEntry) (i : ℕ) (e : SavedEntry) → i < length es → e ≡ get_or es i e → All (IsKept kinds closed) es → IsKept kinds closed e
all_there kinds closed es i e low is h = subst (IsKept kinds closed) (sym is) (All-get_or (IsKept kinds closed) es i e low h)

-- what is put of an entry
pub none_put : (w : Waiting) (e : SavedEntry) → nat_lt e.other inf ≡ false → ArePut w w (end_of e)
none_put w e last = subst (ArePut w w) (sym (ap (λ b. cond b (record { sync = e.other; other = 0; cells = e.cells } ∷ []) []) last))
    (record { edges = λ t. sym (append-nil (edges_if (w t))); none = λ t was _. was })

pub known_put : (w w2 : Waiting) (e : SavedEntry) (x : Edge) → nat_lt e.other inf ≡ true → x ≡ record { sync = e.other; other = 0; cells = e.cells } → ArePut w w2 (x ∷ []) → ArePut w w2 (end_of e)
known_put w w2 e x known is put = subst (ArePut w w2) (ap (λ y. y ∷ []) is ∙ sym (ap (λ b. cond b (record { sync = e.other; other = 0; cells = e.cells } ∷ []) []) known)) put

-- WHAT IS KEPT
none_before : (kinds : List Kind) (closed t : ℕ) (es : List SavedEntry) → All (IsKept kinds closed) es → t < closed → edges_at t (ends_of es) ≡ []
none_before kinds closed t [] h low = refl
none_before kinds closed t (e ∷ es) h low =
    let kept = All-head (IsKept kinds closed) e es h in
    let apart : nat_eq e.other t ≡ false = let g = kept.going in grind (arith, nat_tests, g, low) in
    filter-append (λ (x : Edge). nat_eq x.sync t) (end_of e) (ends_of es)
    ∙ ap (λ l. l ++ edges_at t (ends_of es)) (pick (nat_lt e.other inf) apart)
    ∙ none_before kinds closed t es (All-tail (IsKept kinds closed) e es h) low
  where
    pick : (b : Bool) → nat_eq e.other t ≡ false → edges_at t (cond b (record { sync = e.other; other = 0; cells = e.cells } ∷ []) []) ≡ []
    pick true apart = ap (λ b. cond b (record { sync = e.other; other = 0; cells = e.cells } ∷ []) []) apart
    pick false apart = refl

-- a row with an open start has an entry
open_passes : (p : List Datum → Bool) (es : List SavedEntry) (c : List Datum) (t : ℕ) (rest : List ℕ) → failing (λ e. p e.cells) es ≡ 0 → starts_of es c ≡ t ∷ rest → p c ≡ true
open_passes p [] c t rest none is = absurd (cc)
open_passes p (e ∷ es) c t rest none is = pick (same_cells e.cells c) refl is (p e.cells) refl none (open_passes p es c t rest)
  where
    pick : (b : Bool) → same_cells e.cells c ≡ b → map (λ (x : SavedEntry). x.sync) (cond b (e ∷ entries_of es c) (entries_of es c)) ≡ t ∷ rest →
        (a : Bool) → p e.cells ≡ a → cond {A = ℕ} a 0 1 + failing (λ x. p x.cells) es ≡ 0 → (failing (λ x. p x.cells) es ≡ 0 → starts_of es c ≡ t ∷ rest → p c ≡ true) → p c ≡ true
    pick b same f false own n later = absurd (omega (arith, n))
    pick true same f true own n later = ap p (sym (cells_are_same e.cells c same)) ∙ own
    pick false same f true own n later = later (omega (arith, n)) f

ends_pass : (p : List Datum → Bool) (es : List SavedEntry) → failing (λ e. p e.cells) es ≡ 0 → failing (λ x. p x.cells) (ends_of es) ≡ 0
ends_pass p [] none = refl
ends_pass p (e ∷ es) none =
    let parts = first_passes (p e.cells) (failing (λ (x : SavedEntry). p x.cells) es) none in
    failing-append (λ (x : Edge). p x.cells) (end_of e) (ends_of es) (one (nat_lt e.other inf) parts.0) (ends_pass p es parts.1)
  where
    one : (b : Bool) → p e.cells ≡ true → failing (λ (x : Edge). p x.cells) (cond b (record { sync = e.other; other = 0; cells = e.cells } ∷ []) []) ≡ 0
    one true own = ap (λ a. cond {A = ℕ} a 0 1 + 0) own
    one false own = refl

module _ (o : Egress) (saved : List SavedEntry) (closed : ℕ) (opens : (c : List Datum) → since_at o.rows.starts c ≡ starts_of saved c) (kept : EachIsOpen o.rows.starts)
    (put : ArePut (λ t. None) (waiting_in o.waiting) (ends_of saved)) where
  pub resumed : (texts : List (List ℕ)) (h : List Edge) → o.rows.lines.items ≡ [] → Resumes o.rows.kinds.items saved closed texts h → Holds texts h closed closed o
  resumed texts h empty r = record {
    high = r.sound.high;
    history = r.history;
    kept = kept;
    swept = record {
      waits = λ v low below. subst (λ es. SameMoves es (news v (suc v) (of h))) (sym (put.edges v)) (r.ends v low below);
      none = λ v low. put.none v refl (none_before o.rows.kinds.items closed v saved r.sound.each low);
      reached = subst (λ l. Reached (alive (read_events texts (of h))) o.rows.kinds.items closed closed (since_in texts o.rows.starts) l) (sym empty)
          (reached_first (alive (read_events texts (of h))) o.rows.kinds.items closed (since_in texts o.rows.starts) (λ q. opens (cells_of texts q) ∙ r.opened q));
    };
    cells = λ p none. let pass = r.cells p none in record {
      opens = λ c t rest is. open_passes p saved c t rest pass (sym (opens c) ∙ is);
      waits = λ t. ap (failing (λ (e : Edge). p e.cells)) (put.edges t) ∙ failing-filter (λ (x : Edge). nat_eq x.sync t) (λ (x : Edge). p x.cells) (ends_of saved) (ends_pass p saved pass);
    };
  }

-- the places of what waits are those of the entries
ends_placed : (texts : List (List ℕ)) (es : List SavedEntry) → EntriesArePlaced texts es → EdgesArePlaced texts (ends_of es)
ends_placed texts [] h = All-nil (λ (x : Edge). ArePlaced texts x.cells)
ends_placed texts (e ∷ es) h =
    All-append (λ (x : Edge). ArePlaced texts x.cells) (end_of e) (ends_of es) (pick (nat_lt e.other inf)) (ends_placed texts es (All-tail (λ (x : SavedEntry). ArePlaced texts x.cells) e es h))
  where
    pick : (b : Bool) → EdgesArePlaced texts (cond b (record { sync = e.other; other = 0; cells = e.cells } ∷ []) [])
    pick true = All-cons (λ (x : Edge). ArePlaced texts x.cells) (record { sync = e.other; other = 0; cells = e.cells }) [] (All-head (λ (x : SavedEntry). ArePlaced texts x.cells) e es h) (All-nil (λ (x : Edge). ArePlaced texts x.cells))
    pick false = All-nil (λ (x : Edge). ArePlaced texts x.cells)

pub loaded_placed : (texts : List (List ℕ)) (saved : List SavedEntry) (waiting : Waiting) → ArePut (λ t. None) waiting (ends_of saved) → EntriesArePlaced texts saved → WaitingArePlaced texts waiting
loaded_placed texts saved waiting put h t =
    subst (EdgesArePlaced texts) (sym (put.edges t)) (All-filter (λ x. nat_eq x.sync t) (λ (x : Edge). ArePlaced texts x.cells) (ends_of saved) (ends_placed texts saved h))
