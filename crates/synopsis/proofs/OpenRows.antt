-- Rows one by one, and their queues.
use Rattle.std.specs.Prelude.{◌≡◌, ℕ, zero, suc, ◌+◌, ◌-◌, ◌<◌, ◌≤◌, Bool, true, false, cond, ◌||◌, Some, List, [], ◌∷◌, ◌++◌, map, filter, take, drop, replicate, length, get_or, refl}
use Rattle.std.specs.List.{list_any, IsDistinct, AllByRecursion}
use Rattle.std.specs.Map.{lookup, keys_of}
use Rattle.std.specs.declared.collections.VecDeque.{VecDeque}
use Rattle.std.proofs.Common.{sym, ◌∙◌, ap, arith}
use Rattle.std.proofs.lemmas.List.{append-nil, map-append, take_more, take-append-drop}
use Rattle.std.proofs.lemmas.List.Folds.{list_any-append}
use Rattle.tw_rows.specs.Bag.{total, SameBag}
use Rattle.tw_rows.specs.Instant.{inf}
use Rattle.tw_rows.specs.SameCells.{same_cells, cells_are_same, same_itself}
use Rattle.tw_rows.specs.declared.cells.Datum.{Datum}
use Rattle.tw_rows.specs.declared.edge.Edge.{Edge}
use Rattle.tw_rows.specs.declared.edge.HeldRow.{HeldRow}
use Rattle.tw_rows.proofs.Bags.{total-append, total-add, total_same, total_zero, total-flat_map}
use Rattle.edge_history.specs.Opens.{opens, bare}
use Rattle.key_nodes.specs.Coalesced.{how_often, rows_below, coalesced}
use Rattle.key_nodes.specs.Groups.{distinct}
use Rattle.key_nodes.proofs.Bags.{count_distinct, sum_distinct, total_le}
use Rattle.sweep_laws.specs.Queues.{rise, fall, open_starts, held_with, queue_after}
use Rattle.sweep_laws.specs.Saving.{rows_of}
use Rattle.sweep_laws.proofs.Queueing.{opens_are}
use Rattle.synopsis.specs.Kept.{times_if, rows_in}
use Rattle.synopsis.specs.Queued.{queue_of, rows_at, AreQueues}
use Rattle.synopsis.proofs.Once.{cells_tell, either_way}

filter_append : {X : Type 0} (p : X → Bool) (xs ys : List X) → filter p (xs ++ ys) ≡ filter p xs ++ filter p ys
filter_append p [] ys = refl
filter_append p (x ∷ xs) ys = go (p x) (filter_append p xs ys)
  where
    go : (b : Bool) → filter p (xs ++ ys) ≡ filter p xs ++ filter p ys → cond b (x ∷ filter p (xs ++ ys)) (filter p (xs ++ ys)) ≡ cond b (x ∷ filter p xs) (filter p xs) ++ filter p ys
    go true h = ap (λ l. x ∷ l) h
    go false h = h

pub queue_append : (xs ys : List HeldRow) (c : List Datum) → queue_of (xs ++ ys) c ≡ queue_of xs c ++ queue_of ys c
queue_append xs ys c =
    let p : HeldRow → Bool = λ r. same_cells c r.cells in
    ap (map (λ (r : HeldRow). r.start)) (filter_append p xs ys) ∙ map-append (λ (r : HeldRow). r.start) (filter p xs) (filter p ys)

pub queue_one : (r : HeldRow) (c : List Datum) → queue_of (r ∷ []) c ≡ cond (same_cells c r.cells) (r.start ∷ []) []
queue_one r c = go (same_cells c r.cells)
  where
    go : (b : Bool) → map (λ (r : HeldRow). r.start) (cond b (r ∷ []) []) ≡ cond b (r.start ∷ []) []
    go true = refl
    go false = refl

-- the queue of rows that are one row with several starts
held_queue : (k c : List Datum) (starts : List ℕ) → queue_of (held_with k starts) c ≡ cond (same_cells c k) starts []
held_queue k c [] = go (same_cells c k)
  where
    go : (b : Bool) → [] ≡ cond {A = List ℕ} b [] []
    go true = refl
    go false = refl
held_queue k c (s ∷ starts) = go (same_cells c k) (held_queue k c starts)
  where
    rest : List HeldRow
    rest = filter (λ r. same_cells c r.cells) (held_with k starts)

    go : (b : Bool) → map (λ (r : HeldRow). r.start) rest ≡ cond b starts [] →
        map (λ (r : HeldRow). r.start) (cond b (record { cells = k; start = s } ∷ rest) rest) ≡ cond b (s ∷ starts) []
    go true h = ap (λ l. s ∷ l) h
    go false h = h

-- THE ROWS OF A MAP
module _ {S : Type 0} where
  absent : (k c : List Datum) → same_cells c k ≡ true → (es : List (List Datum × VecDeque ℕ S)) → AllByRecursion (λ y. same_cells k y ≡ false) (keys_of es) →
      queue_of (rows_in es) c ≡ []
  absent k c is [] h = refl
  absent k c is (e ∷ es) h =
      let apart : same_cells c e.0 ≡ false = ap (λ x. same_cells x e.0) (cells_are_same c k is) ∙ h.0 in
      queue_append (held_with e.0 e.1.items) (rows_in es) c
      ∙ (ap (λ l. l ++ queue_of (rows_in es) c) (held_queue e.0 c e.1.items ∙ ap (λ b. cond b e.1.items []) apart) ∙ absent k c is es h.1)

  pub queue_is : (es : List (List Datum × VecDeque ℕ S)) (c : List Datum) → IsDistinct same_cells (keys_of es) → queue_of (rows_in es) c ≡ times_if (lookup (same_cells c) es)
  unfolding IsDistinct
  queue_is [] c h = refl
  queue_is (e ∷ es) c h =
      queue_append (held_with e.0 e.1.items) (rows_in es) c
      ∙ (ap (λ l. l ++ queue_of (rows_in es) c) (held_queue e.0 c e.1.items) ∙ go (same_cells c e.0) refl (queue_is es c h.1))
    where
      go : (b : Bool) → same_cells c e.0 ≡ b → queue_of (rows_in es) c ≡ times_if (lookup (same_cells c) es) →
          cond b e.1.items [] ++ queue_of (rows_in es) c ≡ times_if (cond b (Some e.1) (lookup (same_cells c) es))
      go true is rest = ap (λ l. e.1.items ++ l) (absent e.0 c is es h.0) ∙ append-nil e.1.items
      go false is rest = rest

-- the queue of a row, among a few and in a map
pub held_is : {S : Type 0} (few : List HeldRow) (es : List (List Datum × VecDeque ℕ S)) (c : List Datum) → IsDistinct same_cells (keys_of es) →
    queue_of (few ++ rows_in es) c ≡ queue_of few c ++ times_if (lookup (same_cells c) es)
held_is few es c unique = queue_append few (rows_in es) c ∙ ap (λ l. queue_of few c ++ l) (queue_is es c unique)

-- WEIGHTS OF ROWS, QUEUE BY QUEUE
module _ (w : HeldRow → ℕ) where
  abbrev part : List HeldRow → List Datum → ℕ
  part rows c = total w (held_with c (queue_of rows c))

  part_more : (r : HeldRow) (rows : List HeldRow) (c : List Datum) → part (r ∷ rows) c ≡ cond (same_cells r.cells c) (w r) 0 + part rows c
  part_more r rows c = go (same_cells c r.cells) refl ∙ ap (λ b. cond b (w r) 0 + part rows c) (either_way c r.cells)
    where
      rest : List HeldRow
      rest = filter (λ x. same_cells c x.cells) rows

      go : (b : Bool) → same_cells c r.cells ≡ b → total w (held_with c (map (λ (x : HeldRow). x.start) (cond b (r ∷ rest) rest))) ≡ cond b (w r) 0 + part rows c
      go true e = ap (λ k. w (record { cells = k; start = r.start }) + part rows c) (cells_are_same c r.cells e)
      go false e = let z : part rows c ≡ 0 + part rows c = omega arith in z

  -- the rows weigh what their queues do, over any rows that have them all
  pub by_queues : (rows : List HeldRow) (D : List (List Datum)) → ((c : List Datum) → list_any (same_cells c) (bare rows) ≡ true → list_any (same_cells c) D ≡ true) →
      total w rows ≡ total (part rows) (distinct same_cells D)
  by_queues [] D h = sym (total_zero (distinct same_cells D))
  by_queues (r ∷ rows) D h =
      let ih = by_queues rows D (λ c e. h c (right (same_cells c r.cells) (list_any (same_cells c) (bare rows)) e)) in
      let a = total_same (part (r ∷ rows)) (λ c. cond (same_cells r.cells c) (w r) 0 + part rows c) (distinct same_cells D) (part_more r rows) in
      let b = total-add (λ c. cond (same_cells r.cells c) (w r) 0) (part rows) (distinct same_cells D) in
      let d = count_distinct same_cells cells_tell r.cells (w r) D in
      let e = ap (λ t. cond t (w r) 0) (h r.cells (left (same_cells r.cells r.cells) (list_any (same_cells r.cells) (bare rows)) (same_itself r.cells))) in
      omega (arith, ih, a, b, d, e)
    where
      left : (a b : Bool) → a ≡ true → (a || b) ≡ true
      left true b h = refl
      left false b h = absurd (cc)

      right : (a b : Bool) → b ≡ true → (a || b) ≡ true
      right true b h = refl
      right false b h = h

either_of : (a b : Bool) → (a || b) ≡ false → (a ≡ false) × (b ≡ false)
either_of true b h = absurd (cc)
either_of false b h = (refl, h)

first_of : (a b : Bool) → a ≡ true → (a || b) ≡ true
first_of true b h = refl
first_of false b h = absurd (cc)

second_of : (a b : Bool) → b ≡ true → (a || b) ≡ true
second_of true b h = refl
second_of false b h = h

in_first : (c : List Datum) (xs ys : List (List Datum)) → list_any (same_cells c) xs ≡ true → list_any (same_cells c) (xs ++ ys) ≡ true
in_first c xs ys h = list_any-append (same_cells c) xs ys ∙ first_of (list_any (same_cells c) xs) (list_any (same_cells c) ys) h

in_second : (c : List Datum) (xs ys : List (List Datum)) → list_any (same_cells c) ys ≡ true → list_any (same_cells c) (xs ++ ys) ≡ true
in_second c xs ys h = list_any-append (same_cells c) xs ys ∙ second_of (list_any (same_cells c) xs) (list_any (same_cells c) ys) h

-- a row that is not there has no queue
no_queue : (rows : List HeldRow) (c : List Datum) → list_any (same_cells c) (bare rows) ≡ false → queue_of rows c ≡ []
no_queue [] c h = refl
no_queue (r ∷ rows) c h =
    let k = either_of (same_cells c r.cells) (list_any (same_cells c) (bare rows)) h in
    queue_append (r ∷ []) rows c ∙ (ap (λ l. l ++ queue_of rows c) (queue_one r c ∙ ap (λ b. cond b (r.start ∷ []) []) k.0) ∙ no_queue rows c k.1)

-- rows with the same queues are the same, in some order
pub same_rows : (xs ys : List HeldRow) → ((c : List Datum) → queue_of xs c ≡ queue_of ys c) → SameBag xs ys
same_rows xs ys h = record {
  weigh = λ w.
      let D = bare xs ++ bare ys in
      by_queues w xs D (λ c e. in_first c (bare xs) (bare ys) e)
      ∙ (total_same (part w xs) (part w ys) (distinct same_cells D) (λ c. ap (λ l. total w (held_with c l)) (h c))
      ∙ sym (by_queues w ys D (λ c e. in_second c (bare xs) (bare ys) e)));
}

-- WHAT IS OPEN
module _ (f : ℕ → List (List Datum)) where
  often_none : (c : List Datum) (xs : List (List Datum)) → list_any (same_cells c) xs ≡ false → how_often same_cells c xs ≡ 0
  often_none c [] h = refl
  often_none c (x ∷ xs) h =
      let k = either_of (same_cells c x) (list_any (same_cells c) xs) h in
      let a = ap (λ b. cond {A = ℕ} b 1 0) k.0 in
      let b = often_none c xs k.1 in
      omega (arith, a, b)

  -- a row that never stands below n has no open start at n
  never_open : (c : List Datum) (n : ℕ) → list_any (same_cells c) (rows_below f n) ≡ false → open_starts same_cells f c n ≡ []
  never_open c zero h = refl
  never_open c (suc n) h =
      let k = either_of (list_any (same_cells c) (rows_below f n)) (list_any (same_cells c) (f n)) (sym (list_any-append (same_cells c) (rows_below f n) (f n)) ∙ h) in
      let z = often_none c (f n) k.1 in
      let r : rise same_cells f c n ≡ 0 = omega (arith, z) in
      ap (λ l. drop (fall same_cells f c n) l ++ replicate (rise same_cells f c n) n) (never_open c n k.0)
      ∙ (ap (λ m. drop (fall same_cells f c n) [] ++ replicate m n) r ∙ none (fall same_cells f c n))
    where
      none : (m : ℕ) → drop {A = ℕ} m [] ++ [] ≡ []
      none zero = refl
      none (suc m) = refl

  fewer : (c : List Datum) (t k : ℕ) → list_any (same_cells c) (rows_below f (t + k)) ≡ false → list_any (same_cells c) (rows_below f t) ≡ false
  fewer c t zero h = (let e : t ≡ t + 0 = omega arith in ap (λ n. list_any (same_cells c) (rows_below f n)) e) ∙ h
  fewer c t (suc k) h =
      let e : t + suc k ≡ suc (t + k) = omega arith in
      let g = sym (ap (λ n. list_any (same_cells c) (rows_below f n)) e) ∙ h in
      fewer c t k (either_of (list_any (same_cells c) (rows_below f (t + k))) (list_any (same_cells c) (f (t + k))) (sym (list_any-append (same_cells c) (rows_below f (t + k)) (f (t + k))) ∙ g)).0

  -- the rows that are open are those of the coalesced events
  pub queues_are_open : (t : ℕ) (rows : List HeldRow) → t ≤ inf → AreQueues f t rows → SameBag rows (opens t (coalesced same_cells f))
  queues_are_open t rows low is = record {
    weigh = λ w.
        let below = rows_below f inf in
        let g : List Datum → ℕ = λ c. total w (held_with c (open_starts same_cells f c t)) in
        let a = by_queues w rows (bare rows) (λ c e. e) in
        let b = total_same (part w rows) g (distinct same_cells (bare rows)) (λ c. ap (λ l. total w (held_with c l)) (is c)) in
        let x = sum_distinct same_cells cells_tell g (bare rows ++ below) (bare rows)
        (λ c none. ap (λ l. total w (held_with c l)) (sym (is c) ∙ no_queue rows c none)) (λ c e. in_first c (bare rows) below e) in
        let y = sum_distinct same_cells cells_tell g (bare rows ++ below) below
        (λ c none. ap (λ l. total w (held_with c l)) (never_open c t (fewer c t (inf - t) ((let e : t + (inf - t) ≡ inf = omega (arith, low) in ap (λ n. list_any (same_cells c) (rows_below f n)) e) ∙ none))))
        (λ c e. in_second c (bare rows) below e) in
        let z = (opens_are same_cells f t low).weigh w ∙ total-flat_map w (λ r. held_with r (open_starts same_cells f r t)) (distinct same_cells below) in
        omega (arith, a, b, x, y, z);
  }

-- ROWS THAT MOVE
module _ (w : HeldRow → ℕ) where
  abbrev of_row : List Datum → List ℕ → ℕ
  of_row c starts = total w (held_with c starts)

  row_append : (c : List Datum) (xs ys : List ℕ) → of_row c (xs ++ ys) ≡ of_row c xs + of_row c ys
  row_append c xs ys = ap (total w) (map-append (λ s. record { cells = c; start = s }) xs ys) ∙ total-append w (held_with c xs) (held_with c ys)

  row_fewer : (c : List Datum) (t m n : ℕ) → m ≤ n → of_row c (replicate m t) ≤ of_row c (replicate n t)
  row_fewer c t zero n low = omega arith
  row_fewer c t (suc m) zero low = absurd (omega (arith, low))
  row_fewer c t (suc m) (suc n) low = let h = row_fewer c t m n (omega (arith, low)) in omega (arith, h)

  row_dropped : (c : List Datum) (n : ℕ) (xs : List ℕ) → of_row c (drop n xs) ≤ of_row c xs
  row_dropped c n xs =
      let a = ap (of_row c) (take-append-drop n xs) in
      let b = row_append c (take n xs) (drop n xs) in
      omega (arith, a, b)

  queue_at : (t : ℕ) (c : List Datum) (rows : List (List Datum)) → queue_of (rows_at t rows) c ≡ replicate (how_often same_cells c rows) t
  queue_at t c [] = refl
  queue_at t c (r ∷ rows) = queue_append (record { cells = r; start = t } ∷ []) (rows_at t rows) c
      ∙ (ap (λ l. l ++ queue_of (rows_at t rows) c) (queue_one (record { cells = r; start = t }) c) ∙ go (same_cells c r) (queue_at t c rows))
    where
      go : (b : Bool) → queue_of (rows_at t rows) c ≡ replicate (how_often same_cells c rows) t →
          cond b (t ∷ []) [] ++ queue_of (rows_at t rows) c ≡ replicate (cond b 1 0 + how_often same_cells c rows) t
      go true h = ap (λ l. t ∷ l) h ∙ (let e : suc (how_often same_cells c rows) ≡ 1 + how_often same_cells c rows = omega arith in ap (λ n. replicate n t) e)
      go false h = h ∙ (let e : how_often same_cells c rows ≡ 0 + how_often same_cells c rows = omega arith in ap (λ n. replicate n t) e)

  pub rows_grow : (t : ℕ) (old new : List HeldRow) (ends : List Datum → ℕ) (won : List (List Datum)) →
      ((c : List Datum) → queue_of new c ≡ queue_after t ends (λ r. how_often same_cells r won) (queue_of old) c) → total w new ≤ total w old + total w (rows_at t won)
  rows_grow t old new ends won h =
      let D = bare new ++ (bare old ++ bare (rows_at t won)) in
      let a = by_queues w new D (λ c e. in_first c (bare new) (bare old ++ bare (rows_at t won)) e) in
      let b = by_queues w old D (λ c e. in_second c (bare new) (bare old ++ bare (rows_at t won)) (in_first c (bare old) (bare (rows_at t won)) e)) in
      let d = by_queues w (rows_at t won) D (λ c e. in_second c (bare new) (bare old ++ bare (rows_at t won)) (in_second c (bare old) (bare (rows_at t won)) e)) in
      let f = total_le (part w new) (λ c. part w old c + part w (rows_at t won) c) (distinct same_cells D) each in
      let g = total-add (part w old) (part w (rows_at t won)) (distinct same_cells D) in
      omega (arith, a, b, d, f, g)
    where
      each : (c : List Datum) → part w new c ≤ part w old c + part w (rows_at t won) c
      each c =
          let s = how_often same_cells c won in
          let a = ap (of_row c) (h c) ∙ row_append c (drop (ends c - s) (queue_of old c)) (replicate (s - ends c) t) in
          let b = row_dropped c (ends c - s) (queue_of old c) in
          let d = row_fewer c t (s - ends c) s (omega arith) in
          let e = ap (of_row c) (queue_at t c won) in
          omega (arith, a, b, d, e)

-- LOADING
pub queue_put : (old new : List ℕ) (b : Bool) (start : ℕ) → new ≡ cond b (old ++ start ∷ []) old → new ≡ old ++ cond b (start ∷ []) []
queue_put old new true start h = h
queue_put old new false start h = h ∙ sym (append-nil old)

pub load_next : (es : List Edge) (i : ℕ) (e : Edge) (old new : List HeldRow) → i < length es → e ≡ get_or es i e →
    ((c : List Datum) → queue_of new c ≡ queue_of old c ++ cond (same_cells e.cells c) (e.sync ∷ []) []) →
    ((c : List Datum) → queue_of old c ≡ queue_of (rows_of (take i es)) c) → (c : List Datum) → queue_of new c ≡ queue_of (rows_of (take (i + 1) es)) c
load_next es i e old new low is put so c =
    let g : Edge → HeldRow = λ x. record { cells = x.cells; start = x.sync } in
    let more = ap rows_of (take_more es i e low ∙ ap (λ x. take i es ++ x ∷ []) (sym is)) ∙ map-append g (take i es) (e ∷ []) in
    put c
    ∙ (ap (λ l. l ++ cond (same_cells e.cells c) (e.sync ∷ []) []) (so c)
    ∙ sym (ap (λ l. queue_of l c) more ∙ (queue_append (rows_of (take i es)) (g e ∷ []) c
    ∙ ap (λ l. queue_of (rows_of (take i es)) c ++ l) (queue_one (g e) c ∙ ap (λ b. cond b (e.sync ∷ []) []) (either_way c e.cells)))))
