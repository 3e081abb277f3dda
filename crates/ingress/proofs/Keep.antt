-- What is kept of all streams, as rows, starts and ends come.
use Rattle.std.specs.Prelude.{◌≡◌, ◌≢◌, ℕ, ◌+◌, ◌<◌, ◌≤◌, ◌⊎◌, nat_eq, nat_lt, Bool, true, false, cond, Option, Some, None, IsTrue, List, [], ◌∷◌, ◌++◌, length, get_or, slice_get, option_map, map, filter, flat_map, drop, refl}
use Rattle.std.proofs.Common.{sym, ◌∙◌, ap, subst, arith, inl, inr}
use Rattle.std.proofs.lemmas.Bool.{eqb-true, cases_lt}
use Rattle.tw_rows.specs.SameCells.{same_itself}
use Rattle.std.proofs.lemmas.Bool.Decides.{nat_tests, Decides-eqb}
use Rattle.std.proofs.lemmas.List.{append-nil}
use Rattle.std.proofs.lemmas.List.Concat.{flat_map-append}
use Rattle.tw_rows.specs.Instant.{inf}
use Rattle.tw_rows.specs.Bag.{total, SameBag}
use Rattle.tw_rows.specs.declared.cells.Datum.{Datum}
use Rattle.tw_rows.specs.declared.edge.Edge.{Edge}
use Rattle.tw_rows.proofs.Bags.{total-append, SameBag-refl}
use Rattle.key_nodes.specs.Joins.{with_life}
use Rattle.edge_history.specs.Order.{is_real, many, starts_it}
use Rattle.edge_history.specs.History.{CellEvent}
use Rattle.edge_history.specs.Balance.{given, taken}
use Rattle.ingress.specs.declared.opens.OpenKey.{OpenKey}
use Rattle.ingress.specs.declared.opens.OpenStart.{OpenStart}
use Rattle.ingress.specs.OpenKeys.{same_key, same_key-Decides, starts_in}
use Rattle.ingress.specs.Held.{IsHeld, start_of, open_row}
use Rattle.ingress.specs.Keeping.{CellOpen, kept_state, kept_of, is_named, first_of, without_first_of, cell_row, ended_row, row_of_open, cell_rows, more_rows, Keeps, Changed, HasEndedRow, HasEnded}
use Rattle.ingress.specs.Changes.{KeepsIn, SameHeld}
use Rattle.ingress.specs.declared.held_streams.HeldStreams.{HeldStreams}
use Rattle.ingress.proofs.Holding.{put_held, out_held, start_held, same_held}

-- an edge whose life is a row, and the end of an open row
whole : (w : CellEvent → ℕ) (cells : List Datum) (start end : ℕ) → start < end →
    (total w (taken (record { sync = start; other = end; cells = cells })) ≡ 0) × (given (record { sync = start; other = end; cells = cells }) ≡ cell_row cells start end)
whole w cells start end less = go (nat_lt end start) refl
  where
    go : (b : Bool) → nat_lt end start ≡ b → (total w (cond b (cell_row cells end inf ∷ []) []) ≡ 0) × (cell_row cells (cond b end start) (cond b start end) ≡ cell_row cells start end)
    go true e = absurd (grind (arith, nat_tests))
    go false e = (refl, refl)

ending : (w : CellEvent → ℕ) (cells : List Datum) (start end : ℕ) → start < end →
    (total w (taken (record { sync = end; other = start; cells = cells })) ≡ w (open_row cells start)) × (given (record { sync = end; other = start; cells = cells }) ≡ cell_row cells start end)
ending w cells start end less = go (nat_lt start end) refl
  where
    go : (b : Bool) → nat_lt start end ≡ b → (total w (cond b (cell_row cells start inf ∷ []) []) ≡ w (open_row cells start)) × (cell_row cells (cond b start end) (cond b end start) ≡ cell_row cells start end)
    go true e = (omega arith, refl)
    go false e = absurd (grind (arith, nat_tests))

pub real_edge : (cells : List Datum) (sync other : ℕ) → sync < inf → other ≤ inf → other ≢ sync → is_real (record { sync = sync; other = other; cells = cells }) ≡ true
real_edge cells sync other a b c = grind (arith, nat_tests)

-- a test of equal numbers, either way
pub same_number : (k : ℕ) → nat_eq k k ≡ true
same_number k = (Decides-eqb k k).1 refl

pub other_number : (k s : ℕ) → k ≢ s → nat_eq k s ≡ false
other_number k s apart = go (nat_eq k s) refl
  where
    go : (b : Bool) → nat_eq k s ≡ b → b ≡ false
    go true e = absurd (apart (eqb-true k s e))
    go false e = refl

-- the weights of the rows of a stream: with more rows made, and with one open start more
more_weigh : (w : CellEvent → ℕ) (s : ℕ) (rows : List CellEvent) (made : ℕ → List CellEvent) (opens : List CellOpen) →
    total w (cell_rows (more_rows s rows made) opens s) ≡ total w (cell_rows made opens s) + total w rows
more_weigh w s rows made opens =
    let o = flat_map (row_of_open s) opens in
    let e = ap (λ b. total w (cond b (made s ++ rows) (made s) ++ o)) (same_number s) in
    let a = total-append w (made s ++ rows) o in
    let b = total-append w (made s) rows in
    let c = total-append w (made s) o in
    omega (arith, e, a, b, c)

more_others : (s k : ℕ) (rows : List CellEvent) (made : ℕ → List CellEvent) (opens : List CellOpen) → k ≢ s →
    cell_rows (more_rows s rows made) opens k ≡ cell_rows made opens k
more_others s k rows made opens apart = ap (λ b. cond b (made k ++ rows) (made k) ++ flat_map (row_of_open k) opens) (other_number k s apart)

open_weigh : (w : CellEvent → ℕ) (k : ℕ) (made : ℕ → List CellEvent) (opens : List CellOpen) (o : CellOpen) →
    total w (cell_rows made (opens ++ o ∷ []) k) ≡ total w (cell_rows made opens k) + total w (row_of_open k o)
open_weigh w k made opens o =
    let e = ap (λ l. total w (made k ++ l)) (flat_map-append (row_of_open k) opens (o ∷ [])) in
    let a = total-append w (made k) (flat_map (row_of_open k) opens ++ flat_map (row_of_open k) (o ∷ [])) in
    let b = total-append w (flat_map (row_of_open k) opens) (flat_map (row_of_open k) (o ∷ [])) in
    let c = total-append w (made k) (flat_map (row_of_open k) opens) in
    let d = total-append w (row_of_open k o) [] in
    omega (arith, e, a, b, c, d)

no_row_elsewhere : (k : ℕ) (o : CellOpen) → k ≢ o.key.stream → row_of_open k o ≡ []
no_row_elsewhere k o apart = ap (λ b. cond b (ended_row inf o) []) (other_number o.key.stream k (λ e. apart (sym e)))

row_there : (o : CellOpen) → row_of_open o.key.stream o ≡ ended_row inf o
row_there o = ap (λ b. cond b (ended_row inf o) []) (same_number o.key.stream)

-- the row of an open start that was not dropped and starts before the time
row_made : (end : ℕ) (o : CellOpen) → o.state.dropped ≡ false → o.state.start < end → ended_row end o ≡ cell_row o.key.cells o.state.start end ∷ []
row_made end o kept less = go o.state.dropped (nat_lt o.state.start end) kept refl
  where
    go : (d b : Bool) → d ≡ false → nat_lt o.state.start end ≡ b →
        cond d [] (cond b (cell_row o.key.cells o.state.start end ∷ []) []) ≡ cell_row o.key.cells o.state.start end ∷ []
    go true b e f = absurd (cc)
    go false true e f = refl
    go false false e f = absurd (grind (arith, nat_tests))

-- no row: dropped, or from the time on
no_row : (end : ℕ) (o : CellOpen) → (o.state.dropped ≡ true) ⊎ (end ≤ o.state.start) → ended_row end o ≡ []
no_row end o (inl dropped) = ap (λ d. cond d [] (with_life o.key.cells o.state.start end)) dropped
no_row end o (inr late) = go o.state.dropped (nat_lt o.state.start end) refl
  where
    go : (d b : Bool) → nat_lt o.state.start end ≡ b → cond d [] (cond b (cell_row o.key.cells o.state.start end ∷ []) []) ≡ []
    go true b f = refl
    go false true f = absurd (grind (arith, nat_tests))
    go false false f = refl

same_bag : {X : Type 0} (xs ys : List X) → xs ≡ ys → SameBag xs ys
same_bag xs ys e = subst (SameBag xs) e (SameBag-refl xs)

-- what was not dropped is kept as it is
pub kept_live : (given : ℕ) (st : OpenStart) → st.dropped ≡ false → kept_state given st ≡ st
kept_live given st live = ap (λ b. record { start = cond b given st.start; dropped = st.dropped }) live

-- an open start that is kept as one that was not dropped is that one
pub live_same : (given : ℕ) (st state : OpenStart) → kept_state given st ≡ state → state.dropped ≡ false → st ≡ state
live_same given st state is live = sym (kept_live given st (ap (λ x. x.dropped) is ∙ live)) ∙ is

-- the queue that a key finds, with one open start more
module _ (f : CellOpen → OpenStart) where
  pub named_more : (k : OpenKey) (o : CellOpen) (xs : List CellOpen) →
      map f (filter (is_named k) (xs ++ o ∷ [])) ≡ map f (filter (is_named k) xs) ++ cond (same_key o.key k) (f o ∷ []) []
  named_more k o [] = go (same_key o.key k)
    where
      go : (b : Bool) → map f (cond b (o ∷ []) []) ≡ cond b (f o ∷ []) []
      go true = refl
      go false = refl
  named_more k o (x ∷ xs) = go (is_named k x) (named_more k o xs)
    where
      go : (b : Bool) → map f (filter (is_named k) (xs ++ o ∷ [])) ≡ map f (filter (is_named k) xs) ++ cond (same_key o.key k) (f o ∷ []) [] →
          map f (cond b (x ∷ filter (is_named k) (xs ++ o ∷ [])) (filter (is_named k) (xs ++ o ∷ [])))
          ≡ map f (cond b (x ∷ filter (is_named k) xs) (filter (is_named k) xs)) ++ cond (same_key o.key k) (f o ∷ []) []
      go true rest = ap (λ l. f x ∷ l) rest
      go false rest = rest

-- the first open start that a key names
open_or : CellOpen → Option CellOpen → CellOpen
open_or d None = d
open_or d (Some o) = o

module _ (key : OpenKey) (o : CellOpen) where
  pub first_key : (xs : List CellOpen) → first_of (is_named key) xs ≡ Some o → o.key ≡ key
  unfolding open_or
  first_key [] e = absurd (cc)
  first_key (x ∷ xs) e = go (same_key x.key key) refl e (first_key xs)
    where
      go : (b : Bool) → same_key x.key key ≡ b → cond b (Some x) (first_of (is_named key) xs) ≡ Some o → (first_of (is_named key) xs ≡ Some o → o.key ≡ key) → o.key ≡ key
      go true f e rest = ap (λ q. q.key) (sym (ap (open_or o) e)) ∙ (same_key-Decides x.key key).0 f
      go false f e rest = rest e

  pub without_weigh : (v : CellEvent → ℕ) (k : ℕ) (xs : List CellOpen) → first_of (is_named key) xs ≡ Some o →
      total v (flat_map (row_of_open k) xs) ≡ total v (row_of_open k o) + total v (flat_map (row_of_open k) (without_first_of (is_named key) xs))
  unfolding open_or
  without_weigh v k [] e = absurd (cc)
  without_weigh v k (x ∷ xs) e = go (same_key x.key key) e (without_weigh v k xs)
    where
      go : (b : Bool) → cond b (Some x) (first_of (is_named key) xs) ≡ Some o →
          (first_of (is_named key) xs ≡ Some o → total v (flat_map (row_of_open k) xs) ≡ total v (row_of_open k o) + total v (flat_map (row_of_open k) (without_first_of (is_named key) xs))) →
          total v (row_of_open k x ++ flat_map (row_of_open k) xs) ≡ total v (row_of_open k o) + total v (flat_map (row_of_open k) (cond b xs (x ∷ without_first_of (is_named key) xs)))
      go true e rest =
          let a = total-append v (row_of_open k x) (flat_map (row_of_open k) xs) in
          let b = ap (λ q. total v (row_of_open k (open_or o q))) e in
          omega (arith, a, b)
      go false e rest =
          let a = total-append v (row_of_open k x) (flat_map (row_of_open k) xs) in
          let b = total-append v (row_of_open k x) (flat_map (row_of_open k) (without_first_of (is_named key) xs)) in
          let c = rest e in
          omega (arith, a, b, c)

  pub without_named : (k : OpenKey) (xs : List CellOpen) → first_of (is_named key) xs ≡ Some o →
      filter (is_named k) (without_first_of (is_named key) xs) ≡ cond (same_key key k) (drop 1 (filter (is_named k) xs)) (filter (is_named k) xs)
  without_named k [] e = absurd (cc)
  without_named k (x ∷ xs) e = go (same_key x.key key) refl e (without_named k xs)
    where
      here : (c : Bool) (f : List CellOpen) → f ≡ cond c (drop 1 (cond c (x ∷ f) f)) (cond c (x ∷ f) f)
      here true f = refl
      here false f = refl

      there : (c d : Bool) (f g : List CellOpen) → (c ≡ true → d ≡ false) → g ≡ cond c (drop 1 f) f → cond d (x ∷ g) g ≡ cond c (drop 1 (cond d (x ∷ f) f)) (cond d (x ∷ f) f)
      there true true f g apart e = absurd (let z = apart refl in cc)
      there true false f g apart e = e
      there false true f g apart e = ap (λ l. x ∷ l) e
      there false false f g apart e = e

      go : (b : Bool) → same_key x.key key ≡ b → cond b (Some x) (first_of (is_named key) xs) ≡ Some o →
          (first_of (is_named key) xs ≡ Some o → filter (is_named k) (without_first_of (is_named key) xs) ≡ cond (same_key key k) (drop 1 (filter (is_named k) xs)) (filter (is_named k) xs)) →
          filter (is_named k) (cond b xs (x ∷ without_first_of (is_named key) xs))
          ≡ cond (same_key key k) (drop 1 (cond (is_named k x) (x ∷ filter (is_named k) xs) (filter (is_named k) xs))) (cond (is_named k x) (x ∷ filter (is_named k) xs) (filter (is_named k) xs))
      go true f e rest =
          here (same_key key k) (filter (is_named k) xs)
          ∙ ap (λ d. cond (same_key key k) (drop 1 (cond d (x ∷ filter (is_named k) xs) (filter (is_named k) xs))) (cond d (x ∷ filter (is_named k) xs) (filter (is_named k) xs)))
          (ap (λ q. same_key q k) (sym ((same_key-Decides x.key key).0 f)))
      go false f e rest =
          there (same_key key k) (same_key x.key k) (filter (is_named k) xs) (filter (is_named k) (without_first_of (is_named key) xs))
          (λ t. ap (same_key x.key) (sym ((same_key-Decides key k).0 t)) ∙ f) (rest e)

module _ (p : ℕ) (w w2 : List (List Edge)) (starts starts2 : OpenKey → List OpenStart) (made made2 : ℕ → List CellEvent) (opens opens2 : List CellOpen)
    (out : ℕ → List Edge) (keeps : Keeps p w starts made opens out) (s : ℕ) (changed : Changed s w w2) where
  -- what holds of the stream that changed, and of the others
  all_held : ((k : ℕ) → k ≢ s → SameBag (cell_rows made2 opens2 k) (cell_rows made opens k)) →
      (s < length w → IsHeld p (out s) (get_or w2 s []) (cell_rows made2 opens2 s)) →
      (k : ℕ) → k < length w2 → IsHeld p (out k) (get_or w2 k []) (cell_rows made2 opens2 k)
  all_held others own k low = go (nat_eq k s) refl
    where
      lower : k < length w
      lower = let l = changed.long in omega (arith, l, low)

      go : (b : Bool) → nat_eq k s ≡ b → IsHeld p (out k) (get_or w2 k []) (cell_rows made2 opens2 k)
      go true e = let is = eqb-true k s e in
          subst (λ n. IsHeld p (out n) (get_or w2 n []) (cell_rows made2 opens2 n)) (sym is) (own (subst (λ n. n < length w) is lower))
      go false e =
          let apart : k ≢ s = λ f. absurd (let t = (Decides-eqb k s).1 f in cc) in
          same_held p (out k) (get_or w k []) (cell_rows made opens k) (keeps.held k lower) (get_or w2 k []) (cell_rows made2 opens2 k)
          (same_bag (get_or w2 k []) (get_or w k []) (changed.others k apart)) (others k apart)

  -- a row with a known end comes
  pub row_comes : (cells : List Datum) (start end : ℕ) → made2 ≡ more_rows s (cell_row cells start end ∷ []) made → opens2 ≡ opens → starts2 ≡ starts →
      start < end → end ≤ inf → p ≤ start →
      SameBag (get_or w2 s []) (record { sync = start; other = end; cells = cells } ∷ get_or w s []) → Keeps p w2 starts2 made2 opens2 out
  row_comes cells start end m o q less low late bag = record {
    held = all_held
        (λ k apart. same_bag (cell_rows made2 opens2 k) (cell_rows made opens k)
        (ap (λ f. cell_rows f opens2 k) m ∙ (ap (λ l. cell_rows (more_rows s (cell_row cells start end ∷ []) made) l k) o ∙ more_others s k (cell_row cells start end ∷ []) made opens apart)))
        (λ there. put_held p (out s) (get_or w s []) (cell_rows made opens s) (keeps.held s there) (get_or w2 s [])
        (record { sync = start; other = end; cells = cells }) (cell_rows made2 opens2 s) bag
        (real_edge cells start end (omega (arith, less, low)) low (λ e. omega (arith, e, less))) late
        (record {
          weigh = λ v.
              let a = ap (λ f. total v (cell_rows f opens2 s)) m ∙ ap (λ l. total v (cell_rows (more_rows s (cell_row cells start end ∷ []) made) l s)) o in
              let b = more_weigh v s (cell_row cells start end ∷ []) made opens in
              let x : Edge = record { sync = start; other = end; cells = cells } in
              let c = total-append v (cell_rows made2 opens2 s) (taken x) in
              let d = total-append v (cell_rows made opens s) (given x ∷ []) in
              let e = (whole v cells start end less).0 in
              let f = ap v (whole v cells start end less).1 in
              omega (arith, a, b, c, d, e, f);
        }));
    queued = λ k. ap (λ f. f k) q ∙ (keeps.queued k ∙ ap (λ l. map kept_of (filter (is_named k) l)) (sym o));
  }

  -- an open start comes, and its edge waits
  module _ (o : CellOpen) (m : made2 ≡ made) (is : opens2 ≡ opens ++ o ∷ []) (own : o.key.stream ≡ s)
      (q : (k : OpenKey) → starts2 k ≡ cond (same_key o.key k) (starts k ++ kept_of o ∷ []) (starts k)) where
    rows_weigh : (v : CellEvent → ℕ) (k : ℕ) → total v (cell_rows made2 opens2 k) ≡ total v (cell_rows made opens k) + total v (row_of_open k o)
    rows_weigh v k = ap (λ f. total v (cell_rows f opens2 k)) m ∙ (ap (λ l. total v (cell_rows made l k)) is ∙ open_weigh v k made opens o)

    others_stay : (k : ℕ) → k ≢ s → SameBag (cell_rows made2 opens2 k) (cell_rows made opens k)
    others_stay k apart = record {
      weigh = λ v.
          let a = rows_weigh v k in
          let b = ap (total v) (no_row_elsewhere k o (λ e. apart (e ∙ own))) in
          omega (arith, a, b);
    }

    named : (k : OpenKey) → starts2 k ≡ map kept_of (filter (is_named k) opens2)
    named k = q k ∙ (go (same_key o.key k) (keeps.queued k) ∙ (sym (named_more kept_of k o opens) ∙ ap (λ l. map kept_of (filter (is_named k) l)) (sym is)))
      where
        go : (b : Bool) → starts k ≡ map kept_of (filter (is_named k) opens) →
            cond b (starts k ++ kept_of o ∷ []) (starts k) ≡ map kept_of (filter (is_named k) opens) ++ cond b (kept_of o ∷ []) []
        go true e = ap (λ l. l ++ kept_of o ∷ []) e
        go false e = e ∙ sym (append-nil (map kept_of (filter (is_named k) opens)))

    row_here : row_of_open s o ≡ ended_row inf o
    row_here = ap (λ n. row_of_open n o) (sym own) ∙ row_there o

    pub start_comes : o.state.dropped ≡ false → o.state.start < inf → p ≤ o.state.start →
        SameBag (get_or w2 s []) (start_of o.key.cells o.state.start ∷ get_or w s []) → Keeps p w2 starts2 made2 opens2 out
    start_comes kept early late bag = record {
      held = all_held others_stay
          (λ there. put_held p (out s) (get_or w s []) (cell_rows made opens s) (keeps.held s there) (get_or w2 s [])
          (start_of o.key.cells o.state.start) (cell_rows made2 opens2 s) bag
          (real_edge o.key.cells o.state.start inf early (omega arith) (λ e. omega (arith, e, early))) late
          (record {
            weigh = λ v.
                let a = rows_weigh v s in
                let b = ap (total v) (row_here ∙ row_made inf o kept early) in
                let x : Edge = start_of o.key.cells o.state.start in
                let c = total-append v (cell_rows made2 opens2 s) (taken x) in
                let d = total-append v (cell_rows made opens s) (given x ∷ []) in
                let e = (whole v o.key.cells o.state.start inf early).0 in
                let f = ap v (whole v o.key.cells o.state.start inf early).1 in
                omega (arith, a, b, c, d, e, f);
          }));
      queued = named;
    }

    -- one that was dropped, or starts at infinity
    pub quiet_start_comes : (o.state.dropped ≡ true) ⊎ (inf ≤ o.state.start) → SameBag (get_or w2 s []) (get_or w s []) → Keeps p w2 starts2 made2 opens2 out
    quiet_start_comes none bag = record {
      held = all_held others_stay
          (λ there. same_held p (out s) (get_or w s []) (cell_rows made opens s) (keeps.held s there) (get_or w2 s []) (cell_rows made2 opens2 s) bag
          (record { weigh = λ v. let a = rows_weigh v s in let b = ap (total v) (row_here ∙ no_row inf o none) in omega (arith, a, b) }));
      queued = named;
    }

  -- the first open start that a key names ends
  module _ (key : OpenKey) (o : CellOpen) (at : ℕ) (found : first_of (is_named key) opens ≡ Some o) (own : key.stream ≡ s)
      (m : made2 ≡ more_rows s (ended_row at o) made) (is : opens2 ≡ without_first_of (is_named key) opens)
      (q : (k : OpenKey) → starts2 k ≡ cond (same_key key k) (drop 1 (starts k)) (starts k)) where
    of_stream : o.key.stream ≡ s
    of_stream = ap (λ k. k.stream) (first_key key o opens found) ∙ own

    ends_weigh : (v : CellEvent → ℕ) → total v (cell_rows made2 opens2 s) + total v (row_of_open s o) ≡ total v (cell_rows made opens s) + total v (ended_row at o)
    ends_weigh v =
        let left = without_first_of (is_named key) opens in
        let a = ap (λ f. total v (cell_rows f opens2 s)) m ∙ ap (λ l. total v (cell_rows (more_rows s (ended_row at o) made) l s)) is in
        let b = more_weigh v s (ended_row at o) made left in
        let c = without_weigh key o v s opens found in
        let d = total-append v (made s) (flat_map (row_of_open s) left) in
        let e = total-append v (made s) (flat_map (row_of_open s) opens) in
        omega (arith, a, b, c, d, e)

    ends_stay : (k : ℕ) → k ≢ s → SameBag (cell_rows made2 opens2 k) (cell_rows made opens k)
    ends_stay k apart = record {
      weigh = λ v.
          let left = without_first_of (is_named key) opens in
          let a = ap (λ f. total v (cell_rows f opens2 k)) m ∙ ap (λ l. total v (cell_rows (more_rows s (ended_row at o) made) l k)) is in
          let b = ap (total v) (more_others s k (ended_row at o) made left apart) in
          let c = without_weigh key o v k opens found in
          let z = ap (total v) (no_row_elsewhere k o (λ e. apart (e ∙ of_stream))) in
          let d = total-append v (made k) (flat_map (row_of_open k) left) in
          let e = total-append v (made k) (flat_map (row_of_open k) opens) in
          omega (arith, a, b, c, d, e, z);
    }

    left_named : (k : OpenKey) → starts2 k ≡ map kept_of (filter (is_named k) opens2)
    left_named k = q k ∙ (go (same_key key k) (keeps.queued k) ∙ (ap (map kept_of) (sym (without_named key o k opens found)) ∙ ap (λ l. map kept_of (filter (is_named k) l)) (sym is)))
      where
        fewer : (f : List CellOpen) → drop 1 (map kept_of f) ≡ map kept_of (drop 1 f)
        fewer [] = refl
        fewer (x ∷ f) = refl

        go : (b : Bool) → starts k ≡ map kept_of (filter (is_named k) opens) →
            cond b (drop 1 (starts k)) (starts k) ≡ map kept_of (cond b (drop 1 (filter (is_named k) opens)) (filter (is_named k) opens))
        go true e = ap (drop 1) e ∙ fewer (filter (is_named k) opens)
        go false e = e

    open_here : row_of_open s o ≡ ended_row inf o
    open_here = ap (λ n. row_of_open n o) (sym of_stream) ∙ row_there o

    -- its end waits
    pub end_comes : o.state.dropped ≡ false → o.state.start < at → at < inf → p ≤ at →
        SameBag (get_or w2 s []) (record { sync = at; other = o.state.start; cells = o.key.cells } ∷ get_or w s []) → Keeps p w2 starts2 made2 opens2 out
    end_comes kept less early late bag = record {
      held = all_held ends_stay
          (λ there. put_held p (out s) (get_or w s []) (cell_rows made opens s) (keeps.held s there) (get_or w2 s [])
          (record { sync = at; other = o.state.start; cells = o.key.cells }) (cell_rows made2 opens2 s) bag
          (real_edge o.key.cells at o.state.start early (omega (arith, less, early)) (λ e. omega (arith, e, less))) late
          (record {
            weigh = λ v.
                let a = ends_weigh v in
                let b = ap (total v) (open_here ∙ row_made inf o kept (omega (arith, less, early))) in
                let b2 = ap (total v) (row_made at o kept less) in
                let x : Edge = record { sync = at; other = o.state.start; cells = o.key.cells } in
                let c = total-append v (cell_rows made2 opens2 s) (taken x) in
                let d = total-append v (cell_rows made opens s) (given x ∷ []) in
                let e = (ending v o.key.cells o.state.start at less).0 in
                let f = ap v (ending v o.key.cells o.state.start at less).1 in
                omega (arith, a, b, b2, c, d, e, f);
          }));
      queued = left_named;
    }

    -- its row was empty, or ends at infinity as it did
    pub quiet_end_comes : ended_row at o ≡ ended_row inf o → SameBag (get_or w2 s []) (get_or w s []) → Keeps p w2 starts2 made2 opens2 out
    quiet_end_comes same bag = record {
      held = all_held ends_stay
          (λ there. same_held p (out s) (get_or w s []) (cell_rows made opens s) (keeps.held s there) (get_or w2 s []) (cell_rows made2 opens2 s) bag
          (record { weigh = λ v. let a = ends_weigh v in let b = ap (total v) open_here in let c = ap (total v) same in omega (arith, a, b, c) }));
      queued = left_named;
    }

    -- its row turns out to be empty, and its start is taken out
    pub empty_end_comes : o.state.dropped ≡ false → o.state.start < inf → at ≤ o.state.start →
        SameBag (start_of o.key.cells o.state.start ∷ get_or w2 s []) (get_or w s []) → Keeps p w2 starts2 made2 opens2 out
    empty_end_comes kept early late bag = record {
      held = all_held ends_stay
          (λ there. out_held p (out s) (get_or w s []) (cell_rows made opens s) (keeps.held s there) (get_or w2 s []) o.key.cells o.state.start (cell_rows made2 opens2 s) early bag
          (record {
            weigh = λ v.
                let a = ends_weigh v in
                let b = ap (total v) (open_here ∙ row_made inf o kept early) in
                let c = ap (total v) (no_row at o (inr late)) in
                omega (arith, a, b, c);
          }));
      queued = left_named;
    }

-- the start edge of an open start that is not below p waits
pub open_start_waits : (p : ℕ) (w : List (List Edge)) (starts : OpenKey → List OpenStart) (made : ℕ → List CellEvent) (opens : List CellOpen) (out : ℕ → List Edge) →
    Keeps p w starts made opens out → (key : OpenKey) (o : CellOpen) → first_of (is_named key) opens ≡ Some o → key.stream < length w →
    o.state.dropped ≡ false → o.state.start < inf → p ≤ o.state.start → many (starts_it key.cells o.state.start) (get_or w key.stream []) ≡ 0 → ⊥
open_start_waits p w starts made opens out keeps key o found there kept early late none =
    let left = without_first_of (is_named key) opens in
    let same = first_key key o opens found in
    let here : row_of_open key.stream o ≡ open_row o.key.cells o.state.start ∷ [] =
    ap (λ n. row_of_open n o) (sym (ap (λ k. k.stream) same)) ∙ (row_there o ∙ row_made inf o kept early) in
    start_held p (out key.stream) (get_or w key.stream []) o.key.cells o.state.start (cell_rows made opens key.stream) (made key.stream ++ flat_map (row_of_open key.stream) left)
    late (keeps.held key.stream there)
    (record {
      weigh = λ v.
          let a = without_weigh key o v key.stream opens found in
          let b = ap (total v) here in
          let d = total-append v (made key.stream) (flat_map (row_of_open key.stream) left) in
          let e = total-append v (made key.stream) (flat_map (row_of_open key.stream) opens) in
          omega (arith, a, b, d, e);
    })
    (ap (λ c. many (starts_it c o.state.start) (get_or w key.stream [])) (ap (λ k. k.cells) same) ∙ none)

-- a life that is not empty
pub alive_life : (cells : List Datum) (start end : ℕ) → start < end → with_life cells start end ≡ cell_row cells start end ∷ []
alive_life cells start end less = go (nat_lt start end) refl
  where
    go : (b : Bool) → nat_lt start end ≡ b → cond b (cell_row cells start end ∷ []) [] ≡ cell_row cells start end ∷ []
    go true e = refl
    go false e = absurd (grind (arith, nat_tests))

-- what is first in the queue of a key
head_named : (key : OpenKey) (xs : List CellOpen) → slice_get (map kept_of (filter (is_named key) xs)) 0 ≡ option_map kept_of (first_of (is_named key) xs)
head_named key [] = refl
head_named key (x ∷ xs) = go (is_named key x) (head_named key xs)
  where
    go : (b : Bool) → slice_get (map kept_of (filter (is_named key) xs)) 0 ≡ option_map kept_of (first_of (is_named key) xs) →
        slice_get (map kept_of (cond b (x ∷ filter (is_named key) xs) (filter (is_named key) xs))) 0 ≡ option_map kept_of (cond b (Some x) (first_of (is_named key) xs))
    go true rest = refl
    go false rest = rest

-- what is held is the same where the edges of one stream are the same bag, and all others stay
pub same_if_changed : (old new : HeldStreams) (s : ℕ) → Changed s old.waiting.items new.waiting.items → SameBag (get_or new.waiting.items s []) (get_or old.waiting.items s []) →
    ((k : OpenKey) → starts_in new.opens.starts k ≡ starts_in old.opens.starts k) → SameHeld old new
same_if_changed old new s changed bag same = record { edges = λ k. go k (nat_eq k s) refl; starts = same }
  where
    go : (k : ℕ) (b : Bool) → nat_eq k s ≡ b → SameBag (get_or new.waiting.items k []) (get_or old.waiting.items k [])
    go k true e = subst (λ n. SameBag (get_or new.waiting.items n []) (get_or old.waiting.items n [])) (sym (eqb-true k s e)) bag
    go k false e = same_bag _ _ (changed.others k (λ is. let t = (Decides-eqb k s).1 is in absurd (cc)))

pub unchanged : (old new : HeldStreams) (s : ℕ) → Changed s old.waiting.items new.waiting.items → get_or new.waiting.items s [] ≡ get_or old.waiting.items s [] → new.opens ≡ old.opens → SameHeld old new
unchanged old new s changed is opens = same_if_changed old new s changed (same_bag _ _ is) (λ k. ap (λ o. starts_in o.starts k) opens)

pub held_itself : (h : HeldStreams) → SameHeld h h
held_itself h = record { edges = λ s. SameBag-refl (get_or h.waiting.items s []); starts = λ k. refl }

-- so whatever was kept is kept
pub still_kept : (old new : HeldStreams) → length new.waiting.items ≡ length old.waiting.items → SameHeld old new →
    (p : ℕ) (made : ℕ → List CellEvent) (opens : List CellOpen) (out : ℕ → List Edge) → KeepsIn p old made opens out → KeepsIn p new made opens out
still_kept old new long h p made opens out keeps = record {
  held = λ s there. same_held p (out s) (get_or old.waiting.items s []) (cell_rows made opens s) (keeps.held s (omega (arith, there, long)))
      (get_or new.waiting.items s []) (cell_rows made opens s) (h.edges s) (SameBag-refl (cell_rows made opens s));
  queued = λ k. h.starts k ∙ keeps.queued k;
}

pub changed_again : (s : ℕ) (w w2 w3 : List (List Edge)) → Changed s w w2 → Changed s w2 w3 → Changed s w w3
changed_again s w w2 w3 a b = record { long = b.long ∙ a.long; others = λ k apart. b.others k apart ∙ a.others k apart }

-- a start edge that was put is found, and taken out again
pub put_back : (cells : List Datum) (start : ℕ) (before now after : List Edge) (taken : Bool) → start < inf → SameBag now (start_of cells start ∷ before) →
    (IsTrue taken → SameBag (start_of cells start ∷ after) now) → (taken ≡ false → many (starts_it cells start) now ≡ 0) → SameBag after before
put_back cells start before now after true early put out none = record { weigh = λ v. let a = put.weigh v in let b = (out refl).weigh v in omega (arith, a, b) }
put_back cells start before now after false early put out none = absurd (
    let a = put.weigh (λ e. cond (starts_it cells start e) 1 0) in
    let z = none refl in
    let s = same_itself cells in
    let i : cond {A = ℕ} (starts_it cells start (start_of cells start)) 1 0 ≡ 1 = grind (arith, nat_tests) in
    omega (arith, a, z, i))

state_or : OpenStart → Option OpenStart → OpenStart
state_or d None = d
state_or d (Some x) = x

module _ (key : OpenKey) (at p : ℕ) (w w2 : List (List Edge)) (starts starts2 : OpenKey → List OpenStart) (made : ℕ → List CellEvent) (opens : List CellOpen)
    (out : ℕ → List Edge) (keeps : Keeps p w starts made opens out) where
  head_is : slice_get (starts key) 0 ≡ option_map kept_of (first_of (is_named key) opens)
  head_is = ap (λ l. slice_get l 0) (keeps.queued key) ∙ head_named key opens

  pub none_ended : None ≡ slice_get (starts key) 0 → HasEnded key at p w starts made opens out None (first_of (is_named key) opens)
  none_ended none = go (first_of (is_named key) opens) (none ∙ head_is)
    where
      go : (x : Option CellOpen) → None ≡ option_map kept_of x → HasEnded key at p w starts made opens out None x
      go None e = (refl, keeps)
      go (Some o) e = absurd (cc)

  module _ (there : key.stream < length w) (changed : Changed key.stream w w2) (high : at ≤ inf) (late : p ≤ at)
      (q : (k : OpenKey) → starts2 k ≡ cond (same_key key k) (drop 1 (starts k)) (starts k)) where
    one_ended : (o : CellOpen) → first_of (is_named key) opens ≡ Some o → HasEndedRow key at (get_or w key.stream []) (get_or w2 key.stream []) (kept_of o) →
        Keeps p w2 starts2 (more_rows key.stream (ended_row at o) made) (without_first_of (is_named key) opens) out
    one_ended o found kept_row = go o.state.dropped refl (cases_lt o.state.start at) (cases_lt o.state.start inf) (cases_lt at inf)
      where
        same : o.key ≡ key
        same = first_key key o opens found

        live_row : o.state.dropped ≡ false → HasEndedRow key at (get_or w key.stream []) (get_or w2 key.stream []) o.state
        live_row d = subst (HasEndedRow key at (get_or w key.stream []) (get_or w2 key.stream [])) (kept_live o.key.given o.state d) kept_row

        quiet : ended_row at o ≡ ended_row inf o → get_or w2 key.stream [] ≡ get_or w key.stream [] → Keeps p w2 starts2 (more_rows key.stream (ended_row at o) made) (without_first_of (is_named key) opens) out
        quiet e is = quiet_end_comes p w w2 starts starts2 made (more_rows key.stream (ended_row at o) made) opens (without_first_of (is_named key) opens) out keeps key.stream changed
            key o at found refl refl refl q e (same_bag (get_or w2 key.stream []) (get_or w key.stream []) is)

        go : (d : Bool) → o.state.dropped ≡ d → (o.state.start < at) ⊎ (at ≤ o.state.start) → (o.state.start < inf) ⊎ (inf ≤ o.state.start) → (at < inf) ⊎ (inf ≤ at) →
            Keeps p w2 starts2 (more_rows key.stream (ended_row at o) made) (without_first_of (is_named key) opens) out
        go true d a b c = quiet (no_row at o (inl d) ∙ sym (no_row inf o (inl d))) (kept_row.dropped d)
        go false d (inl less) b (inl early) =
            end_comes p w w2 starts starts2 made (more_rows key.stream (ended_row at o) made) opens (without_first_of (is_named key) opens) out keeps key.stream changed
            key o at found refl refl refl q d less early late
            (subst (λ (k : OpenKey). SameBag (get_or w2 key.stream []) (record { sync = at; other = o.state.start; cells = k.cells } ∷ get_or w key.stream [])) (sym same) ((live_row d).ends d less early))
        go false d (inl less) b (inr over) = let is : at ≡ inf = omega (arith, high, over) in quiet (ap (λ n. ended_row n o) is) ((live_row d).stays less over)
        go false d (inr more) (inl early) c =
            empty_end_comes p w w2 starts starts2 made (more_rows key.stream (ended_row at o) made) opens (without_first_of (is_named key) opens) out keeps key.stream changed
            key o at found refl refl refl q d early more
            (subst (λ (k : OpenKey). SameBag (start_of k.cells o.state.start ∷ get_or w2 key.stream []) (get_or w key.stream [])) (sym same)
            ((live_row d).empty d early more (open_start_waits p w starts made opens out keeps key o found there d early (omega (arith, late, more)))))
        go false d (inr more) (inr endless) c = quiet (no_row at o (inr more) ∙ sym (no_row inf o (inr endless))) ((live_row d).endless endless)

    pub some_ended : (st : OpenStart) → Some st ≡ slice_get (starts key) 0 → HasEndedRow key at (get_or w key.stream []) (get_or w2 key.stream []) st →
        HasEnded key at p w2 starts2 made opens out (Some st) (first_of (is_named key) opens)
    unfolding state_or
    some_ended st first row = go (first_of (is_named key) opens) refl (first ∙ head_is)
      where
        go : (x : Option CellOpen) → first_of (is_named key) opens ≡ x → Some st ≡ option_map kept_of x → HasEnded key at p w2 starts2 made opens out (Some st) x
        go None f e = absurd (cc)
        go (Some o) f e = (e, one_ended o f (subst (HasEndedRow key at (get_or w key.stream []) (get_or w2 key.stream [])) (ap (state_or st) e) row))
