-- Rows that start and rows that end at an instant, one after the other.
use Rattle.std.specs.Prelude.{◌≡◌, ℕ, suc, ◌+◌, ◌*◌, ◌<◌, ◌≤◌, ◌||◌, nat_lt, not, Bool, true, false, cond, List, [], ◌∷◌, ◌++◌, map, flat_map, refl}
use Rattle.std.specs.List.{list_any}
use Rattle.std.proofs.Common.{sym, ◌∙◌, ap, arith}
use Rattle.std.proofs.lemmas.Bool.Decides.{nat_tests}
use Rattle.std.proofs.lemmas.List.{append_assoc}
use Rattle.tw_rows.specs.Bag.{total}
use Rattle.tw_rows.specs.Instant.{inf}
use Rattle.tw_rows.specs.SameCells.{same_cells}
use Rattle.tw_rows.specs.declared.cells.Datum.{Datum}
use Rattle.tw_rows.specs.declared.edge.Edge.{Edge}
use Rattle.tw_rows.specs.declared.edge.HeldRow.{HeldRow}
use Rattle.tw_rows.proofs.Bags.{total-append}
use Rattle.edge_history.specs.Order.{failing, is_end, is_from, rank, Rises}
use Rattle.edge_history.specs.Opens.{is_start, singles, singles_of, ended_of, started_of}
use Rattle.end_queue.specs.Pending.{Pending}
use Rattle.sweep_laws.specs.Grouping.{keys_of}
use Rattle.sweep_laws.specs.Sweeps.{is_at}
use Rattle.sweep_sides.specs.Waiting.{queued}
use Rattle.snapshot_agg.specs.KeptRows.{RowsAndEnds, IsEnded, row_ended}
use Rattle.snapshot_agg.specs.Living.{AreEnded, AreBegun, TouchesAll, to_come, bare_start}
use Rattle.snapshot_agg.proofs.Answering.{passes}

-- LISTS
pub flat_both : {X Y : Type 0} (w : Y → ℕ) (f : X → List Y) (xs ys : List X) → total w (flat_map f (xs ++ ys)) ≡ total w (flat_map f xs) + total w (flat_map f ys)
flat_both w f [] ys = omega arith
flat_both w f (x ∷ xs) ys =
    let h = flat_both w f xs ys in
    let a = total-append w (f x) (flat_map f (xs ++ ys)) in
    let b = total-append w (f x) (flat_map f xs) in
    omega (arith, h, a, b)

any_both : {X Y : Type 0} (p : Y → Bool) (f : X → Y) (xs ys : List X) → list_any p (map f (xs ++ ys)) ≡ (list_any p (map f xs) || list_any p (map f ys))
any_both p f [] ys = refl
any_both p f (x ∷ xs) ys = pick (p (f x)) (any_both p f xs ys)
  where
    pick : (b : Bool) → list_any p (map f (xs ++ ys)) ≡ (list_any p (map f xs) || list_any p (map f ys)) →
        (b || list_any p (map f (xs ++ ys))) ≡ ((b || list_any p (map f xs)) || list_any p (map f ys))
    pick true h = refl
    pick false h = h

or_later : (a b c : Bool) → ((a || b) || c) ≡ (a || (b || c))
or_later true b c = refl
or_later false b c = refl

or_none : (a : Bool) → (a || false) ≡ a
or_none true = refl
or_none false = refl

-- the keys of one edge more are touched
pub touches_none : (key : List Datum → List Datum) (touched : List (List Datum)) → TouchesAll touched touched (keys_of key [])
touches_none key touched q = sym (or_none (list_any (same_cells q) touched))

pub touches_more : (key : List Datum → List Datum) (t0 t1 t2 : List (List Datum)) (es : List Edge) (e : Edge) (k : List Datum) → k ≡ key e.cells →
    TouchesAll t0 t1 (keys_of key es) → ((q : List Datum) → list_any (same_cells q) t2 ≡ (list_any (same_cells q) t1 || same_cells q k)) → TouchesAll t0 t2 (keys_of key (es ++ e ∷ []))
touches_more key t0 t1 t2 es e k is h step q =
    let a = list_any (same_cells q) t0 in
    let b = list_any (same_cells q) (keys_of key es) in
    step q ∙ ap (λ x. x || same_cells q k) (h q) ∙ or_later a b (same_cells q k) ∙ ap (λ l. a || (b || same_cells q l)) is
    ∙ ap (λ x. a || (b || x)) (sym (or_none (same_cells q (key e.cells)))) ∙ ap (λ x. a || x) (sym (any_both (same_cells q) (λ (x : Edge). key x.cells) es (e ∷ [])))

pub touches_both : (key : List Datum → List Datum) (t0 t1 t2 : List (List Datum)) (xs ys : List Edge) → TouchesAll t0 t1 (keys_of key xs) → TouchesAll t1 t2 (keys_of key ys) → (q : List Datum) →
    t0 ≡ [] → list_any (same_cells q) t2 ≡ list_any (same_cells q) (keys_of key (ys ++ xs))
touches_both key t0 t1 t2 xs ys h k q none =
    let a = list_any (same_cells q) (keys_of key xs) in
    let b = list_any (same_cells q) (keys_of key ys) in
    k q ∙ ap (λ x. x || b) (h q ∙ ap (λ l. list_any (same_cells q) l || a) none) ∙ swap a b ∙ sym (any_both (same_cells q) (λ (x : Edge). key x.cells) ys xs)
  where
    swap : (a b : Bool) → (a || b) ≡ (b || a)
    swap true true = refl
    swap true false = refl
    swap false true = refl
    swap false false = refl

-- ENDS
one_ended : (w : HeldRow → ℕ) (e : Edge) → is_end e ≡ true → total w (ended_of e) ≡ w (row_ended e)
one_ended w e h = let a = ap (λ b. total w (cond b (record { cells = e.cells; start = e.other } ∷ []) [])) h in omega (arith, a)

at_test : (t : ℕ) (e : Edge) → e.sync ≡ t → is_at t e ≡ true
at_test t e h = grind (arith, nat_tests)

pub ended_none : (t : ℕ) (rows : RowsAndEnds) → AreEnded [] t rows rows
ended_none t rows = record { first = refl; at = refl; ends = refl; rows = λ w. omega arith }

pub ended_more : (gone : List Edge) (e : Edge) (t : ℕ) (r0 r1 r2 : RowsAndEnds) → AreEnded gone t r0 r1 → IsEnded e t r1 r2 → AreEnded (gone ++ e ∷ []) t r0 r2
ended_more gone e t r0 r1 r2 h k = record {
  first = h.first ∙ ap (λ l. gone ++ l) k.first ∙ sym (append_assoc gone (e ∷ []) r2.ends);
  at =
      let a = total-append (λ x. cond {A = ℕ} (is_at t x) 0 1) gone (e ∷ []) in
      let z = passes (is_at t e) (at_test t e k.at) in
      let g = h.at in
      omega (arith, a, z, g);
  ends =
      let a = total-append (λ x. cond {A = ℕ} (is_end x) 0 1) gone (e ∷ []) in
      let z = passes (is_end e) k.ends in
      let g = h.ends in
      omega (arith, a, z, g);
  rows = λ w.
      let a = flat_both w ended_of gone (e ∷ []) in
      let b = total-append w (ended_of e) [] in
      let o = one_ended w e k.ends in
      let g = h.rows w in
      let l = k.row w in
      omega (arith, a, b, o, g, l);
}

pub ended_late : (gone : List Edge) (t : ℕ) (r0 r1 : RowsAndEnds) → AreEnded gone t r0 r1 → failing (is_from t) r0.ends ≡ 0 → failing (is_from t) r1.ends ≡ 0
ended_late gone t r0 r1 h late =
    let a = ap (failing (is_from t)) h.first in
    let b = total-append (λ x. cond {A = ℕ} (is_from t x) 0 1) gone r1.ends in
    omega (arith, a, b, late)

-- STARTS
pub first_starts : (t : ℕ) (e : Edge) (rest : List Edge) → e.sync ≡ t → Rises (suc (2 * t)) (e ∷ rest) → is_end e ≡ false
first_starts t e rest at up = pick (is_end e) refl up.0
  where
    pick : (b : Bool) → is_end e ≡ b → suc (2 * t) ≤ rank e → is_end e ≡ false
    pick false h low = h
    pick true h low = let z = ap (λ b. cond {A = ℕ} b 0 1) h in absurd (omega (arith, at, z, low))

pub rises_behind : (r : ℕ) (e : Edge) (rest : List Edge) → Rises r (e ∷ rest) → Rises r rest
rises_behind r e [] up = tt
rises_behind r e (x ∷ rest) up = (let a = up.0 in let b = up.1.0 in omega (arith, a, b), up.1.1)

late_start : (s : ℕ) → s < inf → not (nat_lt inf s) ≡ true
late_start s h = grind (arith, nat_tests)

none_ends : (s : ℕ) → s < inf → nat_lt inf s ≡ false
none_ends s h = grind (arith, nat_tests)

one_started : (w : HeldRow → ℕ) (e : Edge) → e.sync < inf → total w (started_of (bare_start e)) ≡ w (record { cells = e.cells; start = e.sync })
one_started w e h = let a = ap (λ b. total w (cond b [] (record { cells = e.cells; start = e.sync } ∷ []))) (none_ends e.sync h) in omega (arith, a)

pub come_total : (w : Edge → ℕ) (ends : List Edge) (waiting : List Pending) (edges : List Edge) → total w (to_come ends waiting edges) ≡ (total w ends + total w (queued waiting)) + total w (singles edges)
come_total w ends waiting edges =
    let a = total-append w ends (queued waiting ++ singles edges) in
    let b = total-append w (queued waiting) (singles edges) in
    omega (arith, a, b)

pub begun_none : (t : ℕ) (rows : List HeldRow) (before : List Edge) → AreBegun [] t rows rows before before
begun_none t rows before = record { at = refl; starts = refl; rows = λ w. omega arith; parts = λ w. omega arith }

pub begun_more : (begun : List Edge) (e : Edge) (t : ℕ) (h0 h1 h2 : List HeldRow) (before ends1 ends2 : List Edge) (w1 w2 : List Pending) (edges rest : List Edge) →
    AreBegun begun t h0 h1 before (to_come ends1 w1 edges) → edges ≡ e ∷ rest → e.sync ≡ t → e.sync < inf →
    ((w : HeldRow → ℕ) → total w h2 ≡ total w h1 + w (record { cells = e.cells; start = e.sync })) →
    ((w : Edge → ℕ) → (total w ends2 + total w (queued w2)) + w (bare_start e) ≡ (total w ends1 + total w (queued w1)) + total w (singles_of e)) →
    AreBegun (begun ++ bare_start e ∷ []) t h0 h2 before (to_come ends2 w2 rest)
begun_more begun e t h0 h1 h2 before ends1 ends2 w1 w2 edges rest h first at early rows parts = record {
  at =
      let a = total-append (λ x. cond {A = ℕ} (is_at t x) 0 1) begun (bare_start e ∷ []) in
      let z = passes (is_at t (bare_start e)) (at_test t (bare_start e) at) in
      let g = h.at in
      omega (arith, a, z, g);
  starts =
      let a = total-append (λ x. cond {A = ℕ} (is_start x) 0 1) begun (bare_start e ∷ []) in
      let z = passes (is_start (bare_start e)) (late_start e.sync early) in
      let g = h.starts in
      omega (arith, a, z, g);
  rows = λ w.
      let a = flat_both w started_of begun (bare_start e ∷ []) in
      let b = total-append w (started_of (bare_start e)) [] in
      let o = one_started w e early in
      let g = h.rows w in
      let l = rows w in
      omega (arith, a, b, o, g, l);
  parts = λ w.
      let a = total-append w begun (bare_start e ∷ []) in
      let b = come_total w ends1 w1 edges in
      let d = come_total w ends2 w2 rest in
      let f = ap (λ l. total w (singles l)) first in
      let i = total-append w (singles_of e) (singles rest) in
      let g = h.parts w in
      let l = parts w in
      omega (arith, a, b, d, f, i, g, l);
}
