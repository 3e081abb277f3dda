-- The edges of rows, as a batch is read, copied and kept.
use Rattle.std.proofs.Common.{◌≡◌, ◌<◌, ℕ, zero, suc, ◌+◌, ◌&&◌, Bool, true, false, List, [], ◌∷◌, ◌++◌, cond, map, length, get_or, take, drop, refl, ap, sym, ◌∙◌, arith, add-one}
use Rattle.std.specs.Prelude.{filter, slice_get, Some}
use Rattle.std.specs.List.{list_all}
use Rattle.std.proofs.lemmas.List.{get_or-map, map-append, take_more}
use Rattle.std.proofs.lemmas.List.Elements.{filter-append}
use Rattle.std.proofs.lemmas.Option.{get_or_from_slice_get}
use Rattle.tw_rows.specs.declared.edge.Edge.{Edge}
use Rattle.batch.specs.Rows.{Row, edge_of, edges_of, occupied_rows, row_of, kept}
use Rattle.batch.proofs.Keeping.{no_row}
use Rattle.edge_stream.proofs.Parts.{filter_twice}

-- ---- row after row

module _ (p : Edge → Bool) where
  all_row : (rows : List Row) (i : ℕ) (d : Row) → i < length rows →
      list_all p (edges_of (drop i rows)) ≡ cond (get_or rows i d).occupied (p (edge_of (get_or rows i d)) && list_all p (edges_of (drop (suc i) rows))) (list_all p (edges_of (drop (suc i) rows)))
  all_row [] i d lt = absurd (omega arith)
  all_row (r ∷ rs) zero d lt = pick r.occupied
    where
      pick : (b : Bool) → list_all p (map edge_of (cond b (r ∷ occupied_rows rs) (occupied_rows rs))) ≡ cond b (p (edge_of r) && list_all p (edges_of rs)) (list_all p (edges_of rs))
      pick true = refl
      pick false = refl
  all_row (r ∷ rs) (suc i) d lt = all_row rs i d (omega arith)

  module _ (rows : List Row) (i : ℕ) (lt : i < length rows) where
    -- a row that is not occupied, or whose edge passes
    pub all-clear : (get_or rows i no_row).occupied ≡ false → list_all p (edges_of (drop i rows)) ≡ list_all p (edges_of (drop (i + 1) rows))
    all-clear clear = rw add-one (all_row rows i no_row lt ∙ ap (λ b. cond b (p (edge_of (get_or rows i no_row)) && list_all p (edges_of (drop (suc i) rows))) (list_all p (edges_of (drop (suc i) rows)))) clear)

    pub all-passes : p (edge_of (get_or rows i no_row)) ≡ true → list_all p (edges_of (drop i rows)) ≡ list_all p (edges_of (drop (i + 1) rows))
    all-passes passes = rw add-one (all_row rows i no_row lt ∙ pick (get_or rows i no_row).occupied)
      where
        pick : (b : Bool) → cond b (p (edge_of (get_or rows i no_row)) && list_all p (edges_of (drop (suc i) rows))) (list_all p (edges_of (drop (suc i) rows))) ≡ list_all p (edges_of (drop (suc i) rows))
        pick true = rw passes refl
        pick false = refl

    -- an occupied row whose edge fails
    pub all-fails : (get_or rows i no_row).occupied ≡ true → p (edge_of (get_or rows i no_row)) ≡ false → list_all p (edges_of (drop i rows)) ≡ false
    all-fails set fails =
        all_row rows i no_row lt
        ∙ ap (λ b. cond b (p (edge_of (get_or rows i no_row)) && list_all p (edges_of (drop (suc i) rows))) (list_all p (edges_of (drop (suc i) rows)))) set
        ∙ ap (λ b. b && list_all p (edges_of (drop (suc i) rows))) fails

-- what is read of a row
pub sync_is : (rows : List Row) (i s : ℕ) → i < length rows → slice_get (map (λ r. r.sync) rows) i ≡ Some s → (get_or rows i no_row).sync ≡ s
sync_is rows i s lt read = sym (get_or-map (λ r. r.sync) rows i no_row 0 lt) ∙ get_or_from_slice_get (map (λ r. r.sync) rows) i s 0 read

pub other_is : (rows : List Row) (i o : ℕ) → i < length rows → slice_get (map (λ r. r.other) rows) i ≡ Some o → (get_or rows i no_row).other ≡ o
other_is rows i o lt read = sym (get_or-map (λ r. r.other) rows i no_row 0 lt) ∙ get_or_from_slice_get (map (λ r. r.other) rows) i o 0 read

pub bit_is : (rows : List Row) (i : ℕ) → i < length rows → get_or (map (λ r. r.occupied) rows) i false ≡ (get_or rows i no_row).occupied
bit_is rows i lt = get_or-map (λ r. r.occupied) rows i no_row false lt

-- ---- all rows at once

pub edges-kept : (p : Edge → Bool) (rows : List Row) → edges_of (kept rows (map (λ r. p (edge_of r)) rows)) ≡ filter p (edges_of rows)
edges-kept p [] = refl
edges-kept p (r ∷ rs) = pick r.occupied (p (edge_of r)) refl (edges-kept p rs)
  where
    pick : (b v : Bool) → p (edge_of r) ≡ v → edges_of (kept rs (map (λ q. p (edge_of q)) rs)) ≡ filter p (edges_of rs) →
        map edge_of (cond (b && v) (record r { occupied = b && v } ∷ occupied_rows (kept rs (map (λ q. p (edge_of q)) rs))) (occupied_rows (kept rs (map (λ q. p (edge_of q)) rs))))
        ≡ filter p (map edge_of (cond b (r ∷ occupied_rows rs) (occupied_rows rs)))
    pick true true is rest = rw is (ap (λ l. edge_of r ∷ l) rest)
    pick true false is rest = rw is rest
    pick false v is rest = rest

pub edges-occupied : (rows : List Row) → edges_of (occupied_rows rows) ≡ edges_of rows
edges-occupied rows = ap (map edge_of) (filter_twice (λ r. r.occupied) rows)

pub edges-push_row : (rows : List Row) (r : Row) → r.occupied ≡ true → edges_of (rows ++ r ∷ []) ≡ edges_of rows ++ edge_of r ∷ []
edges-push_row rows r set =
    ap (map edge_of) (filter-append (λ q. q.occupied) rows (r ∷ [])) ∙ map-append edge_of (occupied_rows rows) (occupied_rows (r ∷ []))
    ∙ ap (λ b. edges_of rows ++ map edge_of (cond b (r ∷ []) [])) set

pub edges-push : (rows : List Row) (e : Edge) → edges_of (rows ++ row_of e ∷ []) ≡ edges_of rows ++ e ∷ []
edges-push rows e = ap (map edge_of) (filter-append (λ r. r.occupied) rows (row_of e ∷ [])) ∙ map-append edge_of (occupied_rows rows) (row_of e ∷ [])

-- the bits so far, and one more
pub bits_next : (p : Edge → Bool) (rows : List Row) (i : ℕ) (bits : List Bool) (b : Bool) → i < length rows → bits ≡ map (λ r. p (edge_of r)) (take i rows) → b ≡ p (edge_of (get_or rows i no_row)) →
    bits ++ b ∷ [] ≡ map (λ r. p (edge_of r)) (take (i + 1) rows)
bits_next p rows i bits b lt so_far is =
    (λ j. so_far j ++ is j ∷ []) ∙ sym (map-append (λ r. p (edge_of r)) (take i rows) (get_or rows i no_row ∷ [])) ∙ ap (map (λ r. p (edge_of r))) (sym (take_more rows i no_row lt))
