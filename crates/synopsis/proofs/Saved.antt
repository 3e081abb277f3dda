-- Open starts as entries.
use Rattle.std.specs.Prelude.{◌≡◌, ℕ, ◌+◌, ◌<◌, List, [], ◌∷◌, ◌++◌, map, take, length, get_or}
use Rattle.std.proofs.Common.{sym, ◌∙◌, ap}
use Rattle.std.proofs.lemmas.List.{append_assoc, map-append, take_more}
use Rattle.tw_rows.specs.Instant.{inf}
use Rattle.tw_rows.specs.declared.cells.Datum.{Datum}
use Rattle.tw_rows.specs.declared.edge.Edge.{Edge}
use Rattle.tw_rows.specs.declared.edge.HeldRow.{HeldRow}
use Rattle.edge_stream.specs.declared.saved.SavedEntry.{SavedEntry}
use Rattle.edge_stream.specs.Entries.{entry_of, entries_of}
use Rattle.sweep_laws.specs.Queues.{held_with}
use Rattle.sweep_laws.specs.Saving.{starts_of}
use Rattle.synopsis.specs.declared.few_rows.MarkedRow.{MarkedRow}
use Rattle.synopsis.specs.Marked.{held_rows}

pub saved_append : (part : ℕ) (xs ys : List HeldRow) → entries_of part (starts_of (xs ++ ys)) ≡ entries_of part (starts_of xs) ++ entries_of part (starts_of ys)
saved_append part xs ys =
    let f : HeldRow → Edge = λ r. record { sync = r.start; other = inf; cells = r.cells } in
    ap (map (entry_of part)) (map-append f xs ys) ∙ map-append (entry_of part) (map f xs) (map f ys)

-- one more start of a row
pub start_saved : (part : ℕ) (cells copy : List Datum) (since : List ℕ) (i s sync other : ℕ) (saved0 saved1 saved2 : List SavedEntry) → i < length since → sync ≡ get_or since i s → other ≡ inf → copy ≡ cells →
    saved1 ≡ saved0 ++ entries_of part (starts_of (held_with cells (take i since))) →
    saved2 ≡ saved1 ++ record { part = part; sync = sync; other = other; cells = copy } ∷ [] →
    saved2 ≡ saved0 ++ entries_of part (starts_of (held_with cells (take (i + 1) since)))
start_saved part cells copy since i s sync other saved0 saved1 saved2 low at no_end same so more =
    let g : ℕ → HeldRow = λ x. record { cells = cells; start = x } in
    let here = held_with cells (take i since) in
    more
    ∙ (ap (λ l. l ++ record { part = part; sync = sync; other = other; cells = copy } ∷ []) so
    ∙ (append_assoc saved0 (entries_of part (starts_of here)) (record { part = part; sync = sync; other = other; cells = copy } ∷ [])
    ∙ ap (λ l. saved0 ++ l)
    ((λ j. entries_of part (starts_of here) ++ record { part = part; sync = at j; other = no_end j; cells = same j } ∷ [])
    ∙ sym (ap (λ l. entries_of part (starts_of (held_with cells l))) (take_more since i s low)
    ∙ (ap (λ l. entries_of part (starts_of l)) (map-append g (take i since) (get_or since i s ∷ [])) ∙ saved_append part here (g (get_or since i s) ∷ []))))))

-- one more row
pub row_saved : (part : ℕ) (rows : List MarkedRow) (i : ℕ) (x d : MarkedRow) (saved0 saved1 saved2 : List SavedEntry) → i < length rows → x ≡ get_or rows i d →
    saved1 ≡ saved0 ++ entries_of part (starts_of (held_rows (take i rows))) →
    saved2 ≡ saved1 ++ entries_of part (starts_of (record { cells = x.cells; start = x.start } ∷ [])) →
    saved2 ≡ saved0 ++ entries_of part (starts_of (held_rows (take (i + 1) rows)))
row_saved part rows i x d saved0 saved1 saved2 low is so more =
    let here = held_rows (take i rows) in
    let one : List HeldRow = record { cells = x.cells; start = x.start } ∷ [] in
    let h : MarkedRow → HeldRow = λ m. record { cells = m.cells; start = m.start } in
    more
    ∙ (ap (λ l. l ++ entries_of part (starts_of one)) so
    ∙ (append_assoc saved0 (entries_of part (starts_of here)) (entries_of part (starts_of one))
    ∙ ap (λ l. saved0 ++ l)
    (sym (saved_append part here one)
    ∙ ap (λ l. entries_of part (starts_of l)) (sym (map-append h (take i rows) (x ∷ [])) ∙ ap held_rows (sym (take_more rows i d low ∙ ap (λ y. take i rows ++ y ∷ []) (sym is)))))))
