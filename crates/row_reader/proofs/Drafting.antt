-- Rows whose texts are still in the fields of their line.
use Rattle.std.proofs.Common.{◌≡◌, ◌<◌, ◌+◌, ℕ, zero, suc, List, [], ◌∷◌, ◌++◌, length, take, drop, get_or, refl, sym, ◌∙◌, ap, arith, subst}
use Rattle.std.proofs.lemmas.List.{take-append-drop, map-append, length-append}
use Rattle.std.proofs.lemmas.List.Sums.{fold-append}
use Rattle.tw_rows.specs.Cells.{ArePlaced, read_datum, read_cells, with_value, with_row}
use Rattle.tw_rows.specs.declared.row.Value.{Value}
use Rattle.tw_rows.specs.declared.row.Value.TheVariants.{Int as IntValue, Bool as FlagValue}
use Rattle.tw_rows.specs.declared.cells.Datum.{Datum}
use Rattle.tw_rows.specs.declared.cells.Datum.TheVariants.{Int, Bool, Text}
use Rattle.tw_rows.proofs.CellReads.{IsTaken}
use Rattle.row_reader.specs.Record.{field_of}
use Rattle.row_reader.specs.Drafted.{value_in, row_in, HaveNoText}
use Rattle.row_reader.proofs.Steps.{drop_again}

pub row_in-none : (fields : List (List ℕ)) (ds : List Datum) → ds ≡ [] → row_in fields ds ≡ []
unfolding row_in
row_in-none fields ds e = rw e refl

pub row_in-length : (fields : List (List ℕ)) (ds : List Datum) → length (row_in fields ds) ≡ length ds
unfolding row_in
row_in-length fields [] = refl
row_in-length fields (d ∷ ds) = ap (λ n. suc n) (row_in-length (drop 1 fields) ds)

drop_behind : (n : ℕ) (fields : List (List ℕ)) → drop (suc n) fields ≡ drop n (drop 1 fields)
drop_behind zero [] = refl
drop_behind (suc n) [] = refl
drop_behind n (f ∷ fs) = refl

-- one datum more, of the next field
pub row_in-push : (fields : List (List ℕ)) (ds : List Datum) (d : Datum) → row_in fields (ds ++ d ∷ []) ≡ row_in fields ds ++ value_in (field_of (drop (length ds) fields) 0) d ∷ []
unfolding row_in
row_in-push fields [] d = refl
row_in-push fields (x ∷ xs) d = ap (λ r. value_in (field_of fields 0) x ∷ r)
    (row_in-push (drop 1 fields) xs d ∙ ap (λ f. row_in (drop 1 fields) xs ++ value_in (field_of f 0) d ∷ []) (sym (drop_behind (length xs) fields)))

-- a datum more, of the field at hand
pub pushed : (fields rest : List (List ℕ)) (ds more : List Datum) (d : Datum) (f : List ℕ) → more ≡ ds ++ d ∷ [] → rest ≡ drop (length ds) fields → f ≡ field_of rest 0 →
    row_in fields more ≡ row_in fields ds ++ value_in f d ∷ []
pushed fields rest ds more d f is behind here =
    ap (row_in fields) is ∙ row_in-push fields ds d ∙ ap (λ g. row_in fields ds ++ value_in g d ∷ []) (ap (λ l. field_of l 0) (sym behind) ∙ sym here)

-- as many fields are behind as there are data
pub left_behind : (fields rest after : List (List ℕ)) (ds more : List Datum) (d : Datum) → more ≡ ds ++ d ∷ [] → rest ≡ drop (length ds) fields → after ≡ drop 1 rest →
    after ≡ drop (length more) fields
left_behind fields rest after ds more d is behind next =
    let long : length more ≡ length ds + 1 = ap (λ l. length l) is ∙ length-append ds (d ∷ []) in
    next ∙ ap (drop 1) behind ∙ drop_again (length ds) fields ∙ ap (λ n. drop n fields) (sym long)

-- the value of that number
pub row_in-at : (fields : List (List ℕ)) (ds : List Datum) (n : ℕ) (d : Datum) (v : Value) → n < length ds → value_in (field_of (drop n fields) 0) (get_or ds n d) ≡ get_or (row_in fields ds) n v
unfolding row_in
row_in-at fields [] n d v h = absurd (omega arith)
row_in-at fields (x ∷ xs) zero d v h = refl
row_in-at fields (x ∷ xs) (suc n) d v h = ap (λ f. value_in (field_of f 0) (get_or xs n d)) (drop_behind n fields) ∙ row_in-at (drop 1 fields) xs n d v (omega arith)

row_in-drop : (n : ℕ) (fields : List (List ℕ)) (ds : List Datum) → drop n (row_in fields ds) ≡ row_in (drop n fields) (drop n ds)
unfolding row_in
row_in-drop zero fields ds = refl
row_in-drop (suc n) fields [] = refl
row_in-drop (suc n) fields (d ∷ ds) = row_in-drop n (drop 1 fields) ds ∙ ap (λ f. row_in f (drop n ds)) (sym (drop_behind n fields))

-- data that are no texts are placed in any table, and stand for the same row
pub bare_read : (texts fields : List (List ℕ)) (ds : List Datum) → HaveNoText ds → (read_cells texts ds ≡ row_in fields ds) × (ArePlaced texts ds) × (with_row texts (row_in fields ds) ≡ texts)
unfolding row_in
bare_read texts fields [] h = (refl, tt, refl)
bare_read texts fields (Int x ∷ ds) h = let more = bare_read texts (drop 1 fields) ds h in (ap (λ r. IntValue x ∷ r) more.0, (tt, more.1), more.2)
bare_read texts fields (Bool b ∷ ds) h = let more = bare_read texts (drop 1 fields) ds h in (ap (λ r. FlagValue b ∷ r) more.0, (tt, more.1), more.2)
bare_read texts fields (Text place ∷ ds) h = absurd h

pub ArePlaced-both : (texts : List (List ℕ)) (xs ys : List Datum) → ArePlaced texts xs → ArePlaced texts ys → ArePlaced texts (xs ++ ys)
ArePlaced-both texts [] ys h k = k
ArePlaced-both texts (x ∷ xs) ys h k = (h.0, ArePlaced-both texts xs ys h.1 k)

-- once the texts of the first n data are placed, and no other is a text, the row is
pub row_taken : (old texts fields : List (List ℕ)) (before row : List Datum) (n : ℕ) → IsTaken old (row_in fields before) n texts (take n row) → drop n row ≡ drop n before → HaveNoText (drop n before) →
    (read_cells texts row ≡ row_in fields before) × (ArePlaced texts row) × (texts ≡ with_row old (row_in fields before))
row_taken old texts fields before row n taken rest bare =
    let all = row_in fields before in
    let more = bare_read texts (drop n fields) (drop n row) (subst HaveNoText (sym rest) bare) in
    let behind : row_in (drop n fields) (drop n row) ≡ drop n all = ap (row_in (drop n fields)) rest ∙ sym (row_in-drop n fields before) in
    let whole : take n all ++ drop n all ≡ all = take-append-drop n all in
    let cells : take n row ++ drop n row ≡ row = take-append-drop n row in (
      ap (read_cells texts) (sym cells) ∙ map-append (read_datum texts) (take n row) (drop n row) ∙ ap (λ r. r ++ read_cells texts (drop n row)) taken.read
          ∙ ap (λ r. take n all ++ r) (more.0 ∙ behind) ∙ whole,
      subst (ArePlaced texts) cells (ArePlaced-both texts (take n row) (drop n row) taken.placed more.1),
      sym more.2 ∙ ap (with_row texts) behind ∙ ap (λ t. with_row t (drop n all)) taken.table ∙ sym (fold-append with_value old (take n all) (drop n all)) ∙ ap (with_row old) whole,
    )
