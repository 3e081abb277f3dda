-- Averages, column by column.
use Rattle.std.specs.Prelude.{◌≡◌, ℕ, suc, ◌+◌, ◌-◌, ◌<◌, ◌≤◌, ◌||◌, ◌&&◌, nat_eq, ℤ, pos, int_lt, Bool, true, false, cond, Option, Some, None, List, [], ◌∷◌, ◌++◌, map, length, slice_get, slice_index_or, take, refl}
use Rattle.std.specs.Int.{int_div_euclid}
use Rattle.std.specs.List.{list_any, list_all}
use Rattle.std.specs.Option.{option_map}
use Rattle.std.proofs.Common.{sym, ◌∙◌, ap, subst, arith, get_or, append_assoc}
use Rattle.std.proofs.lemmas.Bool.Decides.{nat_tests}
use Rattle.std.proofs.lemmas.List.{length-append, length-map, take_all, take_more, take-map}
use Rattle.std.proofs.lemmas.Option.{get_or_from_slice_get, slice_get-get_or, slice_get-map, same_Some}
use Rattle.tw_rows.specs.Cells.{datum_kind}
use Rattle.tw_rows.specs.declared.cells.Datum.{Datum}
use Rattle.tw_rows.specs.declared.edge.Edge.{Edge}
use Rattle.tw_rows.specs.Kinds.{cell_kind_of}
use Rattle.tw_rows.specs.declared.kind.Kind.{Kind}
use Rattle.tw_rows.specs.declared.kind.CellKind.{CellKind}
use Rattle.tw_rows.specs.declared.kind.CellKind.TheVariants.{Whole, Bit, Place}
use Rattle.tw_rows.proofs.TextTables.{slice_get-append}
use Rattle.edge_history.specs.Order.{KeepsOrder}
use Rattle.edge_history.proofs.Keeping.{KeepsOrder-front}
use Rattle.plan_model.specs.CellOps.{datum_int}
use Rattle.plan_model.specs.Means.{mean_of, means_from, mean_row}
use Rattle.plan_model.specs.RowOps.{int_in}
use Rattle.plan_model.proofs.Averages.{length_of_mean, column_of_mean}
use Rattle.plan_laws.specs.Keeping.{plain_cells}
use Rattle.plan_laws.specs.Answers.{new_edge, answered}
use Rattle.lifetime_ops.specs.declared.change.Change.TheVariants.{Mean}
use Rattle.lifetime_ops.specs.Nodes.{node_of, answer_kinds, is_whole, divides_ints}
use Rattle.lifetime_ops.proofs.Answering.{answered_order}

last_there : (rest : List Datum) (last d : Datum) → slice_index_or (rest ++ last ∷ []) (length rest) d ≡ last
last_there [] last d = refl
last_there (x ∷ xs) last d = last_there xs last d

-- one column more
pub mean_next : (at : List ℕ) (cells rest : List Datum) (last zeroth x : Datum) (i : ℕ) (done new : List Datum) →
    cells ≡ rest ++ last ∷ [] → i < length rest →
    x ≡ cond (list_any (nat_eq i) at) (mean_of plain_cells (datum_int last) (get_or rest i zeroth)) (get_or rest i zeroth) →
    done ≡ take i (mean_row plain_cells at cells) → new ≡ done ++ x ∷ [] → new ≡ take (i + 1) (mean_row plain_cells at cells)
mean_next at cells rest last zeroth x i done new is lt stands so_far added =
    let d : Datum = get_or rest i zeroth in
    let len : length cells ≡ length rest + 1 = ap length is ∙ length-append rest (last ∷ []) in
    let here : slice_get cells i ≡ Some d = ap (λ xs. slice_get xs i) is ∙ slice_get-append rest (last ∷ []) i d (slice_get-get_or rest i zeroth lt) in
    let low : i + 1 < length cells = omega (arith, len, lt) in
    let place : length cells - 1 ≡ length rest = omega (arith, len) in
    let number : int_in plain_cells (length cells - 1) cells ≡ datum_int last =
    ap (λ k. int_in plain_cells k cells) place ∙ ap (λ xs. datum_int (slice_index_or xs (length rest) plain_cells.zero)) is
    ∙ ap datum_int (last_there rest last plain_cells.zero) in
    let column = column_of_mean plain_cells at cells i d here low in
    let value : slice_get (mean_row plain_cells at cells) i ≡ Some x =
    column ∙ ap (λ n. Some (cond (list_any (nat_eq i) at) (mean_of plain_cells n d) d)) number ∙ ap Some (sym stands) in
    let long : i < length (mean_row plain_cells at cells) = let m = length_of_mean plain_cells at cells in omega (arith, m, low) in
    added ∙ ap (λ l. l ++ x ∷ []) so_far
    ∙ ap (λ y. take i (mean_row plain_cells at cells) ++ y ∷ []) (sym (get_or_from_slice_get (mean_row plain_cells at cells) i x zeroth value))
    ∙ sym (take_more (mean_row plain_cells at cells) i zeroth long)

-- and all of them
pub mean_whole : (at : List ℕ) (cells rest : List Datum) (last : Datum) (i : ℕ) (done : List Datum) → cells ≡ rest ++ last ∷ [] → length rest ≤ i →
    done ≡ take i (mean_row plain_cells at cells) → done ≡ mean_row plain_cells at cells
mean_whole at cells rest last i done is all so_far =
    let len : length cells ≡ length rest + 1 = ap length is ∙ length-append rest (last ∷ []) in
    let m = length_of_mean plain_cells at cells in
    so_far ∙ take_all i (mean_row plain_cells at cells) (omega (arith, len, m, all))

pub mean_of_none : (at : List ℕ) (cells : List Datum) → length cells ≡ 0 → [] ≡ mean_row plain_cells at cells
mean_of_none at [] none = refl
mean_of_none at (d ∷ ds) none = absurd (omega (arith, none))

nat_eq-sym : (a b : ℕ) → nat_eq a b ≡ nat_eq b a
nat_eq-sym a b = grind (arith, nat_tests)

-- a test of numbers, the other way round
pub any_swapped : (column : ℕ) (at : List ℕ) → list_any (λ k. nat_eq k column) at ≡ list_any (nat_eq column) at
any_swapped column [] = refl
any_swapped column (k ∷ ks) = rw (nat_eq-sym k column) (ap (λ b. nat_eq column k || b) (any_swapped column ks))

-- EDGES
-- one edge more
pub means_next : (at : List ℕ) (e x : Edge) (done old rest whole : List Edge) → old ≡ e ∷ rest → x ≡ new_edge (node_of (Mean at)) e →
    done ++ answered (node_of (Mean at)) old ≡ whole → (done ++ x ∷ []) ++ answered (node_of (Mean at)) rest ≡ whole
means_next at e x done old rest whole next new all =
    append_assoc done (x ∷ []) (answered (node_of (Mean at)) rest)
    ∙ ap (λ y. done ++ y ∷ answered (node_of (Mean at)) rest) new
    ∙ ap (λ h. done ++ answered (node_of (Mean at)) h) (sym next) ∙ all

pub means_order : (at : List ℕ) (e x : Edge) (done old rest due : List Edge) → old ≡ e ∷ rest → x ≡ new_edge (node_of (Mean at)) e →
    done ++ answered (node_of (Mean at)) old ≡ answered (node_of (Mean at)) due → KeepsOrder due → KeepsOrder (done ++ x ∷ [])
means_order at e x done old rest due next new all order =
    KeepsOrder-front (done ++ x ∷ []) (answered (node_of (Mean at)) rest)
    (subst KeepsOrder (sym (means_next at e x done old rest (answered (node_of (Mean at)) due) next new all)) (answered_order (Mean at) due order))

-- KINDS
divided_whole : (kinds : List CellKind) (column : ℕ) (at : List ℕ) → divides_ints (Mean at) kinds ≡ true → list_any (nat_eq column) at ≡ true → slice_get kinds column ≡ Some Whole
divided_whole kinds column [] all named = absurd (cc)
divided_whole kinds column (k ∷ ks) all named = pick (is_whole (slice_get kinds k)) (nat_eq column k) refl refl all named (divided_whole kinds column ks)
  where
    whole : (o : Option CellKind) → is_whole o ≡ true → o ≡ Some Whole
    whole None h = absurd (cc)
    whole (Some Whole) h = refl
    whole (Some Bit) h = absurd (cc)
    whole (Some Place) h = absurd (cc)

    pick : (a b : Bool) → is_whole (slice_get kinds k) ≡ a → nat_eq column k ≡ b → a && list_all (λ c. is_whole (slice_get kinds c)) ks ≡ true → b || list_any (nat_eq column) ks ≡ true →
        (list_all (λ c. is_whole (slice_get kinds c)) ks ≡ true → list_any (nat_eq column) ks ≡ true → slice_get kinds column ≡ Some Whole) →
        slice_get kinds column ≡ Some Whole
    pick false b ea eb h n later = absurd (cc)
    pick true true ea eb h n later = let same : column ≡ k = grind (arith, nat_tests) in rw same (whole (slice_get kinds k) ea)
    pick true false ea eb h n later = later h n

mean_kind : (count : ℤ) (x : Datum) → datum_kind x ≡ Whole → datum_kind (mean_of plain_cells count x) ≡ datum_kind x
mean_kind count x whole = pick (int_lt (pos 0) count)
  where
    pick : (b : Bool) → datum_kind (cond b (plain_cells.of_int (int_div_euclid (plain_cells.int_of x) count)) x) ≡ datum_kind x
    pick true = sym whole
    pick false = refl

kinds_from : (at : List ℕ) (count : ℤ) (column : ℕ) (cells : List Datum) →
    ((i : ℕ) → list_any (nat_eq (column + i)) at ≡ true → (x : Datum) → slice_get cells i ≡ Some x → datum_kind x ≡ Whole) →
    map datum_kind (means_from plain_cells column at count cells) ≡ take (length cells - 1) (map datum_kind cells)
kinds_from at count column [] whole = refl
kinds_from at count column (x ∷ []) whole = refl
kinds_from at count column (x ∷ y ∷ rest) whole =
    let long : length (x ∷ y ∷ rest) - 1 ≡ suc (length (y ∷ rest) - 1) = omega arith in
    rw long (both (list_any (nat_eq column) at) refl
    (kinds_from at count (suc column) (y ∷ rest) (λ i named z is. whole (suc i) (ap (λ k. list_any (nat_eq k) at) (next i) ∙ named) z is)))
  where
    next : (i : ℕ) → column + suc i ≡ suc column + i
    next i = omega arith

    here : list_any (nat_eq column) at ≡ true → datum_kind x ≡ Whole
    here named = whole 0 (ap (λ k. list_any (nat_eq k) at) (let z : column + 0 ≡ column = omega arith in z) ∙ named) x refl

    both : (b : Bool) → list_any (nat_eq column) at ≡ b →
        map datum_kind (means_from plain_cells (suc column) at count (y ∷ rest)) ≡ take (length (y ∷ rest) - 1) (map datum_kind (y ∷ rest)) →
        datum_kind (cond b (mean_of plain_cells count x) x) ∷ map datum_kind (means_from plain_cells (suc column) at count (y ∷ rest))
        ≡ datum_kind x ∷ take (length (y ∷ rest) - 1) (map datum_kind (y ∷ rest))
    both true named more = rw (mean_kind count x (here named)) (ap (λ ks. datum_kind x ∷ ks) more)
    both false named more = ap (λ ks. datum_kind x ∷ ks) more

pub kinds_of_mean : (at : List ℕ) (cells : List Datum) (kinds : List CellKind) → map datum_kind cells ≡ kinds → divides_ints (Mean at) kinds ≡ true →
    map datum_kind (mean_row plain_cells at cells) ≡ answer_kinds (Mean at) kinds
kinds_of_mean at cells kinds are ints =
    kinds_from at (int_in plain_cells (length cells - 1) cells) 0 cells stored
    ∙ ap (λ n. take (n - 1) (map datum_kind cells)) (sym (length-map cells datum_kind)) ∙ ap (λ ks. take (length ks - 1) ks) are
  where
    stored : (i : ℕ) → list_any (nat_eq (0 + i)) at ≡ true → (x : Datum) → slice_get cells i ≡ Some x → datum_kind x ≡ Whole
    stored i named x is =
        let column : list_any (nat_eq i) at ≡ true = ap (λ k. list_any (nat_eq k) at) (let z : i ≡ 0 + i = omega arith in z) ∙ named in
        let kind = slice_get-map datum_kind cells i ∙ ap (option_map datum_kind) is in
        same_Some (datum_kind x) Whole (sym kind ∙ ap (λ ks. slice_get ks i) are ∙ divided_whole kinds i at ints column)

-- the kinds of the answer, of those of the list of which it is made
pub fewer_kinds : (kinds all own : List Kind) (n : ℕ) (at : List ℕ) → all ≡ kinds → n ≡ length all - 1 → own ≡ take n all →
    map cell_kind_of own ≡ answer_kinds (Mean at) (map cell_kind_of kinds)
fewer_kinds kinds all own n at same count is =
    ap (map cell_kind_of) (is ∙ ap (λ k. take k all) count ∙ ap (λ ks. take (length ks - 1) ks) same)
    ∙ sym (take-map cell_kind_of (length kinds - 1) kinds)
    ∙ ap (λ k. take (k - 1) (map cell_kind_of kinds)) (sym (length-map kinds cell_kind_of))
