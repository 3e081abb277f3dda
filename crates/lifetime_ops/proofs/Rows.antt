-- Rows whose times are changed one after another.
use Rattle.std.specs.Prelude.{◌≡◌, ℕ, zero, suc, ◌+◌, ◌<◌, Bool, true, false, cond, List, [], ◌∷◌, ◌++◌, map, length, take, drop, refl}
use Rattle.std.specs.Prelude.{Option, Some, None, slice_get, slice_set}
use Rattle.std.specs.Option.{option_map}
use Rattle.std.proofs.lemmas.Option.{slice_get-map}
use Rattle.std.proofs.Common.{sym, ◌∙◌, ap, arith, get_or, add-one}
use Rattle.batch.specs.Rows.{Row, edge_of, edges_of, occupied_rows}
use Rattle.batch.proofs.Keeping.{no_row}
use Rattle.plan_laws.specs.Answers.{new_start, new_other}
use Rattle.lifetime_ops.specs.declared.change.Change.{Change}
use Rattle.lifetime_ops.specs.Nodes.{node_of}
use Rattle.lifetime_ops.specs.Times.{new_row, retimed_edge}

-- the edges of changed rows
pub edges_changed : (change : Change) (rows : List Row) → edges_of (map (new_row change) rows) ≡ map (retimed_edge (node_of change)) (edges_of rows)
edges_changed change [] = refl
edges_changed change (r ∷ rs) = pick r.occupied (edges_changed change rs)
  where
    pick : (b : Bool) → edges_of (map (new_row change) rs) ≡ map (retimed_edge (node_of change)) (edges_of rs) →
        map edge_of (cond b (new_row change r ∷ occupied_rows (map (new_row change) rs)) (occupied_rows (map (new_row change) rs)))
        ≡ map (retimed_edge (node_of change)) (map edge_of (cond b (r ∷ occupied_rows rs) (occupied_rows rs)))
    pick true k = ap (λ es. retimed_edge (node_of change) (edge_of r) ∷ es) k
    pick false k = k

-- the rows once the first i are changed, and one more
row_there : (f : Row → Row) (rows : List Row) (i : ℕ) → i < length rows → slice_get (map f (take i rows) ++ drop i rows) i ≡ Some (get_or rows i no_row)
row_there f [] i lt = absurd (omega (arith, lt))
row_there f (r ∷ rs) zero lt = refl
row_there f (r ∷ rs) (suc i) lt = row_there f rs i (omega (arith, lt))

row_set : (f : Row → Row) (rows : List Row) (i : ℕ) → i < length rows →
    slice_set (map f (take i rows) ++ drop i rows) i (f (get_or rows i no_row)) ≡ map f (take (suc i) rows) ++ drop (suc i) rows
row_set f [] i lt = absurd (omega (arith, lt))
row_set f (r ∷ rs) zero lt = refl
row_set f (r ∷ rs) (suc i) lt = ap (λ l. f r ∷ l) (row_set f rs i (omega (arith, lt)))

abbrev or_zero : Option ℕ → ℕ
or_zero None = 0
or_zero (Some n) = n

read_is : (g : Row → ℕ) (now : List Row) (i s : ℕ) (r : Row) → slice_get (map g now) i ≡ Some s → slice_get now i ≡ Some r → s ≡ g r
read_is g now i s r read there = ap or_zero (sym read ∙ slice_get-map g now i ∙ ap (option_map g) there)

pub row_next : (change : Change) (rows now : List Row) (i : ℕ) → i < length rows → now ≡ map (new_row change) (take i rows) ++ drop i rows → slice_get now i ≡ Some (get_or rows i no_row)
row_next change rows now i lt is = rw is (row_there (new_row change) rows i lt)

pub times_set : (change : Change) (rows now : List Row) (i s o a b : ℕ) → i < length rows → now ≡ map (new_row change) (take i rows) ++ drop i rows →
    slice_get (map (λ r. r.sync) now) i ≡ Some s → slice_get (map (λ r. r.other) now) i ≡ Some o →
    a ≡ new_start (node_of change) s → b ≡ new_other (node_of change) s o →
    slice_set now i (record (get_or rows i no_row) { sync = a; other = b }) ≡ map (new_row change) (take (i + 1) rows) ++ drop (i + 1) rows
times_set change rows now i s o a b lt is rs ro ea eb =
    let r : Row = get_or rows i no_row in
    let there = row_next change rows now i lt is in
    let es = read_is (λ q. q.sync) now i s r rs there in
    let eo = read_is (λ q. q.other) now i o r ro there in
    let start : a ≡ new_start (node_of change) r.sync = ea ∙ ap (new_start (node_of change)) es in
    let other : b ≡ new_other (node_of change) r.sync r.other = eb ∙ ap (λ t. new_other (node_of change) t o) es ∙ ap (new_other (node_of change) r.sync) eo in
    ap (λ l. slice_set l i (record r { sync = a; other = b })) is
    ∙ ap (λ t. slice_set (map (new_row change) (take i rows) ++ drop i rows) i (record r { sync = t; other = b })) start
    ∙ ap (λ t. slice_set (map (new_row change) (take i rows) ++ drop i rows) i (record r { sync = new_start (node_of change) r.sync; other = t })) other
    ∙ rw add-one (row_set (new_row change) rows i lt)
