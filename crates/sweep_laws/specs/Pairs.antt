-- Pairs of open rows. `meets` says which rows are paired, and `pair` makes the row of a pair.
use Rattle.std.specs.Prelude.{ℕ, max, Bool, cond, List, [], ◌∷◌, map, flat_map}
use Rattle.tw_rows.specs.Bag.{SameBag}
use Rattle.tw_rows.specs.declared.cells.Datum.{Datum}
use Rattle.tw_rows.specs.declared.edge.Edge.{Edge}
use Rattle.tw_rows.specs.declared.edge.HeldRow.{HeldRow}
use Rattle.edge_history.specs.History.{CellEvent}
use Rattle.edge_history.specs.Opens.{opens}
use Rattle.sweep_laws.specs.Moves.{told_at}

-- the pair of two open rows, which began with the later of them
abbrev pub pair_of : (List Datum → List Datum → Bool) → (List Datum → List Datum → List Datum) → HeldRow → HeldRow → List HeldRow
pair_of meets pair l r = cond (meets l.cells r.cells) (record { cells = pair l.cells r.cells; start = max l.start r.start } ∷ []) []

abbrev pub pairs : (List Datum → List Datum → Bool) → (List Datum → List Datum → List Datum) → List HeldRow → List HeldRow → List HeldRow
pairs meets pair ls rs = flat_map (λ l. flat_map (pair_of meets pair l) rs) ls

-- the same from either side: x is a row of the right side where the test is true
abbrev pub sided : (List Datum → List Datum → Bool) → (List Datum → List Datum → List Datum) → Bool → HeldRow → HeldRow → List HeldRow
sided meets pair right x y = cond right (pair_of meets pair y x) (pair_of meets pair x y)

-- the pairs of a row, and of some rows, of one side with the rows of the other
abbrev pub partners : (List Datum → List Datum → Bool) → (List Datum → List Datum → List Datum) → Bool → HeldRow → List HeldRow → List HeldRow
partners meets pair right x ys = flat_map (sided meets pair right x) ys

abbrev pub all_partners : (List Datum → List Datum → Bool) → (List Datum → List Datum → List Datum) → Bool → List HeldRow → List HeldRow → List HeldRow
all_partners meets pair right xs ys = flat_map (λ x. partners meets pair right x ys) xs

-- what is told at t of the pairs of some rows of one side with those of the other: their starts, or their ends
abbrev pub pairs_told : (List Datum → List Datum → Bool) → (List Datum → List Datum → List Datum) → Bool → Bool → ℕ → List HeldRow → List HeldRow → List Edge
pairs_told meets pair right starts t xs ys = map (told_at starts t) (all_partners meets pair right xs ys)

-- the rows are those of both sides that are open just before t
pub record Held (a b : List CellEvent) (t : ℕ) (left right : List HeldRow) : Type 0 where
  pub left_rows : SameBag left (opens t a)
  pub right_rows : SameBag right (opens t b)
