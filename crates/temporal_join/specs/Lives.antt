-- Rows that are alive, with their ends.
use Rattle.std.specs.Prelude.{◌≡◌, ℕ, nat_eq, nat_lt, nat_le, Bool, ◌&&◌, cond, List, [], ◌∷◌, map, flat_map}
use Rattle.tw_rows.specs.Instant.{inf}
use Rattle.tw_rows.specs.Words.{word_of_cells}
use Rattle.tw_rows.specs.declared.edge.Edge.{Edge}
use Rattle.tw_rows.specs.declared.edge.HeldRow.{HeldRow}
use Rattle.edge_history.specs.Order.{failing}
use Rattle.end_queue.specs.Pending.{Pending}
use Rattle.synopsis.specs.Held.{key_of}
use Rattle.temporal_join.specs.declared.lives.Life.{Life}

-- key columns, rows with their ends, and a time before which none of them ends: with the ends 5 and 7 it may be 5
pub record LivesView : Type 0 where
  pub columns : List ℕ
  pub lives : List Life
  pub next : ℕ

-- the word is that of the key. By the column 0, the row 5, 6 has the word of 5
abbrev pub is_marked : List ℕ → Life → Bool
is_marked columns l = nat_eq l.word (word_of_cells (key_of columns l.edge.cells))

-- it begins before it ends: the row from 3 to 5
abbrev pub lasts : Life → Bool
lasts l = nat_lt l.edge.sync l.edge.other

-- it ends at the time or later; it ends at the time. The row from 3 to 5 ends from 4 on and from 5 on, and at 5
abbrev pub ends_from : ℕ → Life → Bool
ends_from t l = nat_le t l.edge.other

abbrev pub ends_at : ℕ → Life → Bool
ends_at t l = nat_eq l.edge.other t

-- rows with the words of their keys, of which none ends before a time. With the ends 5 and 7 the time may be 5 or 4
pub record AreLives (columns : List ℕ) (lives : List Life) (next : ℕ) : Type 0 where
  pub marked : failing (is_marked columns) lives ≡ 0
  pub lasting : failing lasts lives ≡ 0
  pub later : failing (ends_from next) lives ≡ 0

-- the row with its start, and the rows of a list. Of the row from 3 to 5: the row, which began at 3
abbrev pub row_of : Life → HeldRow
row_of l = record { cells = l.edge.cells; start = l.edge.sync }

abbrev pub life_rows : List Life → List HeldRow
life_rows lives = map row_of lives

-- the end of the row as an edge, and its weight where the end is known. The row from 3 to 5 ends at 5
abbrev pub end_of : Life → Edge
end_of l = record { sync = l.edge.other; other = l.edge.sync; cells = l.edge.cells }

abbrev pub end_weight : (Edge → ℕ) → Life → ℕ
end_weight w l = cond (nat_eq l.edge.other inf) 0 (w (end_of l))

-- the ends that are known, each pending until its time. Of the row from 3 to 5 its end, until 5, and of one with no known end none
abbrev pub wait_of : Life → List Pending
wait_of l = cond (nat_eq l.edge.other inf) [] (record { at = l.edge.other; edge = end_of l } ∷ [])

abbrev pub life_waits : List Life → List Pending
life_waits lives = flat_map wait_of lives

-- the edge begins a row at the time that ends later: at 3, a start at 3 and the interval [3, 5)
abbrev pub is_begun : ℕ → Edge → Bool
is_begun t e = nat_eq e.sync t && nat_lt t e.other
