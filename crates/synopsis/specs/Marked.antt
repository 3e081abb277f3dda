-- Rows that are marked by the word of their cells.
use Rattle.std.specs.Prelude.{◌≡◌, ℕ, nat_eq, true, false, List, map, take, get_or}
use Rattle.std.specs.List.{list_any}
use Rattle.tw_rows.specs.SameCells.{same_cells}
use Rattle.tw_rows.specs.Words.{word_of_cells}
use Rattle.tw_rows.specs.declared.edge.HeldRow.{HeldRow}
use Rattle.edge_history.specs.Order.{failing}
use Rattle.sweep_laws.specs.Queues.{Cells}
use Rattle.synopsis.specs.declared.few_rows.MarkedRow.{MarkedRow}

-- the rows without their words
abbrev pub held_rows : List MarkedRow → List HeldRow
held_rows rows = map (λ m. record { cells = m.cells; start = m.start }) rows

-- the word is that of the cells
abbrev pub is_marked : MarkedRow → Type 0
is_marked m = m.word ≡ word_of_cells m.cells

abbrev pub AreMarked : List MarkedRow → Type 0
AreMarked rows = failing (λ m. nat_eq m.word (word_of_cells m.cells)) rows ≡ 0

-- none is of these cells
abbrev pub HasNone : Cells → List MarkedRow → Type 0
HasNone cells rows = list_any (λ m. same_cells cells m.cells) rows ≡ false

-- the row at the place is the first one of these cells
abbrev pub IsFirst : Cells → List MarkedRow → ℕ → Type 0
IsFirst cells rows i = HasNone cells (take i rows) × ((d : MarkedRow) → same_cells cells (get_or rows i d).cells ≡ true)
