-- What an operator keeps of one side: the events of its edges that do not end before a time.
use Rattle.std.specs.Prelude.{◌≡◌, ℕ, nat_le, Bool, List, ◌++◌, map, flat_map, filter}
use Rattle.tw_rows.specs.Bag.{SameBag}
use Rattle.tw_rows.specs.declared.cells.Datum.{Datum}
use Rattle.tw_rows.specs.declared.edge.Edge.{Edge}
use Rattle.edge_history.specs.History.{CellEvent}
use Rattle.edge_history.specs.Balance.{given, taken}

-- the event does not end before c
abbrev pub reaches : ℕ → CellEvent → Bool
reaches c e = nat_le c e.end

-- the events are those of the edges that do not end before c
abbrev pub Retains : ℕ → List CellEvent → List Edge → Type 0
Retains c events h = SameBag (events ++ flat_map taken h) (filter (reaches c) (map given h))

-- the test of an event depends on its row and its start alone
abbrev pub DependsOnNoEnd : (CellEvent → Bool) → Type 0
DependsOnNoEnd test = (cells : List Datum) (start m n : ℕ) →
    test (record { row = cells; start = start; end = m }) ≡ test (record { row = cells; start = start; end = n })
