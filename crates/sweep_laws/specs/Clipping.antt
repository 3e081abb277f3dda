-- The open rows of a clip. `meets` says which right rows a left row meets.
use Rattle.std.specs.Prelude.{ℕ, ◌&&◌, nat_eq, nat_lt, Bool, List}
use Rattle.std.specs.List.{list_any}
use Rattle.tw_rows.specs.Event.{Event}
use Rattle.tw_rows.specs.declared.cells.Datum.{Datum}
use Rattle.tw_rows.specs.declared.edge.HeldRow.{HeldRow}
use Rattle.edge_history.specs.History.{CellEvent}

-- a right event that the left row meets starts at t
abbrev pub starts_at : {L R : Type 0} → (L → R → Bool) → List (Event R) → L → ℕ → Bool
starts_at meets rs l t = list_any (λ r. meets l r.row && nat_eq r.start t) rs

-- a right event that the row meets started after it and before t: the row that began at 3 is clipped at 6 by a start at 5,
-- and by none at 3 or at 6
abbrev pub is_clipped : (List Datum → List Datum → Bool) → List CellEvent → ℕ → HeldRow → Bool
is_clipped meets b t r = list_any (λ x. meets r.cells x.row && (nat_lt r.start x.start && nat_lt x.start t)) b
