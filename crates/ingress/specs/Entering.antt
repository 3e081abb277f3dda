-- Event lines in cells, as they change what is held.
use Rattle.std.specs.Prelude.{◌≡◌, ℕ, cond, Option, Some, None, List, [], ◌∷◌, ◌++◌}
use Rattle.tw_rows.specs.Instant.{inf}
use Rattle.tw_rows.specs.Rows.{Row}
use Rattle.tw_rows.specs.declared.cells.Datum.{Datum}
use Rattle.tw_rows.specs.declared.edge.Edge.{Edge}
use Rattle.key_nodes.specs.Joins.{with_life}
use Rattle.edge_history.specs.History.{CellEvent}
use Rattle.row_reader.specs.declared.form.Form.{Form}
use Rattle.row_reader.specs.declared.form.Form.TheVariants.{Interval, Start, End}
use Rattle.admission.specs.Answers.{became}
use Rattle.admission.specs.declared.policy.Admitted.{Admitted}
use Rattle.ingress.specs.declared.entering.EventLine.{EventLine}
use Rattle.ingress.specs.declared.opens.OpenKey.{OpenKey}
use Rattle.ingress.specs.declared.opens.OpenStart.{OpenStart}
use Rattle.ingress.specs.Keeping.{CellOpen, Keeps, first_of, without_first_of, is_named, ended_row, more_rows}

-- what the end line of these cells and that start names
abbrev pub key_of : ℕ → ℕ → List Datum → OpenKey
key_of s given cells = record { stream = s; given = given; cells = cells }

-- where no open start is named nothing is answered, and else the first one has ended
abbrev pub HasClosed : ℕ → ℕ → ℕ → List Datum → ℕ → List (List Edge) → (OpenKey → List OpenStart) → (ℕ → List CellEvent) →
    List CellOpen → (ℕ → List Edge) → Option Admitted → Option CellOpen → Type 0
HasClosed s other at cells p waiting starts made opens given answer None = (answer ≡ None) × Keeps p waiting starts made opens given
HasClosed s other at cells p waiting starts made opens given answer (Some o) =
    ((row : Row) → answer ≡ Some (became o.state.dropped (with_life row o.state.start at)))
    × Keeps p waiting starts (more_rows s (ended_row at o) made) (without_first_of (is_named (key_of s other cells)) opens) given

-- an event line has made a row, or opened or ended an event: what is kept, and what is answered
abbrev pub HasEntered : Form → EventLine → List Datum → ℕ → List (List Edge) → (OpenKey → List OpenStart) → (ℕ → List CellEvent) →
    List CellOpen → (ℕ → List Edge) → Option Admitted → Type 0
HasEntered Interval l cells p waiting starts made opens given answer =
    ((row : Row) → answer ≡ Some (became l.dropped (with_life row l.at l.other)))
    × Keeps p waiting starts (more_rows l.stream (cond l.dropped [] (with_life cells l.at l.other)) made) opens given
HasEntered Start l cells p waiting starts made opens given answer =
    ((row : Row) → answer ≡ Some (became l.dropped (with_life row l.at inf)))
    × Keeps p waiting starts made
    (opens ++ record { key = key_of l.stream l.sync cells; state = record { start = l.at; dropped = l.dropped } } ∷ []) given
HasEntered End l cells p waiting starts made opens given answer =
    HasClosed l.stream l.other l.at cells p waiting starts made opens given answer (first_of (is_named (key_of l.stream l.other cells)) opens)
