-- Groups, whatever their keys and the rows of their keys are.
use Rattle.std.specs.Prelude.{◌≡◌, ℕ, ◌+◌, ◌≤◌, Bool, Option, List}
use Rattle.tw_rows.specs.Bag.{total}
use Rattle.tw_rows.specs.declared.cells.Datum.{Datum}
use Rattle.tw_rows.specs.declared.edge.Edge.{Edge}
use Rattle.tw_rows.specs.declared.edge.HeldRow.{HeldRow}
use Rattle.edge_history.specs.Opens.{ended_rows, started_rows}
use Rattle.key_nodes.specs.Runs.{Tells as KeyTells}
use Rattle.key_nodes.specs.Groups.{IsGroupRow}
use Rattle.sweep_laws.specs.Grouping.{DependsOnKey}

-- P of any groups: of a key of each row, a test that tells keys apart, a row of each key that its rows alone make, and a mark of
-- undefined keys, which their rows alone tell. With the first column as the key and a count of its rows it is P of these
abbrev pub OfAnyGroup : (K : Type 0) →
    ((List Datum → K) → (K → K → Bool) → (K → List (List Datum) → Option (List Datum)) → (K → List (List Datum) → Bool) → Type 0) → Type 0
OfAnyGroup K P =
    (key : List Datum → K) (same : K → K → Bool) → KeyTells same →
    (tell : K → List (List Datum) → Option (List Datum)) → IsGroupRow key same tell →
    (bad : K → List (List Datum) → Bool) → DependsOnKey key same bad → P key same tell bad

-- where all rows that end by the edges are among the rows, the later rows are without them, and with those that start. Of the rows
-- 4 and 7, an end of 7 and a start of 9 the later rows are 4 and 9
abbrev pub MovesOn : List Edge → List HeldRow → List HeldRow → Type 0
MovesOn now rows later =
    ((w : HeldRow → ℕ) → total w (ended_rows now) ≤ total w rows) →
    (w : HeldRow → ℕ) → total w later + total w (ended_rows now) ≡ total w rows + total w (started_rows now)
