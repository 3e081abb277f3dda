-- Rows that are shown: when they began, and that they are among those that are kept.
use Rattle.std.specs.Prelude.{◌≡◌, ℕ, ◌<◌, ◌&&◌, nat_lt, Bool, List}
use Rattle.tw_rows.specs.declared.cells.Datum.{Datum}
use Rattle.tw_rows.specs.declared.edge.Edge.{Edge}
use Rattle.tw_rows.specs.declared.edge.HeldRow.{HeldRow}
use Rattle.edge_history.specs.Order.{failing}

-- the row began before a time, and its cells pass a test
abbrev pub has_begun : ℕ → (List Datum → Bool) → HeldRow → Bool
has_begun to p r = nat_lt r.start to && p r.cells

-- a test that all rows and all edges pass is passed by the rows that are shown, which began at t or before
abbrev pub QueuesFit : ℕ → List HeldRow → List Edge → List HeldRow → List HeldRow → Type 0
QueuesFit t kept now old new = (to : ℕ) (p : List Datum → Bool) → t < to → failing (λ x. p x.cells) now ≡ 0 → failing (λ r. p r.cells) kept ≡ 0 →
    failing (has_begun to p) old ≡ 0 → failing (has_begun to p) new ≡ 0
