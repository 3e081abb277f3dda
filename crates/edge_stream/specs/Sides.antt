-- The edges on one side of a time.
use Rattle.std.specs.Prelude.{ℕ, Bool, List, map}
use Rattle.tw_rows.specs.declared.edge.Edge.{Edge}
use Rattle.batch.specs.Rows.{Row, edge_of}
use Rattle.edge_stream.specs.declared.cut.Side.{Side}
use Rattle.edge_stream.specs.declared.cut.Side.TheVariants.{Below, From}
use Rattle.edge_history.specs.Order.{is_below, is_from}

-- the edge lies on this side of t
abbrev pub is_on_side : Side → ℕ → Edge → Bool
is_on_side Below t e = is_below t e
is_on_side From t e = is_from t e

-- for each row, whether its edge lies on this side of t
abbrev pub side_bits : Side → ℕ → List Row → List Bool
side_bits side t rows = map (λ r. is_on_side side t (edge_of r)) rows
