-- What a sweep answers.
use Rattle.std.specs.Prelude.{◌≡◌, ℕ, ◌&&◌, Bool, List, map, All}
use Rattle.tw_rows.specs.Cells.{datum_kind}
use Rattle.tw_rows.specs.declared.edge.Edge.{Edge}
use Rattle.tw_rows.specs.declared.kind.CellKind.{CellKind}
use Rattle.edge_history.specs.Order.{failing, is_below, is_from, KeepsOrder}

-- the edge comes at c or later, and below d: at 5, from 3 on and below 6
abbrev pub is_between : ℕ → ℕ → Edge → Bool
is_between c d e = is_from c e && is_below d e

-- edges that a list with such columns may hold, and that come at c or later and below d
pub record FitsList (kinds : List CellKind) (c d : ℕ) (edges : List Edge) : Type 0 where
  pub order : KeepsOrder edges
  pub cells : All (λ e. map datum_kind e.cells ≡ kinds) edges
  pub between : failing (is_between c d) edges ≡ 0
