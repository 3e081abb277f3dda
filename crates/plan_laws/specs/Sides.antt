-- What the operators of these nodes keep of both sides.
use Rattle.std.specs.Prelude.{◌≡◌, ℕ, ◌≤◌, List}
use Rattle.tw_rows.specs.Instant.{inf}
use Rattle.tw_rows.specs.declared.edge.Edge.{Edge}
use Rattle.edge_history.specs.Order.{Rises, failing, is_real, is_below, IsHistory}
use Rattle.plan_laws.specs.Places.{EdgesArePlaced}

-- the edges that came in on the left, which is closed up to x, and on the right, up to y, are histories with places in the table;
-- those that were answered are in order, and below the closing. Of a Delay of 2, closed up to 4, those below 6
pub record KeepsSides (texts : List (List ℕ)) (x y closing : ℕ) (left right out : List Edge) : Type 0 where
  pub left_history : IsHistory left
  pub right_history : IsHistory right
  pub left_placed : EdgesArePlaced texts left
  pub right_placed : EdgesArePlaced texts right
  pub left_low : x ≤ inf
  pub right_low : y ≤ inf
  pub order : Rises 0 out
  pub real : failing is_real out ≡ 0
  pub below : failing (is_below closing) out ≡ 0
