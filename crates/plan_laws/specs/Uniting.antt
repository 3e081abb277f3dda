-- What the operator of a Union keeps.
use Rattle.std.specs.Prelude.{ℕ, min, List, ◌++◌, filter}
use Rattle.tw_rows.specs.Bag.{SameBag}
use Rattle.tw_rows.specs.declared.edge.Edge.{Edge}
use Rattle.edge_history.specs.Order.{is_below, is_from}
use Rattle.plan_laws.specs.Sides.{KeepsSides}

-- of the edges that came in, on the left below x and on the right below y, those below the lesser of both have been answered as
-- they came, and the others are carried, each side by itself. Where the left is closed up to 4 and the right up to 7, a right
-- start at 3 has been answered, and one at 5 is carried
pub record KeepsUnion (texts : List (List ℕ)) (x y : ℕ) (left_carried right_carried left right out : List Edge) : Type 0 where
  pub sides : KeepsSides texts x y (min x y) left right out
  pub told : SameBag out (filter (is_below (min x y)) left ++ filter (is_below (min x y)) right)
  pub left_waits : SameBag left_carried (filter (is_from (min x y)) left)
  pub right_waits : SameBag right_carried (filter (is_from (min x y)) right)
