-- What an operator keeps whose node knows a new lifetime at its start.
use Rattle.std.specs.Prelude.{ℕ, List}
use Rattle.tw_rows.specs.Bag.{SameBag}
use Rattle.tw_rows.specs.declared.edge.Edge.{Edge}
use Rattle.plan_model.specs.declared.node.Node.{Node}
use Rattle.plan_model.specs.Meaning.{node_closes}
use Rattle.plan_laws.specs.Answers.{answered_at, carried_at}
use Rattle.plan_laws.specs.Sides.{KeepsSides}

-- of the edges that came in, on the left below x and on the right below y, those that came early enough have been answered,
-- and the others are carried. Of a Delay of 2, closed up to 4, a start at 3 has been answered as one at 5, and one at 4
-- is carried
pub record KeepsLives (n : Node) (texts : List (List ℕ)) (x y : ℕ) (carried left right out : List Edge) : Type 0 where
  pub sides : KeepsSides texts x y (node_closes n x y) left right out
  pub told : SameBag out (answered_at n x left)
  pub waits : SameBag carried (carried_at n x left)
