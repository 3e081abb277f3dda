-- The rows of both sides of a join.
use Rattle.std.specs.Prelude.{◌≡◌}
use Rattle.temporal_join.specs.declared.sweep.JoinRows.{JoinRows}

-- the rows of each side are found by its key
pub record AreByKey (r : JoinRows) : Type 0 where
  pub left : r.left.key ≡ r.left_key.items
  pub right : r.right.key ≡ r.right_key.items

-- the keys stay
pub record SameKeys (old new : JoinRows) : Type 0 where
  pub left_key : new.left_key ≡ old.left_key
  pub right_key : new.right_key ≡ old.right_key
  pub left : new.left.key ≡ old.left.key
  pub right : new.right.key ≡ old.right.key
