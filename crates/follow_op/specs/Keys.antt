-- What stays of a Follow.
use Rattle.std.specs.Prelude.{◌≡◌}
use Rattle.follow_op.specs.declared.rows.FollowRows.{FollowRows}

-- the keys and the time stay
pub record SameKeys (old new : FollowRows) : Type 0 where
  pub left : new.left.key ≡ old.left.key
  pub right : new.right_key.columns ≡ old.right_key.columns
  pub within : new.within ≡ old.within
