-- The key columns of a clip.
use Rattle.std.specs.Prelude.{◌≡◌}
use Rattle.union_clip.specs.declared.sweep.ClipRows.{ClipRows}

-- the keys stay
pub record SameKeys (old new : ClipRows) : Type 0 where
  pub left : new.left.key ≡ old.left.key
  pub right : new.right_key.columns ≡ old.right_key.columns
