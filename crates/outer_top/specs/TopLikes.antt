-- What stays of the rows of a top.
use Rattle.std.specs.Prelude.{◌≡◌}
use Rattle.outer_top.specs.declared.tops.Tops.{Tops}

-- the key columns, the column that decides, and how many are shown stay
pub record IsLike (old new : Tops) : Type 0 where
  pub key : new.key.columns ≡ old.key.columns
  pub by : new.by ≡ old.by
  pub most : new.most ≡ old.most
