-- What contracts see of a pool.
use Rattle.std.specs.Prelude.{ℕ}

-- how many columns are free, how many may be at most, and the capacity of each
pub record PoolView : Type 0 where
  pub free : ℕ
  pub limit : ℕ
  pub capacity : ℕ
