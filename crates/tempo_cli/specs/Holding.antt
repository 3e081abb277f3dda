-- Text that is held while lines of a read are still to be taken.
use Rattle.std.specs.Prelude.{◌≡◌, ℕ, List, ◌++◌}
use Rattle.std.specs.List.{All}
use Rattle.wire_lines.specs.Journal.{Entry, outs, IsOut}

-- what was due stands behind what was held: some of both went out, in that order, and the rest is held
pub record HoldsOn (before due after : List ℕ) (O : List Entry) : Type 0 where
  pub outs_alone : All IsOut O
  pub all : outs O ++ after ≡ before ++ due
