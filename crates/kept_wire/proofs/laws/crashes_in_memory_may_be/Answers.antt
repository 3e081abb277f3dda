use Rattle.std.proofs.Common.{◌∷◌}
use Rattle.kept_wire.proofs.Earlier.{one_of_them}
use Rattle.kept_wire.proofs.laws.crashes_in_memory_may_be.Goals as goal

pub returns : goal.returns
returns c = λ d back torn left is. one_of_them (d.file ∷ d.earlier) back torn left is
