use Rattle.std.proofs.Common.{◌≡◌, take, nat_eq, false}
use Rattle.std.specs.List.{list_any}
use Rattle.sweep_sides.proofs.pairs.is_among.Given as goal

abbrev pub invariant-loop-c : goal.invariant-loop-c
invariant-loop-c l = list_any (nat_eq l.column) (take l.c-index l.columns) ≡ false
