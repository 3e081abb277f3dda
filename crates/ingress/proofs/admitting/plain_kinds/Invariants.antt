use Rattle.std.proofs.Common.{◌≡◌, map, take}
use Rattle.ingress.specs.Fits.{plain}
use Rattle.ingress.proofs.admitting.plain_kinds.Given as goal

abbrev pub invariant-loop-column : goal.invariant-loop-column
invariant-loop-column l = l.kinds.items ≡ map (λ c. plain c.kind) (take l.column-index l.column-items)
