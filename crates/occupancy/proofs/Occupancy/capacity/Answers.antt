use Rattle.std.proofs.Common.{arith}
use Rattle.occupancy.proofs.Places.{seen_length}
use Rattle.occupancy.proofs.Occupancy.capacity.Goals as goal

pub returns-clause-capacity : goal.returns-clause-capacity
returns-clause-capacity c = let v = c.self.inside in (seen_length v.words.items v.len v.capacity _ c.self.view_is).1

pub returns-clause-within : goal.returns-clause-within
returns-clause-within c =
    let v = c.self.inside in
    let h = seen_length v.words.items v.len v.capacity _ c.self.view_is in
    omega (arith, c.self.invariant.0.within)
