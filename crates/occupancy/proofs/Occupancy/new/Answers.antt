use Rattle.std.proofs.Common.{refl, ap₂, arith}
use Rattle.occupancy.proofs.Places.{seen, clean_none, no_bits}
use Rattle.occupancy.proofs.Occupancy.new.Goals as goal

pub returns : goal.returns
returns c = ap₂ seen (no_bits c.in_ok-with_capacity.field-0.items) refl

pub invariant_of-result : goal.invariant_of-result
invariant_of-result c =
    let e = c.in_ok-with_capacity.ensures in
    (record { enough = omega arith; needed = omega (arith, e.len); within = omega arith; reserved = omega (arith, e.capacity, c.div_ceil.ensures) }, clean_none c.in_ok-with_capacity.field-0.items e.items)
