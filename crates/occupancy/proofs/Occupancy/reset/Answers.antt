use Rattle.std.proofs.Common.{ap₂, arith}
use Rattle.occupancy.proofs.Places.{seen, seen_length, clean_none, no_bits}
use Rattle.occupancy.proofs.Occupancy.reset.Goals as goal

pub returns : goal.returns
returns c =
    let v = c.self.inside in
    let h = seen_length v.words.items v.len v.capacity _ c.self.view_is in
    let i = c.self.invariant.0 in
    let k = v.words.ok.0 in
    ap₂ seen (no_bits c.clear.new.self.items) h.1

pub invariant_of-self : goal.invariant_of-self
invariant_of-self c =
    let v = c.self.inside in
    let h = seen_length v.words.items v.len v.capacity _ c.self.view_is in
    let i = c.self.invariant.0 in
    let k = v.words.ok.0 in
    (record { enough = omega arith; needed = omega (arith, c.clear.ensures.len); within = omega arith; reserved = omega (arith, i.reserved, c.clear.ensures.capacity) }, clean_none c.clear.new.self.items c.clear.ensures.items)
