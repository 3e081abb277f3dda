use Rattle.std.proofs.Common.{◌≡◌, length, sym, ap, ◌∙◌, arith}
use Rattle.occupancy.proofs.Places.{length-bits_of}
use Rattle.occupancy.proofs.Occupancy.len.Goals as goal

pub returns-clause-len : goal.returns-clause-len
returns-clause-len c =
    let h : length c.args.self.now.items ≡ c.self.inside.len = sym (ap (λ b. length b.items) c.self.view_is) ∙ length-bits_of c.self.inside.words.items c.self.inside.len in
    sym h

pub returns-clause-within : goal.returns-clause-within
returns-clause-within c =
    let h : length c.args.self.now.items ≡ c.self.inside.len = sym (ap (λ b. length b.items) c.self.view_is) ∙ length-bits_of c.self.inside.words.items c.self.inside.len in
    let e : c.self.inside.capacity ≡ c.args.self.now.capacity = ap (λ b. b.capacity) c.self.view_is in
    omega (arith, c.self.invariant.0.within)
