use Rattle.std.proofs.Common.{◌≡◌, ◌+◌, ◌*◌, ◌++◌, length, sym, ap, ap₂, ◌∙◌, subst, arith, rules, w64, Fits}
use Rattle.occupancy.specs.Bits.{bits_of, word_bits, IsClean}
use Rattle.occupancy.proofs.Places.{bits_pushed, clean_pushed, seen, seen_length}
use Rattle.occupancy.proofs.Occupancy.push_word.Goals as goal

pub push_reserved-requires : goal.push_reserved-requires
push_reserved-requires c =
    let v = c.self.inside in
    let h = seen_length v.words.items v.len v.capacity _ c.self.view_is in
    let i = c.self.invariant.0 in
    let k = v.words.ok.0 in
    omega (arith, i.enough, i.needed, i.within, i.reserved)

pub overflow_add-self : goal.overflow_add-self
overflow_add-self c =
    let v = c.self.inside in
    let h = seen_length v.words.items v.len v.capacity _ c.self.view_is in
    let i = c.self.invariant.0 in
    let k = v.words.ok.0 in
    let f : Fits w64 v.capacity = search rules in
    record { fits = omega (arith, f.fits, i.within) }

pub returns : goal.returns
returns c =
    let v = c.self.inside in
    let h = seen_length v.words.items v.len v.capacity _ c.self.view_is in
    let i = c.self.invariant.0 in
    let k = v.words.ok.0 in
    let n : v.len ≡ 64 * length v.words.items = omega (arith, i.enough, i.needed) in
    ap₂ seen
    (ap (λ ws. bits_of ws (v.len + c.args.count)) c.push_reserved.ensures.items ∙ sym (bits_pushed v.words.items c.args.word v.len c.args.count n c.requires.few) ∙ ap (λ b. b.items ++ word_bits c.args.word c.args.count) c.self.view_is)
    h.1

pub invariant_of-self : goal.invariant_of-self
invariant_of-self c =
    let v = c.self.inside in
    let h = seen_length v.words.items v.len v.capacity _ c.self.view_is in
    let i = c.self.invariant.0 in
    let k = v.words.ok.0 in
    let n : v.len ≡ 64 * length v.words.items = omega (arith, i.enough, i.needed) in (
      record { enough = omega (arith, i.enough); needed = omega arith; within = omega arith; reserved = omega (arith, i.reserved) },
      subst (λ ws. IsClean ws (v.len + c.args.count)) (sym c.push_reserved.ensures.items) (clean_pushed v.words.items c.args.word v.len c.args.count n c.requires.few c.requires.clean),
    )
