use Rattle.std.proofs.Common.{◌≡◌, ◌<◌, ◌*◌, ◌/◌, ◌%◌, ◌^◌, true, length, get_or, set, ap, ap₂, ◌∙◌, subst, arith}
use Rattle.std.proofs.lemmas.List.{get_or_read}
use lib.Bits.{bit_or}
use Rattle.occupancy.proofs.Places.{seen, seen_length}
use Rattle.occupancy.proofs.Writing.{IsWritten, set_bit, bits_written, clean_written}
use Rattle.occupancy.proofs.Occupancy.set.Goals as goal

pub index_mut-requires : goal.index_mut-requires
index_mut-requires c =
    let v = c.self.inside in
    let h = seen_length v.words.items v.len v.capacity _ c.self.view_is in
    let i = c.self.invariant.0 in
    let k = v.words.ok.0 in
    omega (arith, i.enough)

pub invariant_of-self : goal.invariant_of-self
invariant_of-self c =
    let v = c.self.inside in
    let h = seen_length v.words.items v.len v.capacity _ c.self.view_is in
    let i = c.self.invariant.0 in
    let k = v.words.ok.0 in
    let p : c.args.i / 64 < length v.words.items = omega (arith, i.enough) in
    let e : c.index_mut.result.now ≡ get_or v.words.items (c.args.i / 64) 0 = get_or_read v.words.items (c.args.i / 64) c.index_mut.result.now p c.index_mut.ensures.value 0 in
    let w : IsWritten (bit_or c.index_mut.result.now (1 * 2 ^ (c.args.i % 64) % 2 ^ 64)) (get_or v.words.items (c.args.i / 64) 0) (c.args.i % 64) true =
    subst (λ x. IsWritten (bit_or c.index_mut.result.now (1 * 2 ^ (c.args.i % 64) % 2 ^ 64)) x (c.args.i % 64) true) e (set_bit c.index_mut.result.now (c.args.i % 64) (omega arith)) in (
      record { enough = omega (arith, i.enough); needed = omega (arith, i.needed); within = omega (arith, i.within); reserved = omega (arith, i.reserved) },
      clean_written v.words.items v.len c.args.i _ true (omega arith) (omega (arith, i.enough)) w c.self.invariant.1,
    )

pub returns : goal.returns
returns c =
    let v = c.self.inside in
    let h = seen_length v.words.items v.len v.capacity _ c.self.view_is in
    let i = c.self.invariant.0 in
    let k = v.words.ok.0 in
    let p : c.args.i / 64 < length v.words.items = omega (arith, i.enough) in
    let e : c.index_mut.result.now ≡ get_or v.words.items (c.args.i / 64) 0 = get_or_read v.words.items (c.args.i / 64) c.index_mut.result.now p c.index_mut.ensures.value 0 in
    let w : IsWritten (bit_or c.index_mut.result.now (1 * 2 ^ (c.args.i % 64) % 2 ^ 64)) (get_or v.words.items (c.args.i / 64) 0) (c.args.i % 64) true =
    subst (λ x. IsWritten (bit_or c.index_mut.result.now (1 * 2 ^ (c.args.i % 64) % 2 ^ 64)) x (c.args.i % 64) true) e (set_bit c.index_mut.result.now (c.args.i % 64) (omega arith)) in
    ap₂ seen
    (bits_written v.words.items v.len c.args.i _ true (omega arith) (omega (arith, i.enough)) w ∙ ap (λ b. set b.items c.args.i true) c.self.view_is)
    h.1
