use Rattle.std.proofs.Common.{◌≡◌, ◌<◌, ◌*◌, ◌/◌, ◌%◌, ◌^◌, false, length, get_or, set, ap, ap₂, ◌∙◌, subst, arith, w64}
use Rattle.std.proofs.lemmas.List.{get_or_read}
use Rattle.std.specs.Int.{bit_not}
use lib.Bits.{bit_and}
use Rattle.occupancy.proofs.Places.{seen, seen_length}
use Rattle.occupancy.proofs.Writing.{IsWritten, cleared_bit, bits_written, clean_written}
use Rattle.occupancy.proofs.Occupancy.clear_at.Goals as goal

pub index_mut-requires : goal.index_mut-requires
index_mut-requires c =
    let v = c.self.inside in
    let h = seen_length v.words.items v.len v.capacity _ c.self.view_is in
    let i = c.self.invariant.0 in
    let k = v.words.ok.0 in
    omega (arith, i.enough)

pub invariant_of-self : goal.invariant_of-self
invariant_of-self c =
    let v = c.self.inside in
    let h = seen_length v.words.items v.len v.capacity _ c.self.view_is in
    let i = c.self.invariant.0 in
    let k = v.words.ok.0 in
    let p : c.args.i / 64 < length v.words.items = omega (arith, i.enough) in
    let e : c.index_mut.result.now ≡ get_or v.words.items (c.args.i / 64) 0 = get_or_read v.words.items (c.args.i / 64) c.index_mut.result.now p c.index_mut.ensures.value 0 in
    let w : IsWritten (bit_and c.index_mut.result.now (bit_not w64 (1 * 2 ^ (c.args.i % 64) % 2 ^ 64))) (get_or v.words.items (c.args.i / 64) 0) (c.args.i % 64) false =
    subst (λ x. IsWritten (bit_and c.index_mut.result.now (bit_not w64 (1 * 2 ^ (c.args.i % 64) % 2 ^ 64))) x (c.args.i % 64) false) e (cleared_bit c.index_mut.result.now (c.args.i % 64) (omega arith)) in (
      record { enough = omega (arith, i.enough); needed = omega (arith, i.needed); within = omega (arith, i.within); reserved = omega (arith, i.reserved) },
      clean_written v.words.items v.len c.args.i _ false (omega arith) (omega (arith, i.enough)) w c.self.invariant.1,
    )

pub returns : goal.returns
returns c =
    let v = c.self.inside in
    let h = seen_length v.words.items v.len v.capacity _ c.self.view_is in
    let i = c.self.invariant.0 in
    let k = v.words.ok.0 in
    let p : c.args.i / 64 < length v.words.items = omega (arith, i.enough) in
    let e : c.index_mut.result.now ≡ get_or v.words.items (c.args.i / 64) 0 = get_or_read v.words.items (c.args.i / 64) c.index_mut.result.now p c.index_mut.ensures.value 0 in
    let w : IsWritten (bit_and c.index_mut.result.now (bit_not w64 (1 * 2 ^ (c.args.i % 64) % 2 ^ 64))) (get_or v.words.items (c.args.i / 64) 0) (c.args.i % 64) false =
    subst (λ x. IsWritten (bit_and c.index_mut.result.now (bit_not w64 (1 * 2 ^ (c.args.i % 64) % 2 ^ 64))) x (c.args.i % 64) false) e (cleared_bit c.index_mut.result.now (c.args.i % 64) (omega arith)) in
    ap₂ seen
    (bits_written v.words.items v.len c.args.i _ false (omega arith) (omega (arith, i.enough)) w ∙ ap (λ b. set b.items c.args.i false) c.self.view_is)
    h.1
