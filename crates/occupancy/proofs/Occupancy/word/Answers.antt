use Rattle.std.proofs.Common.{◌<◌, ◌+◌, ◌*◌, length, sym, ap, ◌∙◌, arith}
use Rattle.std.proofs.lemmas.List.{get_or_read}
use Rattle.occupancy.specs.Bits.{test, is_set_at}
use Rattle.occupancy.proofs.Places.{seen_length, by_place, bit_in_word}
use Rattle.occupancy.proofs.Occupancy.word.Goals as goal

pub index-requires : goal.index-requires
index-requires c =
    let v = c.self.inside in
    let h = seen_length v.words.items v.len v.capacity _ c.self.view_is in
    let i = c.self.invariant.0 in
    let k = v.words.ok.0 in
    omega (arith, i.enough)

pub returns : goal.returns
returns c j lt =
    let v = c.self.inside in
    let h = seen_length v.words.items v.len v.capacity _ c.self.view_is in
    let i = c.self.invariant.0 in
    let k = v.words.ok.0 in
    let within : c.args.w < length v.words.items = omega (arith, i.enough) in
    ap (λ w. test w j) (get_or_read v.words.items c.args.w c.index.result.now within c.index.ensures 0) ∙ sym (bit_in_word v.words.items c.args.w j lt)
    ∙ sym (by_place v.words.items v.len (64 * c.args.w + j) c.self.invariant.1) ∙ ap (λ b. is_set_at b.items (64 * c.args.w + j)) c.self.view_is
