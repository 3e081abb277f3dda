use Rattle.std.proofs.Common.{◌≡◌, ◌<◌, ◌/◌, ◌%◌, ◌^◌, ◌==◌, ℕ, List, length, get_or, refl, sym, ap, ◌∙◌, arith}
use Rattle.std.proofs.lemmas.List.{get_or_read}
use lib.Bits.{bit_and}
use Rattle.occupancy.specs.Bits.{bit_of, test, is_set_at}
use Rattle.occupancy.proofs.Places.{seen_length, by_place}
use Rattle.std.proofs.lemmas.Nat.Bits.{shr_and_one}
use Rattle.occupancy.proofs.Occupancy.is_set.Goals as goal

pub index-requires : goal.index-requires
index-requires c =
    let v = c.self.inside in
    let h = seen_length v.words.items v.len v.capacity _ c.self.view_is in
    let i = c.self.invariant.0 in
    let k = v.words.ok.0 in
    omega (arith, i.enough)

test_is : (w k : ℕ) → (bit_and (w / 2 ^ k) 1 == 1) ≡ test w k
unfolding test
test_is w k = ap (λ x. x == 1) (shr_and_one w k)

place_is : (words : List ℕ) (k : ℕ) → test (get_or words (k / 64) 0) (k % 64) ≡ bit_of words k
unfolding bit_of
place_is words k = refl

pub returns : goal.returns
returns c =
    let v = c.self.inside in
    let h = seen_length v.words.items v.len v.capacity _ c.self.view_is in
    let i = c.self.invariant.0 in
    let k = v.words.ok.0 in
    let p : c.args.i / 64 < length v.words.items = omega (arith, i.enough) in
    test_is c.index.result.now (c.args.i % 64)
    ∙ ap (λ w. test w (c.args.i % 64)) (get_or_read v.words.items (c.args.i / 64) c.index.result.now p c.index.ensures 0)
    ∙ place_is v.words.items c.args.i ∙ sym (by_place v.words.items v.len c.args.i c.self.invariant.1) ∙ ap (λ b. is_set_at b.items c.args.i) c.self.view_is
