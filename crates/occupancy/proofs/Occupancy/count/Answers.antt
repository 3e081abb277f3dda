use Rattle.std.proofs.Common.{◌+◌, ◌*◌, length, sym, ap, ◌∙◌, subst, arith, rules, w64, Fits}
use Rattle.occupancy.specs.Bits.{bits_of, IsClean}
use Rattle.occupancy.proofs.Places.{seen_length, no_bits}
use Rattle.occupancy.proofs.Counts.{set_in, count_more, count_within, count_all}
use Rattle.occupancy.proofs.Occupancy.count.Goals as goal

pub loop-word-init : goal.loop-word-init
loop-word-init c = sym (ap set_in (no_bits c.deref-word-items.result.now))

pub overflow_add-count : goal.overflow_add-count
overflow_add-count c =
    let v = c.self.inside in
    let h = seen_length v.words.items v.len v.capacity _ c.self.view_is in
    let i = c.self.invariant.0 in
    let k = v.words.ok.0 in
    let f : Fits w64 v.len = search rules in
    let ws = c.deref-word-items.result.now in
    let clean : IsClean ws v.len = subst (λ xs. IsClean xs v.len) (sym c.deref-word-items.ensures.value) c.self.invariant.1 in
    let more = count_more ws c.loop-word.word-index (c.type_inv.word-items c.loop-word.word-index).fits in
    record { fits = omega (arith, f.fits, more, count_within ws v.len (64 * (c.loop-word.word-index + 1)) clean, c.loop-word.invariant) }

pub loop-word-preserved : goal.loop-word-preserved
loop-word-preserved c = omega (arith, c.loop-word.invariant, count_more c.deref-word-items.result.now c.loop-word.word-index (c.type_inv.word-items c.loop-word.word-index).fits)

pub returns : goal.returns
returns c =
    let v = c.self.inside in
    let h = seen_length v.words.items v.len v.capacity _ c.self.view_is in
    let i = c.self.invariant.0 in
    let k = v.words.ok.0 in
    let ws = c.deref-word-items.result.now in
    let clean : IsClean ws v.len = subst (λ xs. IsClean xs v.len) (sym c.deref-word-items.ensures.value) c.self.invariant.1 in
    c.loop-word.invariant ∙ count_all ws v.len (64 * c.loop-word.word-index) (omega (arith, i.enough, ap length c.deref-word-items.ensures.value)) clean
    ∙ ap (λ xs. set_in (bits_of xs v.len)) c.deref-word-items.ensures.value ∙ ap (λ b. set_in b.items) c.self.view_is
