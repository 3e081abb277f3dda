use Rattle.std.proofs.Common.{◌≡◌, ◌≤◌, ◌<◌, ℕ, List, length, get_or, sym, ap, ap₂, ◌∙◌, subst, arith, ◌⊎◌, inl, inr}
use Rattle.std.proofs.lemmas.List.{get_or_past}
use Rattle.std.proofs.lemmas.Bool.{cases_lt}
use lib.Bits.{bit_and}
use Rattle.occupancy.specs.Bits.{bits_of, both, IsClean}
use Rattle.occupancy.proofs.Places.{seen, seen_length, bits_and, clean_and}
use Rattle.occupancy.proofs.Occupancy.and_mask.Goals as goal

pub index_mut-requires : goal.index_mut-requires
index_mut-requires c =
    let v = c.self.inside in
    let h = seen_length v.words.items v.len v.capacity _ c.self.view_is in
    let i = c.self.invariant.0 in
    let k = v.words.ok.0 in
    let m = c.mask.inside in
    let g = seen_length m.words.items m.len m.capacity _ c.mask.view_is in
    omega (arith, i.enough, i.needed, c.mask.invariant.0.enough, c.mask.invariant.0.needed, c.loop-w.invariant.words, m.words.ok.0, ap length c.deref-kept-items.ensures.value)

-- word by word, and past the words too
each_word : (vs ws ms : List ℕ) (w : ℕ) → length ws ≤ w → ((k : ℕ) → k < w → get_or vs k 0 ≡ bit_and (get_or ws k 0) (get_or ms k 0)) → ((k : ℕ) → w ≤ k → get_or vs k 0 ≡ get_or ws k 0) → (k : ℕ) → get_or vs k 0 ≡ bit_and (get_or ws k 0) (get_or ms k 0)
each_word vs ws ms w le done rest k = at (cases_lt k w)
  where
    at : (k < w) ⊎ (w ≤ k) → get_or vs k 0 ≡ bit_and (get_or ws k 0) (get_or ms k 0)
    at (inl lt) = done k lt
    at (inr more) =
        let z : get_or ws k 0 ≡ 0 = get_or_past ws k 0 (omega arith) in
        rest k more ∙ z ∙ ap (λ x. bit_and x (get_or ms k 0)) (sym z)

pub invariant_of-self : goal.invariant_of-self
invariant_of-self c =
    let v = c.self.inside in
    let h = seen_length v.words.items v.len v.capacity _ c.self.view_is in
    let i = c.self.invariant.0 in
    let k = v.words.ok.0 in
    let r = c.loop-w.invariant in
    let m = c.mask.inside in
    let g = seen_length m.words.items m.len m.capacity _ c.mask.view_is in
    let le : length v.words.items ≤ c.loop-w.w = omega (arith, i.enough, i.needed, c.mask.invariant.0.enough, c.mask.invariant.0.needed, c.deref-kept-items.ensures.len) in
    let e = each_word c.loop-w.self-inside.words.items v.words.items c.deref-kept-items.result.now c.loop-w.w le r.done r.rest in (
      record { enough = omega (arith, i.enough); needed = omega (arith, i.needed); within = omega (arith, i.within); reserved = omega (arith, i.reserved) },
      subst (IsClean c.loop-w.self-inside.words.items) (sym r.len) (clean_and v.words.items c.deref-kept-items.result.now c.loop-w.self-inside.words.items e v.len c.self.invariant.1),
    )

pub returns : goal.returns
returns c =
    let v = c.self.inside in
    let h = seen_length v.words.items v.len v.capacity _ c.self.view_is in
    let i = c.self.invariant.0 in
    let k = v.words.ok.0 in
    let r = c.loop-w.invariant in
    let m = c.mask.inside in
    let g = seen_length m.words.items m.len m.capacity _ c.mask.view_is in
    let le : length v.words.items ≤ c.loop-w.w = omega (arith, i.enough, i.needed, c.mask.invariant.0.enough, c.mask.invariant.0.needed, c.deref-kept-items.ensures.len) in
    let e = each_word c.loop-w.self-inside.words.items v.words.items c.deref-kept-items.result.now c.loop-w.w le r.done r.rest in
    let same : v.len ≡ m.len = omega arith in
    ap₂ seen
    (ap (bits_of c.loop-w.self-inside.words.items) r.len ∙ bits_and v.words.items c.deref-kept-items.result.now c.loop-w.self-inside.words.items e v.len
    ∙ ap₂ both (ap (λ b. b.items) c.self.view_is) (ap₂ bits_of c.deref-kept-items.ensures.value same ∙ ap (λ b. b.items) c.mask.view_is))
    (r.capacity ∙ h.1)
