use Rattle.std.proofs.Common.{◌≡◌, ◌<◌, ◌+◌, ◌-◌, ◌*◌, ◌/◌, ◌%◌, ◌^◌, ◌++◌, ◌∷◌, [], length, set, sym, ap, ap₂, ◌∙◌, subst, arith, rules, w64, Fits, vec_len, vec_capacity}
use Rattle.std.proofs.lemmas.List.{get_or_read}
use lib.Bits.{bit_or}
use Rattle.occupancy.specs.Bits.{bits_of, word_bits, IsClean, IsRoomy}
use Rattle.occupancy.proofs.Places.{bits_pushed, clean_pushed, bits_set, clean_set, seen, seen_length, one_bit, bool_small}
use Rattle.occupancy.proofs.Occupancy.push.Goals as goal
use Rattle.occupancy.proofs.Occupancy.push.Goals.{then-place-eq0, else-place-eq0}

pub push_reserved-requires : goal.push_reserved-requires
push_reserved-requires c =
    let v = c.self.inside in
    let h = seen_length v.words.items v.len v.capacity _ c.self.view_is in
    let i = c.self.invariant.0 in
    let k = v.words.ok.0 in
    omega (arith, i.enough, i.needed, i.within, i.reserved)

pub overflow_add-self : goal.overflow_add-self
overflow_add-self c =
    let v = c.self.inside in
    let h = seen_length v.words.items v.len v.capacity _ c.self.view_is in
    let i = c.self.invariant.0 in
    let k = v.words.ok.0 in
    let f : Fits w64 v.capacity = search rules in
    let e : c.if-place-eq0.self-inside.len ≡ v.len = elim c.if-place-eq0.branch [ then-place-eq0 w ↦ ap (λ s. s.len) w.self-inside-is | else-place-eq0 w ↦ ap (λ s. s.len) w.self-inside-is ] in
    record { fits = omega (arith, f.fits, i.within) }

pub returns : goal.returns
returns c =
    let v = c.self.inside in
    let h = seen_length v.words.items v.len v.capacity _ c.self.view_is in
    let i = c.self.invariant.0 in
    let k = v.words.ok.0 in
    elim c.if-place-eq0.branch [
      | then-place-eq0 w ↦
          let n : v.len ≡ 64 * length v.words.items = omega (arith, i.enough, i.needed, w.if-place-eq0.true) in
          ap (λ s. seen (bits_of s.words.items (s.len + 1)) s.capacity) w.self-inside-is
          ∙ ap₂ seen
          (ap (λ ws. bits_of ws (v.len + 1)) w.push_reserved.ensures.items ∙ sym (bits_pushed v.words.items w.from.result v.len 1 n (omega arith))
          ∙ ap₂ (λ b bs. b.items ++ bs) c.self.view_is (ap (λ x. word_bits x 1) w.from.ensures ∙ one_bit c.args.bit))
          h.1
      | else-place-eq0 w ↦
          let p : w.len-last.result - 1 < length v.words.items = omega (arith, i.enough, i.needed, w.if-place-eq0.false) in
          let q : v.len / 64 ≡ w.len-last.result - 1 = omega (arith, i.enough, i.needed, w.if-place-eq0.false) in
          ap (λ s. seen (bits_of s.words.items (s.len + 1)) s.capacity) w.self-inside-is
          ∙ ap₂ seen
          (ap₂ (λ a f. bits_of (set v.words.items (w.len-last.result - 1) (bit_or a (f * 2 ^ (v.len % 64) % 2 ^ 64))) (v.len + 1)) (get_or_read v.words.items _ _ p w.index_mut.ensures.value 0) w.from-else-place-eq0.ensures
          ∙ sym (bits_set v.words.items v.len (w.len-last.result - 1) c.args.bit p q c.self.invariant.1) ∙ ap (λ b. b.items ++ c.args.bit ∷ []) c.self.view_is)
          h.1
    ]

pub invariant_of-self : goal.invariant_of-self
invariant_of-self c =
    let v = c.self.inside in
    let h = seen_length v.words.items v.len v.capacity _ c.self.view_is in
    let i = c.self.invariant.0 in
    let k = v.words.ok.0 in
    elim c.if-place-eq0.branch [
      | then-place-eq0 w ↦
          let n : v.len ≡ 64 * length v.words.items = omega (arith, i.enough, i.needed, w.if-place-eq0.true) in
          subst (λ s. IsRoomy (vec_len s.words) (vec_capacity s.words) (s.len + 1) s.capacity × IsClean s.words.items (s.len + 1)) (sym w.self-inside-is) (
            record { enough = omega (arith, i.enough, w.push_reserved.ensures.len); needed = omega (arith, w.push_reserved.ensures.len); within = omega arith; reserved = omega (arith, i.reserved, w.push_reserved.ensures.capacity) },
            subst (λ ws. IsClean ws (v.len + 1)) (sym w.push_reserved.ensures.items)
                (clean_pushed v.words.items w.from.result v.len 1 n (omega arith) (subst (λ x. x < 2 ^ 1) (sym w.from.ensures) (bool_small c.args.bit))),
          )
      | else-place-eq0 w ↦
          let p : w.len-last.result - 1 < length v.words.items = omega (arith, i.enough, i.needed, w.if-place-eq0.false) in
          let q : v.len / 64 ≡ w.len-last.result - 1 = omega (arith, i.enough, i.needed, w.if-place-eq0.false) in
          subst (λ s. IsRoomy (vec_len s.words) (vec_capacity s.words) (s.len + 1) s.capacity × IsClean s.words.items (s.len + 1)) (sym w.self-inside-is) (
            record { enough = omega (arith, i.enough, i.needed, w.if-place-eq0.false); needed = omega (arith, i.needed); within = omega arith; reserved = omega (arith, i.reserved) },
            subst (λ ws. IsClean ws (v.len + 1))
                (sym (ap₂ (λ a f. set v.words.items (w.len-last.result - 1) (bit_or a (f * 2 ^ (v.len % 64) % 2 ^ 64))) (get_or_read v.words.items _ _ p w.index_mut.ensures.value 0) w.from-else-place-eq0.ensures))
                (clean_set v.words.items v.len (w.len-last.result - 1) c.args.bit p q c.self.invariant.1),
          )
    ]
