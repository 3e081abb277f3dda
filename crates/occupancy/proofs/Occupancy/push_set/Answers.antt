use Rattle.std.proofs.Common.{◌≡◌, ◌+◌, ◌-◌, ◌%◌, ◌++◌, ◌∙◌, true, refl, ap, sym, subst, append_assoc, arith}
use Rattle.std.specs.Prelude.{replicate}
use Rattle.std.proofs.lemmas.List.{replicate-append-replicate}
use Rattle.occupancy.specs.Bits.{test, word_bits}
use Rattle.occupancy.proofs.Places.{seen_length}
use Rattle.occupancy.proofs.Occupancy.push_set.Goals as goal

full_word : word_bits 18446744073709551615 64 ≡ replicate 64 true
unfolding test
full_word = refl

pub push_word-requires-clause-aligned : goal.push_word-requires-clause-aligned
push_word-requires-clause-aligned c =
    let v = c.self.inside in
    let long = seen_length v.words.items v.len v.capacity _ c.self.view_is in
    let whole = c.if-self-eq0.true in
    subst (λ n. n % 64 ≡ 0) (sym long.0) whole

pub words-preserved : goal.words-preserved
words-preserved c =
    let before = c.words.invariant in
    let some = c.words-test.true in
    let more : c.args.count - c.words.left + 64 ≡ c.args.count - (c.words.left - 64) = omega (arith, before.few, some) in
    record {
      few = omega (arith, before.few);
      items = ap (λ b. b.items) c.push_word.ensures ∙ ap (λ l. l ++ word_bits 18446744073709551615 64) before.items
          ∙ ap (λ l. (c.args.self.now.items ++ replicate (c.args.count - c.words.left) true) ++ l) full_word
          ∙ append_assoc c.args.self.now.items (replicate (c.args.count - c.words.left) true) (replicate 64 true)
          ∙ ap (λ l. c.args.self.now.items ++ l) (replicate-append-replicate (c.args.count - c.words.left) 64 true ∙ ap (λ n. replicate n true) more);
      capacity = ap (λ b. b.capacity) c.push_word.ensures ∙ before.capacity;
    }
