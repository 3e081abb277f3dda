use Rattle.std.proofs.Common.{◌∙◌, sym, subst, inl, inr, arith}
use Rattle.synopsis.specs.Buckets.{rows_in, AreKeyed}
use Rattle.synopsis.proofs.Keyed.{ones}
use Rattle.synopsis.proofs.Places.{no_buckets, none_few}
use Rattle.synopsis.proofs.synopsis.Synopsis.take.Goals as goal

pub overflow_sub-self : goal.overflow_sub-self
overflow_sub-self c =
    let a = c.take.ensures.taken c.if-not-take.false (λ r. 1) in
    let y = ones c.self.inside.few.rows in
    let n = c.self.invariant.counted in
    omega (arith, a, y, n)

pub invariant_of-self-then-is_empty : goal.invariant_of-self-then-is_empty
invariant_of-self-then-is_empty c =
    let es = c.self.inside.buckets.entries in
    let held = c.self.invariant in
    let a = c.take.ensures.taken c.if-not-take.false (λ r. 1) in
    let x = ones c.take.new.self.rows in
    let y = ones c.self.inside.few.rows in
    let n = held.counted in
    record {
      keyed = held.keyed;
      alike = c.take.ensures.columns ∙ held.alike;
      one = inr (no_buckets es (c.is_empty.ensures.0 c.if-is_empty.true));
      counted = omega (arith, a, x, y, n);
    }

pub overflow_sub-self-2 : goal.overflow_sub-self-2
overflow_sub-self-2 c =
    let a = c.take_keyed.ensures.taken c.if-not-take_keyed.false (λ r. 1) in
    let y = ones (rows_in c.self.inside.buckets.entries) in
    let n = c.self.invariant.counted in
    omega (arith, a, y, n)

pub invariant_of-self-2 : goal.invariant_of-self-2
invariant_of-self-2 c =
    let key = c.self.inside.key.columns in
    let old = c.self.inside.buckets.entries in
    let es = c.take_keyed.new.buckets.entries in
    let held = c.self.invariant in
    let a = c.take_keyed.ensures.taken c.if-not-take_keyed.false (λ r. 1) in
    let x = ones (rows_in es) in
    let y = ones (rows_in old) in
    let n = held.counted in
    record {
      keyed = subst (λ k. AreKeyed k es) (sym c.take_keyed.ensures.columns) (c.take_keyed.ensures.keyed key held.keyed);
      alike = held.alike ∙ sym c.take_keyed.ensures.columns;
      one = inl (none_few key c.self.inside.few old c.self.inside.count held (λ z. absurd (cc (c.is_empty.ensures.1 z, c.if-is_empty.false))));
      counted = omega (arith, a, x, y, n);
    }
