use Rattle.std.proofs.Common.{◌∙◌, sym, ap, subst, List, length, inl, inr, arith}
use Rattle.tw_rows.specs.declared.edge.HeldRow.{HeldRow}
use Rattle.synopsis.specs.Held.{key_of}
use Rattle.synopsis.specs.Buckets.{rows_in, AreKeyed}
use Rattle.synopsis.proofs.Keyed.{ones}
use Rattle.synopsis.proofs.Places.{no_buckets, none_few}
use Rattle.synopsis.proofs.synopsis.Synopsis.add.Goals as goal

pub invariant_of-self-then-not-is_empty : goal.invariant_of-self-then-not-is_empty
invariant_of-self-then-not-is_empty c =
    let key = c.self.inside.key.columns in
    let old = c.self.inside.buckets.entries in
    let es = c.put_row.new.buckets.entries in
    let held = c.self.invariant in
    let a = c.in_ok-put_row.ensures.rows (λ r. 1) in
    let x = ones (rows_in es) in
    let y = ones (rows_in old) in
    let n = held.counted in
    let m = c.in-Some.ensures in
    record {
      keyed = subst (λ k. AreKeyed k es) (sym c.write.ensures.columns)
          (c.in_ok-put_row.ensures.keyed key (c.values-key.ensures ∙ (c.write.ensures.values ∙ ap (key_of key) c.items.ensures)) held.keyed);
      alike = held.alike ∙ sym c.write.ensures.columns;
      one = inl (none_few key c.self.inside.few old c.self.inside.count held (λ z. absurd (cc (c.is_empty.ensures.1 z, c.if-not-is_empty.true))));
      counted = omega (arith, a, x, y, n, m);
    }

pub invariant_of-self-then-rows-lt-FEW : goal.invariant_of-self-then-rows-lt-FEW
invariant_of-self-then-rows-lt-FEW c =
    let es = c.self.inside.buckets.entries in
    let held = c.self.invariant in
    let a = c.in_ok-put.ensures.ok (λ r. 1) in
    let x = ones c.put.new.self.rows in
    let y = ones c.self.inside.few.rows in
    let n = held.counted in
    let m = c.in-Some.ensures in
    record {
      keyed = subst (λ k. AreKeyed k es) (sym c.write-then-rows-lt-FEW.ensures.columns) held.keyed;
      alike = c.in_ok-put.ensures.columns ∙ (held.alike ∙ sym c.write-then-rows-lt-FEW.ensures.columns);
      one = inr (no_buckets es (c.is_empty.ensures.0 c.if-not-is_empty.false));
      counted = omega (arith, a, x, y, n, m);
    }

pub invariant_of-self-2 : goal.invariant_of-self-2
invariant_of-self-2 c =
    let old = c.self.inside.buckets.entries in
    let es = c.in_ok-buckets.buckets.entries in
    let held = c.self.invariant in
    let a = c.in_ok-buckets.ensures.rows (λ r. 1) in
    let b = ap (λ (l : List HeldRow). length l) c.rows-few.ensures in
    let x = ones (rows_in es) in
    let y = ones c.rows-few.result.now in
    let z = ap (λ (l : List HeldRow). length l) c.clear.ensures.rows in
    let o = ap (λ l. length (rows_in l)) (no_buckets old (c.is_empty.ensures.0 c.if-not-is_empty.false)) in
    let n = held.counted in
    let m = c.in-Some.ensures in
    record {
      keyed = subst (λ k. AreKeyed k es) (sym c.in_ok-buckets.ensures.columns) c.in_ok-buckets.ensures.keyed;
      alike = c.clear.ensures.columns ∙ (held.alike ∙ sym c.in_ok-buckets.ensures.columns);
      one = inl c.clear.ensures.rows;
      counted = omega (arith, a, b, x, y, z, o, n, m);
    }
