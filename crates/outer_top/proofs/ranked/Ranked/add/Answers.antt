-- What is answered by hand of the proof of ranked::Ranked::add.
use Rattle.std.specs.Prelude.{[], ◌∷◌}
use Rattle.std.proofs.Common.{arith, ◌∙◌, ap}
use Rattle.tw_rows.specs.Bag.{total}
use Rattle.tw_rows.proofs.Bags.{total-append}
use Rattle.outer_top.proofs.Moving.{hidden_put_or, shown_put, one_more, bare_more}
use Rattle.outer_top.proofs.ranked.Ranked.add.Goals as goal

pub invariant_of-self : goal.invariant_of-self
invariant_of-self c =
    let s = c.args.self.now in
    record {
      apart = hidden_put_or s.shown.entries s.hidden.entries c.put_row.new.groups.entries c.args.rank c.put_row.result c.put_row.ensures.keys c.put_row.ensures.err s.apart (c.is_low.ensures.low c.if-is_low.true s.shown.entries s.apart);
      counted = s.counted;
    }

pub invariant_of-self-2 : goal.invariant_of-self-2
invariant_of-self-2 c =
    let s = c.args.self.now in
    let e = c.in_ok-count.ensures in
    let n = one_more s.shown.entries c.put_row-2.new.groups.entries c.args.row c.in_ok-put_row-2.ensures.weighs in
    let k = s.counted in
    record {
      apart = shown_put s.shown.entries c.put_row-2.new.groups.entries s.hidden.entries c.args.rank c.in_ok-put_row-2.ensures.keys s.apart (c.is_low.ensures.high c.if-is_low.false);
      counted = omega (arith, e, n, k);
    }

pub returns-clause-won : goal.returns-clause-won
returns-clause-won c = λ w.
    let s = c.args.self.now in
    let b = bare_more s.shown.entries c.put_row-2.new.groups.entries c.args.row c.in_ok-put_row-2.ensures.weighs w in
    let p = ap (total w) c.in_ok-push.ensures.items ∙ total-append w c.args.won.now.items (c.in_ok-clone.field-0 ∷ []) in
    let q = ap w c.in_ok-clone.ensures.cases in
    omega (arith, b, p, q)
