use Rattle.std.proofs.Common.{sym, ap, subst, arith, refl}
use Rattle.tw_rows.specs.Bag.{total}
use Rattle.edge_history.specs.Opens.{started_rows}
use Rattle.sweep_laws.specs.Sweeps.{IsDue}
use Rattle.temporal_join.proofs.sides.JoinSides.finish.Goals as goal

pub returns-clause-finished : goal.returns-clause-finished
returns-clause-finished c =
    let l = c.in_ok-left.ensures in
    let r = c.in_ok-right.ensures in
    let s = c.in_ok-sweep.ensures in
    let k = s.keys in
    record {
      left_due = c.in_ok-left.left.items;
      right_due = c.in_ok-right.right.items;
      left = record {
        parts = λ w. (let a = l.parts w in omega (arith, a));
        below = l.below;
        order = l.order;
        rest = l.rest;
        timed = l.timed;
        rows = λ w. (let a = s.left_rows w in let b = ap (λ x. total w (started_rows x)) c.as_mut_slice.ensures.value in omega (arith, a, b));
      };
      right = record {
        parts = λ w. (let a = r.parts w in omega (arith, a));
        below = r.below;
        order = r.order;
        rest = r.rest;
        timed = r.timed;
        rows = λ w. (let a = s.right_rows w in let b = ap (λ x. total w (started_rows x)) c.as_mut_slice-2.ensures.value in omega (arith, a, b));
      };
      swept = λ a b from by dl dr h. s.swept a b from c.args.to by (subst (IsDue a from c.args.to) (sym c.as_mut_slice.ensures.value) dl) (subst (IsDue b from c.args.to) (sym c.as_mut_slice-2.ensures.value) dr) h;
      few = refl;
      columns = record { left_key = k.left_key; right_key = k.right_key; few_left_key = refl; few_right_key = refl; left = k.left; right = k.right; few_left = refl; few_right = refl };
    }
