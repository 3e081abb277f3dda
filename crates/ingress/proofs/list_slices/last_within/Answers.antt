use Rattle.std.specs.Prelude.{◌+◌, ◌<◌}
use Rattle.std.proofs.Common.{subst, arith}
use Rattle.ingress.specs.Slices.{edges_of, count_below}
use Rattle.ingress.proofs.Listed.{comes_later}
use Rattle.ingress.proofs.list_slices.last_within.Goals as goal

pub returns-then-branch : goal.returns-then-branch
returns-then-branch c = record {
  low = c.requires;
  high = omega arith;
  few = c.in_ok-are_within.ensures.yes c.if-branch.true;
  more = λ early. absurd (omega (arith, early));
}

pub halves-init : goal.halves-init
halves-init c =
    let more = c.in_ok-are_within.ensures.no c.if-branch.false in
    record {
      from = omega arith;
      apart = comes_later c.args.from c.args.p (edges_of c.args.lists.now) (omega (arith, more));
      high = omega arith;
      few = omega arith;
      more = more;
    }

pub returns : goal.returns
returns c =
    let h = c.halves.invariant in
    let t = c.halves-test.false in
    record {
      low = h.from;
      high = (let a = h.apart in let b = h.high in omega (arith, a, b));
      few = h.few;
      more = λ _.
          let a = h.apart in
          subst (λ n. count_below c.args.from (edges_of c.args.lists.now) + c.args.batch < count_below n (edges_of c.args.lists.now)) (omega (arith, t, a)) h.more;
    }
