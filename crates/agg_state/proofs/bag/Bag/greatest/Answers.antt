use Rattle.std.specs.Prelude.{◌≡◌, Some, true, false}
use Rattle.std.proofs.Common.{ap, arith}
use Rattle.std.proofs.lemmas.Int.{ints}
use Rattle.agg_state.proofs.Bags.{last_is_greatest, none_there}
use Rattle.agg_state.proofs.bag.Bag.greatest.Goals as goal

pub returns-in_err-value : goal.returns-in_err-value
returns-in_err-value c = λ bag h low.
    let w : false ≡ true = c.in_err-value.ensures.variant.1 (none_there c.args.self.now.counts c.args.self.now.len bag h low) in
    absurd (cc)

pub returns : goal.returns
returns c = λ bag h low.
    let e = last_is_greatest c.args.self.now.counts c.args.self.now.len bag c.in_ok-value.value.now _ h c.in_ok-value.ensures.value c.in_ok-value.ensures.greatest in
    ap Some (omega (arith, ints, e))
