use Rattle.std.specs.Prelude.{◌<◌}
use Rattle.std.proofs.Common.{subst, arith}
use Rattle.ingress.specs.Slices.{all_below}
use Rattle.ingress.proofs.held_streams.HeldStreams.last_within.Goals as goal

pub returns-clause-more : goal.returns-clause-more
returns-clause-more c =
    let i = c.steps.invariant in
    let t = c.steps-test.false in
    let a = i.apart in
    subst (λ n. c.args.batch < all_below n c.args.self.now.waiting.items) (omega (arith, t, a)) i.more
