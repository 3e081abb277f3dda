use Rattle.std.proofs.Common.{not, sym, ap, ◌∙◌}
use Rattle.temporal_join.specs.Lives.{ends_at}
use Rattle.temporal_join.proofs.Living.{passes_more, unequal}
use Rattle.temporal_join.proofs.lives.place_of.Goals as goal

pub loop-i-preserved : goal.loop-i-preserved
loop-i-preserved c =
    let x = c.index-lives-i.result in
    passes_more (λ l. not (ends_at c.args.t l)) c.args.lives.now c.loop-i.i x c.loop-i-test.true c.index-lives-i.is (unequal (ends_at c.args.t x) (c.if-eq.ensures ∙ ap (ends_at c.args.t) (sym c.index-lives-i.is))) c.loop-i.invariant
