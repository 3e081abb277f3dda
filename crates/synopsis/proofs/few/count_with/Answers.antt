use Rattle.std.proofs.Common.{sym, ap, ◌∙◌}
use Rattle.synopsis.specs.Held.{is_of_key}
use Rattle.synopsis.proofs.Together.{all_more}
use Rattle.synopsis.proofs.few.count_with.Goals as goal

pub loop-i-preserved : goal.loop-i-preserved
loop-i-preserved c =
    let p = is_of_key c.args.columns.now c.args.key.now in
    all_more p c.args.rest.now c.loop-i.i c.index-rest-i.result c.loop-i-test.true c.loop-i.invariant (ap p (sym c.index-rest-i.is) ∙ (sym c.has_key.ensures ∙ c.if-not-has_key.false))
