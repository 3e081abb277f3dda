use Rattle.std.proofs.Common.{sym, ap, ◌∙◌}
use Rattle.synopsis.specs.Held.{is_of_key}
use Rattle.synopsis.proofs.Together.{none_more}
use Rattle.synopsis.proofs.few.first_with.Goals as goal

pub loop-i-preserved : goal.loop-i-preserved
loop-i-preserved c =
    let p = is_of_key c.args.columns.now c.args.key.now in
    none_more p c.args.rows.now c.loop-i.i c.index-rows-i.result c.loop-i-test.true c.loop-i.invariant (ap p (sym c.index-rows-i.is) ∙ (sym c.is_found.ensures ∙ c.if-is_found.false))
