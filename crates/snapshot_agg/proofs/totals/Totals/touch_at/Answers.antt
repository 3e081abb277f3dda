use Rattle.snapshot_agg.proofs.Touching.{key_stands}
use Rattle.snapshot_agg.proofs.totals.Totals.touch_at.Goals as goal

pub returns-then-self-instant-clause-touched : goal.returns-then-self-instant-clause-touched
returns-then-self-instant-clause-touched c = λ q. key_stands c.args.touched.now.items c.args.key.now q (c.requires.there c.if-self-instant.true)
