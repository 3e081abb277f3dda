use Rattle.edge_stream.proofs.CarriedParts.{stored_at}
use Rattle.edge_stream.proofs.entries.is_stored_as.Goals as goal

pub returns-then-not-stores : goal.returns-then-not-stores
returns-then-not-stores c =
    (λ h. absurd (cc), λ same. c.if-not-stores.ensures.1 (stored_at c.args.cells.now c.args.kinds.now c.loop-i.i _ _ c.loop-i-test.true same))
