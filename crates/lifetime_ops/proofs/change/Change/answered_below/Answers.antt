use Rattle.lifetime_ops.proofs.change.Change.answered_below.Goals as goal

pub returns-in-Hop : goal.returns-in-Hop
returns-in-Hop c = rw c.in-Hop.is c.floor.ensures
