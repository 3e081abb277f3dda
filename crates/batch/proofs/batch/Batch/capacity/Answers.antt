use Rattle.batch.proofs.Views.{within_is}
use Rattle.batch.proofs.batch.Batch.capacity.Goals as goal

pub returns-clause-within : goal.returns-clause-within
returns-clause-within c = within_is c.self.inside c.args.self.now c.self.view_is c.self.invariant c.capacity.ensures.within
