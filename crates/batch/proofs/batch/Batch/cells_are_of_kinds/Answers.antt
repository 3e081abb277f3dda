use Rattle.batch.proofs.Placing.{kinds_of_rows}
use Rattle.batch.proofs.batch.Batch.cells_are_of_kinds.Goals as goal

pub returns : goal.returns
returns c = kinds_of_rows c.self.inside c.args.self.now c.self.view_is c.self.invariant
