use Rattle.std.proofs.Common.{◌∙◌}
use Rattle.batch.proofs.Views.{count_of_rows}
use Rattle.batch.proofs.batch.Batch.occupied.Goals as goal

pub returns : goal.returns
returns c = c.count.ensures ∙ count_of_rows c.self.inside c.args.self.now c.self.view_is c.self.invariant
