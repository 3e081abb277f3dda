use Rattle.std.proofs.Common.{◌∙◌, sym}
use Rattle.batch.proofs.Views.{length_is, within_is}
use Rattle.batch.proofs.batch.Batch.rows.Goals as goal

pub returns-clause-rows : goal.returns-clause-rows
returns-clause-rows c = c.len.ensures.len ∙ sym (length_is c.self.inside c.args.self.now c.self.view_is c.self.invariant)

pub returns-clause-within : goal.returns-clause-within
returns-clause-within c = within_is c.self.inside c.args.self.now c.self.view_is c.self.invariant c.len.ensures.within
