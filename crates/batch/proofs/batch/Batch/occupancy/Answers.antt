use Rattle.std.proofs.Common.{◌∙◌, sym}
use Rattle.batch.proofs.Views.{bits_are, bits_of_rows, capacity_is}
use Rattle.batch.proofs.batch.Batch.occupancy.Goals as goal

pub returns : goal.returns
returns c = bits_are _ _ (sym (bits_of_rows c.self.inside c.args.self.now c.self.view_is c.self.invariant)) (c.self.invariant.occupied_room ∙ capacity_is c.self.inside c.args.self.now c.self.view_is c.self.invariant)
