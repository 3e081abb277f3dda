use Rattle.std.proofs.Common.{◌∙◌, ap}
use Rattle.std.specs.Prelude.{slice_get}
use Rattle.batch.proofs.Views.{hash_place, hashes_of_rows}
use Rattle.batch.proofs.batch.Batch.hash_at.Goals as goal

pub get-requires : goal.get-requires
get-requires c = hash_place c.self.inside c.args.self.now c.self.view_is c.self.invariant c.args.i c.requires

pub returns : goal.returns
returns c = ap (λ xs. slice_get xs c.args.i) (hashes_of_rows c.self.inside c.args.self.now c.self.view_is c.self.invariant) ∙ c.get.ensures
