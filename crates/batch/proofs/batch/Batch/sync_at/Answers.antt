use Rattle.std.proofs.Common.{◌∙◌, ap, sym}
use Rattle.std.specs.Prelude.{Some, slice_get}
use Rattle.batch.proofs.Views.{sync_place, sync_time, syncs_of_rows}
use Rattle.batch.proofs.batch.Batch.sync_at.Goals as goal

pub get-requires : goal.get-requires
get-requires c = sync_place c.self.inside c.args.self.now c.self.view_is c.self.invariant c.args.i c.requires

pub from_word-requires : goal.from_word-requires
from_word-requires c = sync_time c.self.inside c.args.self.now c.self.view_is c.self.invariant c.args.i c.get.result c.requires c.get.ensures

pub returns : goal.returns
returns c =
    ap (λ xs. slice_get xs c.args.i) (syncs_of_rows c.self.inside c.args.self.now c.self.view_is c.self.invariant) ∙ c.get.ensures ∙ ap Some (sym c.from_word.ensures)
