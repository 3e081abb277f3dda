use Rattle.std.proofs.Common.{◌∙◌, ap, set}
use Rattle.std.specs.Prelude.{slice_get}
use Rattle.batch.specs.Rows.{Row}
use Rattle.batch.specs.Columns.{rows_of}
use Rattle.batch.proofs.Tables.{rows_of-mark}
use Rattle.batch.proofs.Views.{columns_of, table_is, rows_are, capacity_is, kinds_are, sync_place, key_place, hash_place}
use Rattle.batch.proofs.batch.Batch.mark.Goals as goal

pub set-requires : goal.set-requires
set-requires c = key_place c.self.inside c.args.self.now c.self.view_is c.self.invariant c.args.i c.requires

pub set-requires-2 : goal.set-requires-2
set-requires-2 c = hash_place c.self.inside c.args.self.now c.self.view_is c.self.invariant c.args.i c.requires

pub returns : goal.returns
returns c r found =
    let rows = rows_are c.self.inside c.args.self.now c.self.view_is c.self.invariant in
    let marked : Row = record r { key = c.args.key; hash = c.args.hash } in
    table_is _ _ _ _
    ((λ i. rows_of (record (columns_of c.self.inside) { key = (c.set.ensures i).items; hash = (c.set-2.ensures i).items }))
    ∙ rows_of-mark c.self.inside.sync.capacity (columns_of c.self.inside) c.args.i c.args.key c.args.hash r c.self.invariant.columns (sync_place c.self.inside c.args.self.now c.self.view_is c.self.invariant c.args.i c.requires) (ap (λ rs. slice_get rs c.args.i) rows ∙ found)
    ∙ ap (λ rs. set rs c.args.i marked) rows)
    (capacity_is c.self.inside c.args.self.now c.self.view_is c.self.invariant)
    (kinds_are c.self.inside c.args.self.now c.self.view_is c.self.invariant)
