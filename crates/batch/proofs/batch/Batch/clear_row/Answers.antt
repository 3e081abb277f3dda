use Rattle.std.proofs.Common.{◌∙◌, ap, set, false}
use Rattle.std.specs.Prelude.{slice_get}
use Rattle.batch.specs.Rows.{Row}
use Rattle.batch.specs.Columns.{rows_of}
use Rattle.batch.proofs.Tables.{rows_of-clear}
use Rattle.batch.proofs.Views.{columns_of, table_is, rows_are, capacity_is, kinds_are, sync_place, occupied_place}
use Rattle.batch.proofs.batch.Batch.clear_row.Goals as goal

pub clear_at-requires : goal.clear_at-requires
clear_at-requires c = occupied_place c.self.inside c.args.self.now c.self.view_is c.self.invariant c.args.i c.requires

pub returns : goal.returns
returns c r found =
    let rows = rows_are c.self.inside c.args.self.now c.self.view_is c.self.invariant in
    let cleared : Row = record r { occupied = false } in
    table_is _ _ _ _
    ((λ i. rows_of (record (columns_of c.self.inside) { occupied = (c.clear_at.ensures i).items }))
    ∙ rows_of-clear c.self.inside.sync.capacity (columns_of c.self.inside) c.args.i r c.self.invariant.columns (sync_place c.self.inside c.args.self.now c.self.view_is c.self.invariant c.args.i c.requires) (ap (λ rs. slice_get rs c.args.i) rows ∙ found)
    ∙ ap (λ rs. set rs c.args.i cleared) rows)
    (capacity_is c.self.inside c.args.self.now c.self.view_is c.self.invariant)
    (kinds_are c.self.inside c.args.self.now c.self.view_is c.self.invariant)
