use Rattle.std.proofs.Common.{◌∙◌, ap, set}
use Rattle.std.specs.Prelude.{slice_get}
use Rattle.batch.specs.Rows.{Row}
use Rattle.batch.specs.Columns.{rows_of}
use Rattle.batch.proofs.Tables.{rows_of-times}
use Rattle.batch.proofs.Views.{columns_of, table_is, rows_are, capacity_is, kinds_are, sync_place, other_place}
use Rattle.batch.proofs.batch.Batch.set_times.Goals as goal

pub set-requires : goal.set-requires
set-requires c = sync_place c.self.inside c.args.self.now c.self.view_is c.self.invariant c.args.i c.requires

pub set-requires-2 : goal.set-requires-2
set-requires-2 c = other_place c.self.inside c.args.self.now c.self.view_is c.self.invariant c.args.i c.requires

pub returns : goal.returns
returns c r found =
    let rows = rows_are c.self.inside c.args.self.now c.self.view_is c.self.invariant in
    let moved : Row = record r { sync = c.args.sync; other = c.args.other } in
    table_is _ _ _ _
    ((λ i. rows_of (record (columns_of c.self.inside) { sync = (c.set.ensures i).items; other = (c.set-2.ensures i).items }))
    ∙ (λ i. rows_of (record (columns_of c.self.inside) { sync = set c.self.inside.sync.items c.args.i (c.word.ensures.word i); other = set c.self.inside.other.items c.args.i (c.word-2.ensures.word i) }))
    ∙ rows_of-times c.self.inside.sync.capacity (columns_of c.self.inside) c.args.i c.args.sync c.args.other r c.self.invariant.columns (sync_place c.self.inside c.args.self.now c.self.view_is c.self.invariant c.args.i c.requires) (ap (λ rs. slice_get rs c.args.i) rows ∙ found)
    ∙ ap (λ rs. set rs c.args.i moved) rows)
    (ap (λ v. v.capacity) c.set.ensures ∙ capacity_is c.self.inside c.args.self.now c.self.view_is c.self.invariant)
    (kinds_are c.self.inside c.args.self.now c.self.view_is c.self.invariant)
