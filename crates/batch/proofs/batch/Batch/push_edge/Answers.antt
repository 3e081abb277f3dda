use Rattle.std.proofs.Common.{map, ◌≡◌, ◌++◌, ◌∷◌, [], List, ap, subst, ◌∙◌}
use Rattle.std.specs.Prelude.{OnOk}
use Rattle.tw_rows.specs.Cells.{datum_kind}
use Rattle.tw_rows.specs.declared.cells.Datum.{Datum}
use Rattle.batch.specs.Rows.{row_of}
use Rattle.batch.proofs.batch.Batch.push_edge.Goals as goal

pub push_row-requires : goal.push_row-requires
push_row-requires c = ap (map datum_kind) c.items.ensures ∙ c.requires

pub returns-clause-ok : goal.returns-clause-ok
returns-clause-ok c =
    let old = c.args.self.now in
    let edge = c.args.edge.now in
    let P : List Datum → Type 0 = λ cells. OnOk c.push_row.result (c.push_row.new.self ≡ record old { rows = old.rows ++ row_of (record { sync = edge.sync; other = edge.other; cells = cells }) ∷ [] }) in
    subst P c.items.ensures c.push_row.ensures.ok
