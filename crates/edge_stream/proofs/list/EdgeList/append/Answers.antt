use Rattle.std.proofs.Common.{map, List, ◌≡◌, ◌++◌, ◌∷◌, [], ◌∙◌, ap, sym, subst}
use Rattle.std.specs.Prelude.{OnOk}
use Rattle.tw_rows.specs.Cells.{datum_kind}
use Rattle.tw_rows.specs.declared.cells.Datum.{Datum}
use Rattle.edge_history.specs.Order.{KeepsOrder}
use Rattle.edge_stream.specs.Listing.{appended}
use Rattle.edge_stream.proofs.list.EdgeList.append.Goals as goal

pub append_cells-requires-clause-kinds : goal.append_cells-requires-clause-kinds
append_cells-requires-clause-kinds c = ap (map datum_kind) c.items.ensures ∙ c.requires.kinds

pub append_cells-requires-clause-order : goal.append_cells-requires-clause-order
append_cells-requires-clause-order c =
    let edge = c.args.edge.now in
    let P : List Datum → Type 0 = λ cells. KeepsOrder (c.args.self.now.edges ++ record { sync = edge.sync; other = edge.other; cells = cells } ∷ []) in
    subst P (sym c.items.ensures) c.requires.order

pub returns-clause-ok : goal.returns-clause-ok
returns-clause-ok c =
    let edge = c.args.edge.now in
    let P : List Datum → Type 0 = λ cells. OnOk c.append_cells.result (c.append_cells.new.self ≡ appended c.args.self.now (record { sync = edge.sync; other = edge.other; cells = cells })) in
    subst P c.items.ensures c.append_cells.ensures.ok
