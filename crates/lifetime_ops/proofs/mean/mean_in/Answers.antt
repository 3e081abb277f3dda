use Rattle.std.proofs.Common.{◌∙◌, Bool, sym, ap, cond}
use Rattle.plan_laws.specs.Keeping.{plain_cells}
use Rattle.plan_model.specs.CellOps.{datum_int}
use Rattle.plan_model.specs.Means.{mean_of as mean_of_int}
use Rattle.tw_rows.specs.declared.cells.Datum.{Datum}
use Rattle.lifetime_ops.proofs.Means.{any_swapped}
use Rattle.lifetime_ops.proofs.mean.mean_in.Goals as goal

pub returns-then-contains : goal.returns-then-contains
returns-then-contains c =
    let chosen : Bool → Datum = λ b. cond b (mean_of_int plain_cells (datum_int c.args.count) c.args.datum) c.args.datum in
    c.mean_of.ensures ∙ ap chosen (sym c.if-contains.true ∙ c.contains.ensures.value ∙ any_swapped c.args.column c.args.at.now)

pub returns-else-contains : goal.returns-else-contains
returns-else-contains c =
    let chosen : Bool → Datum = λ b. cond b (mean_of_int plain_cells (datum_int c.args.count) c.args.datum) c.args.datum in
    ap chosen (sym c.if-contains.false ∙ c.contains.ensures.value ∙ any_swapped c.args.column c.args.at.now)
