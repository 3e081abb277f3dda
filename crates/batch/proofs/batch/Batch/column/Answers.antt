use Rattle.std.proofs.Common.{◌∙◌, ap, sym, length, arith, get_or}
use Rattle.std.proofs.lemmas.List.{length-map}
use Rattle.batch.specs.Payloads.{payload_kind}
use Rattle.batch.proofs.Views.{cells_of_rows, kinds_are}
use Rattle.batch.proofs.batch.Batch.column.Goals as goal

pub returns-clause-cells : goal.returns-clause-cells
returns-clause-cells c =
    let long = sym (length-map c.self.inside.payload.items payload_kind) ∙ ap length (kinds_are c.self.inside c.args.self.now c.self.view_is c.self.invariant) in
    cells_of_rows c.self.inside c.args.self.now c.self.view_is c.self.invariant c.args.c c.index-as_slice-c.result (omega (arith, long, c.requires))
    (c.index-as_slice-c.is ∙ ap (λ xs. get_or xs c.args.c c.index-as_slice-c.result) c.as_slice.ensures)
