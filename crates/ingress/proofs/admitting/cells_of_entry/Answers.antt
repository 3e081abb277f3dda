use Rattle.std.proofs.Common.{ap, sym, ◌∙◌}
use Rattle.row_reader.specs.declared.entry.Entry.TheVariants.{Event}
use Rattle.ingress.proofs.admitting.cells_of_entry.Goals as goal

pub returns-in_ok-cells-in-Event-clause-same : goal.returns-in_ok-cells-in-Event-clause-same
returns-in_ok-cells-in-Event-clause-same c = ap (Event c.in-Event.stream c.in-Event.form c.in-Event.sync c.in-Event.other) c.in_ok-cells-in-Event.ensures.read ∙ sym c.in-Event.is
