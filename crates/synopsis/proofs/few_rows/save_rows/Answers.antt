use Rattle.std.specs.Prelude.{◌++◌}
use Rattle.std.proofs.Common.{◌∙◌, ap}
use Rattle.std.proofs.lemmas.List.{take_all}
use Rattle.edge_stream.specs.Entries.{entries_of}
use Rattle.sweep_laws.specs.Saving.{starts_of}
use Rattle.synopsis.specs.Marked.{held_rows}
use Rattle.synopsis.proofs.Saved.{row_saved}
use Rattle.synopsis.proofs.few_rows.save_rows.Goals as goal

pub loop-row-preserved : goal.loop-row-preserved
loop-row-preserved c =
    row_saved c.args.part c.args.rows.now c.loop-row.row-index c.row-item.result _ c.args.saved.now c.loop-row.saved c.save_row.new.saved c.loop-row-test.true c.row-item.is c.loop-row.invariant c.in_ok-save_row.ensures

pub returns : goal.returns
returns c =
    c.loop-row.invariant ∙ ap (λ l. c.args.saved.now ++ entries_of c.args.part (starts_of (held_rows l))) (take_all c.loop-row.row-index c.args.rows.now c.loop-row-test.false)
