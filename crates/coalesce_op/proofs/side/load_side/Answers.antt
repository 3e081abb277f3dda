use Rattle.edge_stream.specs.Entries.{part_of}
use Rattle.sweep_laws.specs.Saving.{rows_of}
use Rattle.synopsis.proofs.OpenRows.{same_rows}
use Rattle.sweep_sides.proofs.KeptSides.{side_loaded}
use Rattle.coalesce_op.proofs.side.load_side.Goals as goal

pub returns-clause-side : goal.returns-clause-side
returns-clause-side c = λ kinds to sound.
    let starts = part_of 0 c.args.saved.now in
    let waits = c.in_ok-load_waiting.ensures in
    side_loaded kinds to c.in_ok-load.field-0 c.in_ok-load_waiting.field-0 starts (part_of 1 c.args.saved.now) (same_rows c.in_ok-load.field-0 (rows_of starts) c.in_ok-load.ensures)
    waits.edges waits.timed sound.rows sound.waiting
