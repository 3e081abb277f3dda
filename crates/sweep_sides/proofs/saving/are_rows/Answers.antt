use Rattle.std.proofs.Common.{◌∙◌, map, sym}
use Rattle.tw_rows.specs.Kinds.{cell_kind_of}
use Rattle.sweep_laws.specs.Saving.{is_row_start}
use Rattle.sweep_sides.proofs.KeptSides.{part_fails}
use Rattle.sweep_sides.proofs.saving.are_rows.Goals as goal

pub returns-then-not-starts_row : goal.returns-then-not-starts_row
returns-then-not-starts_row c =
    part_fails (is_row_start (map cell_kind_of c.args.kinds.now) c.args.to) c.args.part c.args.saved.now c.entries-entries.result.now c.loop-entry.entry-index c.entry-item.result
    c.entries-entries.ensures c.loop-entry-test.true c.entry-item.is c.if-entry-part.true (sym c.starts_row.ensures ∙ c.if-not-starts_row.true)
