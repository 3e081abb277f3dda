use Rattle.std.proofs.Common.{◌∙◌, map, sym}
use Rattle.tw_rows.specs.Kinds.{cell_kind_of}
use Rattle.sweep_laws.specs.Saving.{may_wait}
use Rattle.sweep_sides.proofs.KeptSides.{part_fails}
use Rattle.sweep_sides.proofs.saving.can_wait.Goals as goal

pub returns-then-not-waits : goal.returns-then-not-waits
returns-then-not-waits c =
    part_fails (may_wait (map cell_kind_of c.args.kinds.now) c.args.from) c.args.part c.args.saved.now c.entries-entries.result.now c.loop-entry.entry-index c.entry-item.result
    c.entries-entries.ensures c.loop-entry-test.true c.entry-item.is c.if-entry-part.true (sym c.waits.ensures ∙ c.if-not-waits.true)
