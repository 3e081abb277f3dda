use Rattle.std.proofs.Common.{◌∙◌, ap, not, sym}
use Rattle.edge_history.specs.Opens.{is_start}
use Rattle.sweep_sides.proofs.KeptSides.{part_fails}
use Rattle.sweep_sides.proofs.saving.are_starts.Goals as goal

pub returns-then-is_end : goal.returns-then-is_end
returns-then-is_end c =
    part_fails is_start c.args.part c.args.saved.now c.entries-entries.result.now c.loop-entry.entry-index c.entry-item.result
    c.entries-entries.ensures c.loop-entry-test.true c.entry-item.is c.if-entry-part.true (ap not (sym c.is_end.ensures ∙ c.if-is_end.true))
