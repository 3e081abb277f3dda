-- The entries before this one are of rows of the shard.
use Rattle.std.proofs.Common.{take}
use Rattle.shard_apply.specs.Saving.{AreRowsOf}
use Rattle.shard_apply.proofs.loading.are_rows_of.Given as goal

abbrev pub invariant-loop-entry : goal.invariant-loop-entry
invariant-loop-entry g l =
    AreRowsOf g.O.Operator.row_of_part l.keys.count l.keys.left.now l.keys.right.now l.keys.first.now l.number (take l.entry-index l.entry-items)
