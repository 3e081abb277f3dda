-- The lists before this one are of rows of their shards.
use Rattle.std.proofs.Common.{◌<◌, ℕ, List, get_or}
use Rattle.edge_stream.specs.declared.saved.SavedEntry.{SavedEntry}
use Rattle.shard_apply.specs.Saving.{AreRowsOf}
use Rattle.shard_apply.proofs.sharded.Sharded.are_own.Given as goal

abbrev pub invariant-loop-i : goal.invariant-loop-i
invariant-loop-i g l = (s : ℕ) (e : List SavedEntry) → s < l.i →
    AreRowsOf g.O.Operator.row_of_part l.keys.count l.keys.left.now l.keys.right.now l.keys.first.now s (get_or l.saved s e)
