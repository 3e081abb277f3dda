use Rattle.std.specs.Prelude.{◌≡◌, Result, Ok, Err, IfOk, OnErr}
use Rattle.std.proofs.Common.{◌∙◌, ap}
use Rattle.batch.specs.PoolsView.{PoolsView}
use Rattle.edge_stream.specs.Listing.{EdgeListView, cells_of}
use Rattle.edge_stream.specs.Taking.{batches_taken, AreBatchesTaken}
use Rattle.edge_stream.proofs.Filling.{batches_taken-capacity}
use Rattle.edge_stream.proofs.Pools.{some-capacity}
use Rattle.shard_apply.proofs.shard.part_of.Goals as goal

either : {E : Type 0} (r : Result EdgeListView E) (l : EdgeListView) (old new : PoolsView) →
    IfOk r (λ part. new ≡ batches_taken part.batches old (cells_of l)) → OnErr r (AreBatchesTaken old new (cells_of l)) → new.capacity ≡ old.capacity
either (Ok part) l old new all some = ap (λ s. s.capacity) all ∙ batches_taken-capacity part.batches old (cells_of l)
either (Err e) l old new all some = some-capacity old new (cells_of l) some

pub returns-clause-pools : goal.returns-clause-pools
returns-clause-pools c =
    either c.copy_where.result c.args.list.now c.args.pools.now c.copy_where.new.pools c.copy_where.ensures.pools c.copy_where.ensures.err_pools
