use Rattle.std.specs.Prelude.{◌≡◌, Result, Ok, Err, IfOk, OnErr, List}
use Rattle.std.proofs.Common.{◌∙◌, ap}
use Rattle.tw_rows.specs.declared.kind.CellKind.{CellKind}
use Rattle.batch.specs.PoolsView.{PoolsView}
use Rattle.edge_stream.specs.Listing.{EdgeListView, cells_of}
use Rattle.edge_stream.specs.Taking.{batches_taken, AreBatchesTaken}
use Rattle.edge_stream.proofs.Filling.{batches_taken-capacity}
use Rattle.edge_stream.proofs.Pools.{some-capacity, some-limit, batches_taken-limit}
use Rattle.shard_apply.proofs.gather.merged.Goals as goal

capacity_of : {E : Type 0} (r : Result EdgeListView E) (kinds : List CellKind) (old new : PoolsView) →
    IfOk r (λ list. new ≡ batches_taken list.batches old (cells_of list)) → OnErr r (AreBatchesTaken old new kinds) → new.capacity ≡ old.capacity
capacity_of (Ok list) kinds old new all some = ap (λ s. s.capacity) all ∙ batches_taken-capacity list.batches old (cells_of list)
capacity_of (Err e) kinds old new all some = some-capacity old new kinds some

limit_of : {E : Type 0} (r : Result EdgeListView E) (kinds : List CellKind) (old new : PoolsView) →
    IfOk r (λ list. new ≡ batches_taken list.batches old (cells_of list)) → OnErr r (AreBatchesTaken old new kinds) → new.limit ≡ old.limit
limit_of (Ok list) kinds old new all some = ap (λ s. s.limit) all ∙ batches_taken-limit list.batches old (cells_of list)
limit_of (Err e) kinds old new all some = some-limit old new kinds some

pub returns-clause-pools : goal.returns-clause-pools
returns-clause-pools c = capacity_of c.merged.result _ c.args.pools.now c.merged.new.pools c.merged.ensures.pools c.merged.ensures.err_pools

pub returns-clause-limit : goal.returns-clause-limit
returns-clause-limit c = limit_of c.merged.result _ c.args.pools.now c.merged.new.pools c.merged.ensures.pools c.merged.ensures.err_pools
