use Rattle.edge_stream.specs.Listing.{cells_of}
use Rattle.dataflow.proofs.HeldLists.{copy_leaves}
use Rattle.dataflow.proofs.reading.take_list.Goals as goal

pub returns-then-again-clause-pools : goal.returns-then-again-clause-pools
returns-then-again-clause-pools c = (copy_leaves c.copy.result c.args.pools.now c.copy.new.pools (cells_of c.index.result.now) c.copy.ensures.pools c.copy.ensures.err_pools).0

pub returns-then-again-clause-limit : goal.returns-then-again-clause-limit
returns-then-again-clause-limit c = (copy_leaves c.copy.result c.args.pools.now c.copy.new.pools (cells_of c.index.result.now) c.copy.ensures.pools c.copy.ensures.err_pools).1
