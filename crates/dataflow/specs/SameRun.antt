-- What a step leaves of a plan at work.
use Rattle.std.specs.Prelude.{◌≡◌}
use Rattle.dataflow.specs.Flows.{DataflowView}

-- the plan, how many rows each batch has room for, the number of shards, and whether the stages took up what was saved
pub record SameRun (old new : DataflowView) : Type 0 where
  pub plan : new.plan ≡ old.plan
  pub capacity : new.capacity ≡ old.capacity
  pub workers : new.workers ≡ old.workers
  pub thawed : new.thawed ≡ old.thawed
