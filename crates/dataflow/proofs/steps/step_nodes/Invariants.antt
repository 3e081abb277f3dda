-- The nodes so far have taken their steps, the others stand as they did, and what is read later on is there.
use Rattle.std.proofs.Common.{◌≡◌, ◌<◌, ◌≤◌, ℕ, List, length}
use Rattle.std.specs.Prelude.{Some, get_or, slice_get}
use Rattle.tw_rows.specs.declared.edge.Edge.{Edge}
use Rattle.plan_model.specs.declared.node.Node.{Node}
use Rattle.plan_model.specs.Meaning.{Sources}
use Rattle.plan_laws.specs.Places.{AreDistinct}
use Rattle.plan_laws.specs.Standing.{SourcesStandRead}
use Rattle.dataflow.specs.declared.stage.Stage.{Stage}
use Rattle.edge_stream.specs.Lists.{edges_at, longer}
use Rattle.dataflow.specs.Lists.{AreFrom}
use Rattle.dataflow.specs.Stages.{left_closing, right_closing, left_kinds, right_kinds, IsReady}
use Rattle.dataflow.specs.Shards.{RunAll}
use Rattle.dataflow.specs.Flows.{parts_of}
use Rattle.dataflow.specs.Below.{FlowsBelow}
use Rattle.dataflow.specs.Held.{HeldBefore}
use Rattle.dataflow.proofs.Flowing.{Progress}
use Rattle.dataflow.proofs.steps.step_nodes.Given as goal

abbrev pub invariant-loop-i : goal.invariant-loop-i
invariant-loop-i g l = record {
  more : ℕ → List Edge;
  held : HeldBefore l.texts l.fn.pools.capacity l.plan l.i (edges_at l.fn.given.items) more l.given.items l.made.items;
  count : length l.made.items ≡ l.i;
  streams : length l.given.items ≡ length l.fn.given.items;
  long : length l.stages.items ≡ length l.fn.stages.items;
  behind : (j : ℕ) (d : Stage) → l.i ≤ j → get_or l.stages.items j d ≡ get_or l.fn.stages.items j d;
  ready : (j : ℕ) (n : Node) (d : Stage) → j < l.i → slice_get l.plan.nodes j ≡ Some n →
      IsReady l.texts l.fn.pools.capacity (left_kinds l.plan n) (right_kinds l.plan n) n (get_or l.stages.items j d) (left_closing l.plan.nodes l.p n) (right_closing l.plan.nodes l.p n);
  progress : (last : ℕ) (old lists : ℕ → List Edge) (source : Sources) → AreDistinct l.texts → FlowsBelow l.texts last l.count old lists (parts_of l.plan l.fn.stages.items l.fn.pools.capacity l.thawed) → last < l.p →
      SourcesStandRead l.texts l.p source (longer old (edges_at l.fn.given.items)) → AreFrom last (edges_at l.fn.given.items) →
      Progress l.texts l.plan last l.p source old (edges_at l.fn.given.items) lists more l.stages.items l.i;
  runs : (workers : ℕ) → RunAll workers l.plan.nodes l.fn.stages.items → RunAll workers l.plan.nodes l.stages.items;
  pools : l.pools.capacity ≡ l.fn.pools.capacity;
  limit : l.pools.limit ≡ l.fn.pools.limit;
}
