-- The nodes so far have their stages, and the table has grown.
use Rattle.std.proofs.Common.{◌≡◌, length, map, take}
use Rattle.tw_rows.specs.Texts.{BeginsWith}
use Rattle.lane_expr.specs.Steps.{with_texts}
use Rattle.where_select.specs.Texts.{nodes_of_items, nodes_in}
use Rattle.dataflow.specs.Shards.{RunAll}
use Rattle.dataflow.proofs.Opening.{AreFreshTo}
use Rattle.dataflow.proofs.dataflow.stages_of.Given as goal

abbrev pub invariant-loop-i : goal.invariant-loop-i
invariant-loop-i l = record {
  count : length l.stages.items ≡ l.i;
  runs : RunAll l.workers l.plan.nodes l.stages.items;
  fresh : AreFreshTo l.texts l.capacity l.plan l.i l.stages.items;
  table : l.texts ≡ with_texts l.fn.texts (nodes_of_items (take l.i (map nodes_in l.plan.nodes)));
  begins : BeginsWith l.texts l.fn.texts;
}
