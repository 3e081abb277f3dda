-- The nodes so far have their steps, and their texts are in the table.
use Rattle.std.proofs.Common.{◌≡◌, take}
use Rattle.tw_rows.specs.Texts.{BeginsWith}
use Rattle.lane_expr.specs.Steps.{expr_of, AreStepsPlaced, with_texts}
use Rattle.lane_expr.proofs.compile.compile_nodes.Given as goal

abbrev pub invariant-loop-node : goal.invariant-loop-node
invariant-loop-node l = record {
  steps : expr_of l.texts l.steps.items ≡ take l.node-index l.nodes;
  placed : AreStepsPlaced l.texts l.steps.items;
  table : l.texts ≡ with_texts l.fn.texts (take l.node-index l.nodes);
  begins : BeginsWith l.texts l.fn.texts;
}
