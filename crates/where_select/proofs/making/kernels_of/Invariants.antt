-- The items so far have their kernels, whose texts are in the table.
use Rattle.std.proofs.Common.{◌≡◌, map, take}
use Rattle.std.specs.Prelude.{All}
use Rattle.tw_rows.specs.Kinds.{cell_kind_of}
use Rattle.tw_rows.specs.Texts.{BeginsWith}
use Rattle.lane_expr.specs.Steps.{AreStepsPlaced, with_texts}
use Rattle.where_select.specs.Projects.{exprs_of}
use Rattle.where_select.specs.Stages.{IsFor}
use Rattle.where_select.specs.Texts.{nodes_of_items}
use Rattle.where_select.proofs.making.kernels_of.Given as goal

abbrev pub invariant-loop-item : goal.invariant-loop-item
invariant-loop-item l = record {
  same : exprs_of l.texts l.kernels.items ≡ take l.item-index l.items;
  placed : All (λ k. AreStepsPlaced l.texts k.steps) l.kernels.items;
  suited : All (IsFor l.capacity (map cell_kind_of l.kinds)) l.kernels.items;
  table : l.texts ≡ with_texts l.fn.texts (nodes_of_items (take l.item-index l.items));
  begins : BeginsWith l.texts l.fn.texts;
}
