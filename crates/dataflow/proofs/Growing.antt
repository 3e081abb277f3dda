-- A plan at work with a longer table, and the places in what its nodes answered.
use Rattle.std.proofs.Common.{ℕ, List, arith}
use Rattle.std.specs.Prelude.{◌<◌, length, get_or}
use Rattle.std.proofs.lemmas.Option.{slice_get-get_or}
use Rattle.plan_model.specs.declared.node.Node.TheVariants.{Source}
use Rattle.tw_rows.specs.Texts.{BeginsWith}
use Rattle.tw_rows.specs.declared.edge.Edge.{Edge}
use Rattle.plan_laws.specs.Places.{AreDistinct, EdgesArePlaced}
use Rattle.where_select.specs.declared.row_stage.RowStage.TheVariants.{Source as SourceStage}
use Rattle.dataflow.specs.declared.stage.Stage.TheVariants.{Rows}
use Rattle.dataflow.specs.Stages.{reached, left_closing, right_closing, left_kinds, right_kinds}
use Rattle.dataflow.specs.Flows.{DataflowView, CanStep, Flows}
use Rattle.dataflow.proofs.Rules.{ready_longer, keeps_longer, keeps_placed}

module _ (texts more : List (List ℕ)) (last : ℕ) (d : DataflowView) (begins : BeginsWith more texts) where
  pub can_longer : CanStep texts last d → CanStep more last d
  can_longer can = record {
    count = can.count;
    fine = can.fine;
    room = can.room;
    ready = λ i n s at here. ready_longer texts more begins d.capacity (left_kinds d.plan n) (right_kinds d.plan n) n s (reached last (left_closing d.plan.nodes last n)) (reached last (right_closing d.plan.nodes last n)) (can.ready i n s at here);
  }

  pub flows_longer : (given lists : ℕ → List Edge) → Flows texts last given lists d → Flows more last given lists d
  flows_longer given lists flows = record {
    can = can_longer flows.can;
    first = flows.first;
    kept = λ i n s at here.
        keeps_longer texts more begins d.capacity (left_kinds d.plan n) (right_kinds d.plan n) n s (reached last (left_closing d.plan.nodes last n)) (reached last (right_closing d.plan.nodes last n))
        (flows.can.ready i n s at here) _ _ _ (flows.kept i n s at here);
  }

pub flows_placed : (texts : List (List ℕ)) (last : ℕ) (given lists : ℕ → List Edge) (d : DataflowView) → AreDistinct texts → Flows texts last given lists d → (k : ℕ) → k < length d.plan.nodes → EdgesArePlaced texts (lists k)
flows_placed texts last given lists d distinct flows k low =
    let n = get_or d.plan.nodes k (Source 0) in
    let s = get_or d.stages k (Rows SourceStage) in
    let there = slice_get-get_or d.plan.nodes k (Source 0) low in
    let each = flows.can.count in
    let here = slice_get-get_or d.stages k (Rows SourceStage) (omega (arith, low, each)) in
    keeps_placed texts distinct d.capacity (left_kinds d.plan n) (right_kinds d.plan n) n s (reached last (left_closing d.plan.nodes last n)) (reached last (right_closing d.plan.nodes last n))
    (flows.can.ready k n s there here) _ _ _ (flows.kept k n s there here)
