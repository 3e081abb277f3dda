use Rattle.std.proofs.Common.{◌≡◌, ◌++◌, ◌≤◌, ℕ, List, length}
use Rattle.tw_rows.specs.declared.edge.Edge.{Edge}
use Rattle.edge_history.specs.Order.{failing, is_from, IsHistory}
use Rattle.plan_laws.specs.Places.{EdgesArePlaced}
use Rattle.egress.specs.Output.{Holds, IsPlacedIn}
use Rattle.egress.proofs.TakingOne.{Takes}
use Rattle.egress.proofs.egress.Egress.take_edges.Given as goal

abbrev pub invariant-loop-edge : goal.invariant-loop-edge
invariant-loop-edge l = record {
  kinds : l.self.rows.kinds ≡ l.fn.self.rows.kinds;
  failed : l.self.failed ≡ l.fn.self.failed;
  placed : IsPlacedIn l.texts l.self;
  edges : EdgesArePlaced l.texts l.cursor.edges;
  taken : (h : List Edge) (a c : ℕ) → Holds l.texts h a c l.fn.self → IsHistory (h ++ l.edges.edges) → failing (is_from c) l.edges.edges ≡ 0 → c ≤ l.to →
      Takes l.texts h a l.to l.edges.edges l.cursor.edges l.self;
}

abbrev pub decreases-loop-edge : goal.decreases-loop-edge
decreases-loop-edge l = length l.cursor.edges
