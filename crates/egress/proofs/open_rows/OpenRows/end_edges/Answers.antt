use Rattle.std.specs.Prelude.{◌≡◌, ◌≤◌, ◌-◌, ◌++◌, length, map, take}
use Rattle.std.proofs.Common.{refl, ◌∙◌, subst, arith}
use Rattle.std.proofs.lemmas.List.{length-map}
use Rattle.tw_rows.specs.Cells.{read_cells}
use Rattle.plan_model.specs.Changes.{Ended}
use Rattle.synopsis.specs.Kept.{since_at}
use Rattle.egress.specs.Kept.{moves_of, since_in}
use Rattle.egress.specs.Print.{print}
use Rattle.egress.proofs.Passing.{dropped_pass}
use Rattle.egress.proofs.Shown.{own_placed, ending_first, ending_next, ending_last}
use Rattle.egress.proofs.EdgeMoves.{single_low, single_at, singles_placed}
use Rattle.egress.proofs.open_rows.OpenRows.end_edges.Goals as goal

pub end_row-requires : goal.end_row-requires
end_row-requires c =
    own_placed c.args.texts.now (map moves_of c.args.edges.now) c.args.at c.requires.ordered c.len.ensures.distinct (singles_placed c.args.texts.now c.args.edges.now c.requires.placed)
    c.loop-edge.edge-index (moves_of c.edge-item.result) (single_low c.args.edges.now c.loop-edge.edge-index c.edge-item.result c.loop-edge-test.true)
    (single_at c.args.edges.now c.loop-edge.edge-index c.edge-item.result c.loop-edge-test.true c.edge-item.is)

pub loop-edge-init : goal.loop-edge-init
loop-edge-init c = record {
  kinds = refl;
  ending = ending_first c.args.texts.now (map moves_of c.args.edges.now) c.args.at c.requires.ordered c.args.self.now.kinds.items (since_in c.args.texts.now c.args.self.now.starts) c.args.self.now.lines.items;
  passed = λ p h. h;
  kept = λ h. h;
}

pub loop-edge-preserved : goal.loop-edge-preserved
loop-edge-preserved c =
    let row = c.in_ok-end_row.ensures.row in
    record {
      kinds = c.end_row.ensures.kinds ∙ c.loop-edge.invariant.kinds;
      ending =
          ending_next c.args.texts.now (map moves_of c.args.edges.now) c.args.at c.requires.ordered c.len.ensures.distinct (singles_placed c.args.texts.now c.args.edges.now c.requires.placed)
          c.loop-edge.edge-index (moves_of c.edge-item.result) (single_low c.args.edges.now c.loop-edge.edge-index c.edge-item.result c.loop-edge-test.true)
          (single_at c.args.edges.now c.loop-edge.edge-index c.edge-item.result c.loop-edge-test.true c.edge-item.is)
          c.loop-edge.self.starts c.end_row.new.self.starts c.args.self.now.kinds.items (since_in c.args.texts.now c.args.self.now.starts) c.args.self.now.lines.items c.loop-edge.self.lines.items c.end_row.new.self.lines.items c.saturating_sub-count.result
          (c.saturating_sub-count.ensures ∙ (λ j. c.counts_of-counts.ensures.ends j - c.counts_of-counts.ensures.starts j)) row.starts
          (subst (λ ks. c.end_row.new.self.lines.items ≡ c.loop-edge.self.lines.items ++ print ks.items (map (λ s. Ended c.args.at s (read_cells c.args.texts.now c.edge-item.result.cells)) (take c.saturating_sub-count.result (since_at c.loop-edge.self.starts c.edge-item.result.cells)))) c.loop-edge.invariant.kinds row.lines)
          c.loop-edge.invariant.ending;
      passed = λ p h. dropped_pass p (since_at c.loop-edge.self.starts) (since_at c.end_row.new.self.starts) (c.loop-edge.invariant.passed p h) c.edge-item.result.cells c.saturating_sub-count.result row.starts;
      kept = λ h. row.kept (c.loop-edge.invariant.kept h);
    }

pub returns-clause-rows : goal.returns-clause-rows
returns-clause-rows c =
    let all : length (map moves_of c.args.edges.now) ≤ c.loop-edge.edge-index = let n = length-map c.args.edges.now moves_of in omega (arith, n, c.loop-edge-test.false) in
    let last =
    ending_last c.args.texts.now (map moves_of c.args.edges.now) c.args.at c.requires.ordered c.args.self.now.kinds.items (since_in c.args.texts.now c.args.self.now.starts) c.args.self.now.lines.items c.loop-edge.edge-index
    (since_in c.args.texts.now c.loop-edge.self.starts) c.loop-edge.self.lines.items all c.loop-edge.invariant.ending in
    record { starts = last.1; lines = last.0; passed = c.loop-edge.invariant.passed; kept = c.loop-edge.invariant.kept }
