use Rattle.std.specs.Prelude.{◌≡◌, ◌≤◌, ◌-◌, ◌++◌, length, map, replicate}
use Rattle.std.proofs.Common.{refl, ◌∙◌, subst, arith}
use Rattle.std.proofs.lemmas.List.{length-map}
use Rattle.tw_rows.specs.Cells.{read_cells}
use Rattle.plan_model.specs.Changes.{Started}
use Rattle.synopsis.specs.Kept.{since_at}
use Rattle.egress.specs.Kept.{moves_of, since_in}
use Rattle.egress.specs.Print.{print}
use Rattle.egress.proofs.Passing.{added_pass}
use Rattle.egress.proofs.Shown.{own_placed, own_kept, starting_first, starting_next, starting_last}
use Rattle.egress.proofs.EdgeMoves.{single_low, single_at, singles_placed}
use Rattle.egress.proofs.open_rows.OpenRows.start_edges.Goals as goal

pub start_row-requires : goal.start_row-requires
start_row-requires c =
    own_placed c.args.texts.now (map moves_of c.args.edges.now) c.args.at c.requires.ordered c.len.ensures.distinct (singles_placed c.args.texts.now c.args.edges.now c.requires.placed)
    c.loop-edge.edge-index (moves_of c.edge-item.result) (single_low c.args.edges.now c.loop-edge.edge-index c.edge-item.result c.loop-edge-test.true)
    (single_at c.args.edges.now c.loop-edge.edge-index c.edge-item.result c.loop-edge-test.true c.edge-item.is)

pub loop-edge-init : goal.loop-edge-init
loop-edge-init c = record {
  kinds = refl;
  starting = starting_first c.args.texts.now (map moves_of c.args.edges.now) c.args.at c.requires.ordered c.args.self.now.kinds.items (since_in c.args.texts.now c.args.self.now.starts) c.args.self.now.lines.items;
  passed = λ p keeps h. h;
  kept = λ h. h;
}

pub loop-edge-preserved : goal.loop-edge-preserved
loop-edge-preserved c =
    let row = c.in_ok-start_row.ensures.row in
    record {
      kinds = c.start_row.ensures.kinds ∙ c.loop-edge.invariant.kinds;
      starting =
          starting_next c.args.texts.now (map moves_of c.args.edges.now) c.args.at c.requires.ordered c.len.ensures.distinct (singles_placed c.args.texts.now c.args.edges.now c.requires.placed)
          c.loop-edge.edge-index (moves_of c.edge-item.result) (single_low c.args.edges.now c.loop-edge.edge-index c.edge-item.result c.loop-edge-test.true)
          (single_at c.args.edges.now c.loop-edge.edge-index c.edge-item.result c.loop-edge-test.true c.edge-item.is)
          c.loop-edge.self.starts c.start_row.new.self.starts c.args.self.now.kinds.items (since_in c.args.texts.now c.args.self.now.starts) c.args.self.now.lines.items c.loop-edge.self.lines.items c.start_row.new.self.lines.items c.saturating_sub-count.result
          (c.saturating_sub-count.ensures ∙ (λ j. c.counts_of-counts.ensures.starts j - c.counts_of-counts.ensures.ends j)) row.starts
          (subst (λ ks. c.start_row.new.self.lines.items ≡ c.loop-edge.self.lines.items ++ print ks.items (replicate c.saturating_sub-count.result (Started c.args.at (read_cells c.args.texts.now c.edge-item.result.cells)))) c.loop-edge.invariant.kinds row.lines)
          c.loop-edge.invariant.starting;
      passed = λ p keeps h. added_pass p (since_at c.loop-edge.self.starts) (since_at c.start_row.new.self.starts) (c.loop-edge.invariant.passed p keeps h) c.edge-item.result.cells (replicate c.saturating_sub-count.result c.args.at)
          (own_kept p (map moves_of c.args.edges.now) c.loop-edge.edge-index (moves_of c.edge-item.result) (single_low c.args.edges.now c.loop-edge.edge-index c.edge-item.result c.loop-edge-test.true)
          (single_at c.args.edges.now c.loop-edge.edge-index c.edge-item.result c.loop-edge-test.true c.edge-item.is) keeps) row.starts;
      kept = λ h. row.kept (c.loop-edge.invariant.kept h);
    }

pub returns-clause-rows : goal.returns-clause-rows
returns-clause-rows c =
    let all : length (map moves_of c.args.edges.now) ≤ c.loop-edge.edge-index = let n = length-map c.args.edges.now moves_of in omega (arith, n, c.loop-edge-test.false) in
    let last =
    starting_last c.args.texts.now (map moves_of c.args.edges.now) c.args.at c.requires.ordered c.args.self.now.kinds.items (since_in c.args.texts.now c.args.self.now.starts) c.args.self.now.lines.items c.loop-edge.edge-index
    (since_in c.args.texts.now c.loop-edge.self.starts) c.loop-edge.self.lines.items all c.loop-edge.invariant.starting in
    record { starts = last.1; lines = last.0; passed = c.loop-edge.invariant.passed; kept = c.loop-edge.invariant.kept }
