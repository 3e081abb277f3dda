use Rattle.std.specs.Prelude.{◌≡◌, ◌++◌, map, take}
use Rattle.std.proofs.Common.{refl, ◌∙◌, subst, arith}
use Rattle.tw_rows.specs.Cells.{read_cells}
use Rattle.plan_model.specs.Changes.{Ended}
use Rattle.synopsis.specs.Kept.{since_at}
use Rattle.egress.specs.Kept.{since_in}
use Rattle.egress.specs.Print.{print}
use Rattle.egress.proofs.Passing.{dropped_pass}
use Rattle.egress.proofs.Shown.{own_placed, ending_first, ending_next, ending_last}
use Rattle.egress.proofs.open_rows.OpenRows.end_rows.Goals as goal

pub end_row-requires : goal.end_row-requires
end_row-requires c =
    own_placed c.args.texts.now c.args.touched.now c.args.at c.requires.ordered c.len.ensures.distinct c.requires.placed
    c.loop-moves.moves-index c.moves-item.result c.loop-moves-test.true c.moves-item.is

pub loop-moves-init : goal.loop-moves-init
loop-moves-init c = record {
  kinds = refl;
  ending = ending_first c.args.texts.now c.args.touched.now c.args.at c.requires.ordered c.args.self.now.kinds.items (since_in c.args.texts.now c.args.self.now.starts) c.args.self.now.lines.items;
  passed = λ p h. h;
  kept = λ h. h;
}

pub loop-moves-preserved : goal.loop-moves-preserved
loop-moves-preserved c =
    let row = c.in_ok-end_row.ensures.row in
    record {
      kinds = c.end_row.ensures.kinds ∙ c.loop-moves.invariant.kinds;
      ending =
          ending_next c.args.texts.now c.args.touched.now c.args.at c.requires.ordered c.len.ensures.distinct c.requires.placed
          c.loop-moves.moves-index c.moves-item.result c.loop-moves-test.true c.moves-item.is
          c.loop-moves.self.starts c.end_row.new.self.starts c.args.self.now.kinds.items (since_in c.args.texts.now c.args.self.now.starts) c.args.self.now.lines.items c.loop-moves.self.lines.items c.end_row.new.self.lines.items c.saturating_sub-count.result
          c.saturating_sub-count.ensures row.starts
          (subst (λ ks. c.end_row.new.self.lines.items ≡ c.loop-moves.self.lines.items ++ print ks.items (map (λ s. Ended c.args.at s (read_cells c.args.texts.now c.moves-item.result.cells)) (take c.saturating_sub-count.result (since_at c.loop-moves.self.starts c.moves-item.result.cells)))) c.loop-moves.invariant.kinds row.lines)
          c.loop-moves.invariant.ending;
      passed = λ p h. dropped_pass p (since_at c.loop-moves.self.starts) (since_at c.end_row.new.self.starts) (c.loop-moves.invariant.passed p h) c.moves-item.result.cells c.saturating_sub-count.result row.starts;
      kept = λ h. row.kept (c.loop-moves.invariant.kept h);
    }

pub returns-clause-rows : goal.returns-clause-rows
returns-clause-rows c =
    let last =
    ending_last c.args.texts.now c.args.touched.now c.args.at c.requires.ordered c.args.self.now.kinds.items (since_in c.args.texts.now c.args.self.now.starts) c.args.self.now.lines.items c.loop-moves.moves-index
    (since_in c.args.texts.now c.loop-moves.self.starts) c.loop-moves.self.lines.items (omega arith) c.loop-moves.invariant.ending in
    record { starts = last.1; lines = last.0; passed = c.loop-moves.invariant.passed; kept = c.loop-moves.invariant.kept }
