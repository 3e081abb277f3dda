use Rattle.std.specs.Prelude.{◌≡◌, ◌++◌, replicate}
use Rattle.std.proofs.Common.{refl, ◌∙◌, subst, arith}
use Rattle.tw_rows.specs.Cells.{read_cells}
use Rattle.plan_model.specs.Changes.{Started}
use Rattle.synopsis.specs.Kept.{since_at}
use Rattle.egress.specs.Kept.{since_in}
use Rattle.egress.specs.Print.{print}
use Rattle.egress.proofs.Passing.{added_pass}
use Rattle.egress.proofs.Shown.{own_placed, own_kept, starting_first, starting_next, starting_last}
use Rattle.egress.proofs.open_rows.OpenRows.start_rows.Goals as goal

pub start_row-requires : goal.start_row-requires
start_row-requires c =
    own_placed c.args.texts.now c.args.touched.now c.args.at c.requires.ordered c.len.ensures.distinct c.requires.placed
    c.loop-moves.moves-index c.moves-item.result c.loop-moves-test.true c.moves-item.is

pub loop-moves-init : goal.loop-moves-init
loop-moves-init c = record {
  kinds = refl;
  starting = starting_first c.args.texts.now c.args.touched.now c.args.at c.requires.ordered c.args.self.now.kinds.items (since_in c.args.texts.now c.args.self.now.starts) c.args.self.now.lines.items;
  passed = λ p keeps h. h;
  kept = λ h. h;
}

pub loop-moves-preserved : goal.loop-moves-preserved
loop-moves-preserved c =
    let row = c.in_ok-start_row.ensures.row in
    record {
      kinds = c.start_row.ensures.kinds ∙ c.loop-moves.invariant.kinds;
      starting =
          starting_next c.args.texts.now c.args.touched.now c.args.at c.requires.ordered c.len.ensures.distinct c.requires.placed
          c.loop-moves.moves-index c.moves-item.result c.loop-moves-test.true c.moves-item.is
          c.loop-moves.self.starts c.start_row.new.self.starts c.args.self.now.kinds.items (since_in c.args.texts.now c.args.self.now.starts) c.args.self.now.lines.items c.loop-moves.self.lines.items c.start_row.new.self.lines.items c.saturating_sub-count.result
          c.saturating_sub-count.ensures row.starts
          (subst (λ ks. c.start_row.new.self.lines.items ≡ c.loop-moves.self.lines.items ++ print ks.items (replicate c.saturating_sub-count.result (Started c.args.at (read_cells c.args.texts.now c.moves-item.result.cells)))) c.loop-moves.invariant.kinds row.lines)
          c.loop-moves.invariant.starting;
      passed = λ p keeps h. added_pass p (since_at c.loop-moves.self.starts) (since_at c.start_row.new.self.starts) (c.loop-moves.invariant.passed p keeps h) c.moves-item.result.cells (replicate c.saturating_sub-count.result c.args.at)
          (own_kept p c.args.touched.now c.loop-moves.moves-index c.moves-item.result c.loop-moves-test.true c.moves-item.is keeps) row.starts;
      kept = λ h. row.kept (c.loop-moves.invariant.kept h);
    }

pub returns-clause-rows : goal.returns-clause-rows
returns-clause-rows c =
    let last =
    starting_last c.args.texts.now c.args.touched.now c.args.at c.requires.ordered c.args.self.now.kinds.items (since_in c.args.texts.now c.args.self.now.starts) c.args.self.now.lines.items c.loop-moves.moves-index
    (since_in c.args.texts.now c.loop-moves.self.starts) c.loop-moves.self.lines.items (omega arith) c.loop-moves.invariant.starting in
    record { starts = last.1; lines = last.0; passed = c.loop-moves.invariant.passed; kept = c.loop-moves.invariant.kept }
