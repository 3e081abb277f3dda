use Rattle.std.proofs.Common.{add-one}
use Rattle.tempo_engine.proofs.Matching.{placed_at, placed_more}
use Rattle.tempo_engine.proofs.named.are_cells_placed.Goals as goal

pub returns-then-not-is_placed : goal.returns-then-not-is_placed
returns-then-not-is_placed c = (
  λ h. absurd (cc),
  λ all. c.if-not-is_placed.ensures.1 (placed_at c.args.texts.now c.args.cells.now c.loop-datum.datum-index _ c.loop-datum-test.true all),
)

pub loop-datum-preserved : goal.loop-datum-preserved
loop-datum-preserved c =
    rw add-one (placed_more c.args.texts.now c.args.cells.now c.loop-datum.datum-index _ c.loop-datum-test.true (c.is_placed.ensures.0 c.if-not-is_placed.false) c.loop-datum.invariant)
