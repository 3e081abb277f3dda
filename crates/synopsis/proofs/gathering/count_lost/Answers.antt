-- What is answered by hand of the proof of gathering::count_lost.
use Rattle.std.proofs.Common.{arith}
use Rattle.tw_rows.specs.SameCells.{same_cells}
use Rattle.synopsis.proofs.Counting.{often_more, nothing_more}
use Rattle.synopsis.proofs.gathering.count_lost.Goals as goal

pub loop-cells-preserved : goal.loop-cells-preserved
loop-cells-preserved c =
    let rows = c.args.rows.now in
    let i = c.loop-cells.cells-index in
    let x = c.cells-item.result in (
      λ q.
          let a = c.in_ok-count.ensures.ends q in
          let b = often_more rows i x q (omega arith) c.cells-item.is in
          let h = c.loop-cells.invariant.0 q in
          omega (arith, a, b, h),
      λ q.
          let a = c.in_ok-count.ensures.starts q in
          let h = c.loop-cells.invariant.1 q in
          let z = nothing_more (same_cells x q) in
          omega (arith, a, h, z),
    )
