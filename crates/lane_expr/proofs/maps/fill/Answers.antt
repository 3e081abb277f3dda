use Rattle.std.proofs.Common.{◌≡◌, ◌∙◌, ◌*◌, ◌-◌, ◌<◌, ℕ, pos, length, map, get_or, ap, sym, arith}
use Rattle.tw_rows.specs.declared.cells.Datum.TheVariants.{Int}
use Rattle.lane_expr.specs.Steps.{expr_of}
use Rattle.lane_expr.specs.Registers.{datum_at}
use Rattle.lane_expr.proofs.Typing.{AreSteps-some}
use Rattle.lane_expr.proofs.Operands.{datum_is, last_kind, as_many}
use Rattle.lane_expr.proofs.Results.{results_more, results_all}
use Rattle.lane_expr.proofs.maps.fill.Goals as goal

pub loop-block-preserved : goal.loop-block-preserved
loop-block-preserved g c =
    let lane = g.C.Lane in
    let inv = c.loop-block.invariant in
    let texts = c.args.texts.now in
    let columns = c.args.batch.now.kinds in
    let rows = c.args.batch.now.rows in
    let steps = c.args.steps.now in
    let registers = c.run.new.registers in
    let kinds = c.run.ensures.kinds ∙ inv.kinds ∙ c.requires.kinds in
    let all = as_many columns registers steps kinds in
    let some = AreSteps-some columns steps c.requires.steps in
    let last = length steps - 1 in
    let r = c.index-registers-steps.result in
    let old = c.loop-block.out.items in
    let new = c.store.new.out.items in
    let n = c.min.result in
    let start : length old ≡ 64 * c.loop-block.block = omega (arith, inv.so_far, c.div_ceil-block-end.ensures, c.rows-rows.ensures.rows, c.loop-block-test.true) in
    let is = λ (j : ℕ) (lt : j < n).
    ap lane.datum (c.store.ensures.values j lt) ∙ g.met.C.Lane.is_datum _ j
    ∙ sym (datum_is j registers last r lane.kind (omega (arith, all, some)) (last_kind columns registers steps lane.kind kinds c.requires.kind)) in
    record {
      kinds = c.run.ensures.kinds ∙ inv.kinds;
      filled = c.run.ensures.filled;
      room = c.store.ensures.room ∙ inv.room;
      so_far = omega (arith, c.store.ensures.long, inv.so_far, c.min.ensures, c.div_ceil-block-end.ensures, c.rows-rows.ensures.rows);
      results = λ k lt. results_more lane.datum lane.blank texts (expr_of texts steps) rows old new c.loop-block.block n (λ j. get_or (map (datum_at j) registers) last (Int (pos 0))) start
          c.store.ensures.before inv.results is (λ j low. c.run.ensures.results j (omega (arith, low, c.min.ensures))) k (omega (arith, lt, c.store.ensures.long));
    }

pub returns-clause-results : goal.returns-clause-results
returns-clause-results g c =
    let lane = g.C.Lane in
    let inv = c.loop-block.invariant in
    let texts = c.args.texts.now in
    let rows = c.args.batch.now.rows in
    let long : length c.loop-block.out.items ≡ length rows = omega (arith, inv.so_far, c.div_ceil-block-end.ensures, c.rows-rows.ensures.rows, c.loop-block-test.false) in
    results_all lane.datum lane.blank texts (expr_of texts c.args.steps.now) rows c.loop-block.out.items long (λ i lt. inv.results i (omega (arith, long, lt)))
