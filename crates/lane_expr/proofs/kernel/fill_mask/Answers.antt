use Rattle.std.proofs.Common.{◌≡◌, ◌∙◌, ◌+◌, ◌*◌, ◌-◌, ◌<◌, ◌≤◌, ◌&&◌, ℕ, Bool, false, List, length, get_or, ap, sym, refl, arith}
use Rattle.std.proofs.lemmas.List.{length-append, get_or_append_left, get_or-append_right}
use Rattle.std.proofs.lemmas.List.FromFn.{length-map-range_with_len, get_or-map-range_with_len}
use Rattle.occupancy.specs.Bits.{word_bits, test}
use Rattle.tw_rows.specs.Cells.{read_cells}
use Rattle.plan_model.specs.Expr.{holds}
use Rattle.batch.specs.Rows.{Row}
use Rattle.lane_expr.specs.Steps.{expr_of}
use Rattle.lane_expr.specs.Registers.{is_met_at}
use Rattle.lane_expr.proofs.Marks.{clear_above}
use Rattle.lane_expr.proofs.Operands.{not_met_past}
use Rattle.lane_expr.proofs.Results.{grown, bits_all}
use Rattle.lane_expr.proofs.kernel.fill_mask.Goals as goal

pub push_word-requires-clause-clean : goal.push_word-requires-clause-clean
push_word-requires-clause-clean c =
    let rows = c.args.batch.now.rows in
    let expr = expr_of c.args.texts.now c.args.steps.now in
    clear_above c.test_block-word.result c.min.result c.test_block-word.type_inv (omega (arith, c.min.ensures))
    (λ j ge lt. c.test_block-word.ensures.bits j lt ∙ not_met_past c.args.texts.now expr rows (64 * c.loop-block.block + j) (omega (arith, c.min.ensures, c.rows-rows.ensures.rows, ge, lt)))

pub loop-block-preserved : goal.loop-block-preserved
loop-block-preserved c =
    let inv = c.loop-block.invariant in
    let texts = c.args.texts.now in
    let rows = c.args.batch.now.rows in
    let expr = expr_of texts c.args.steps.now in
    let old : List Bool = c.loop-block.out.items in
    let new : List Bool = c.push_word.new.self.items in
    let w = c.test_block-word.result in
    let n = c.min.result in
    let e = c.push_word.ensures in
    let long = ap (λ b. length b.items) e ∙ length-append old (word_bits w n) ∙ ap (λ x. length old + x) (length-map-range_with_len (test w) 0 n) in
    let start : length old ≡ 64 * c.loop-block.block = omega (arith, inv.so_far, c.div_ceil-block-end.ensures, c.rows-rows.ensures.rows, c.loop-block-test.true) in
    let few : n ≤ 64 = omega (arith, c.min.ensures) in
    let more = λ (j : ℕ) (lt : j < n).
    ap (λ b. get_or b.items (length old + j) false) e
    ∙ get_or-append_right old (word_bits w n) (length old) (length old + j) false refl (omega arith)
    ∙ get_or-map-range_with_len (test w) 0 n (length old + j - length old) j false (omega arith) (omega arith)
    ∙ c.test_block-word.ensures.bits j (omega arith) ∙ ap (λ m. is_met_at texts expr rows (m + j)) (sym start) in
    record {
      kinds = c.test_block-word.ensures.kinds ∙ inv.kinds;
      filled = c.test_block-word.ensures.filled;
      room = ap (λ b. b.capacity) e ∙ inv.room;
      so_far = omega (arith, long, inv.so_far, c.min.ensures, c.div_ceil-block-end.ensures, c.rows-rows.ensures.rows);
      bits = λ k lt. grown (λ i b. b ≡ is_met_at texts expr rows i) false old new n
          (λ i low. ap (λ b. get_or b.items i false) e ∙ get_or_append_left old (word_bits w n) false i low) inv.bits more k (omega (arith, long, lt));
    }

pub returns-clause-mask : goal.returns-clause-mask
returns-clause-mask c =
    let inv = c.loop-block.invariant in
    let texts = c.args.texts.now in
    let rows = c.args.batch.now.rows in
    let expr = expr_of texts c.args.steps.now in
    let long : length c.loop-block.out.items ≡ length rows = omega (arith, inv.so_far, c.div_ceil-block-end.ensures, c.rows-rows.ensures.rows, c.loop-block-test.false) in
    let all = bits_all (λ (r : Row). r.occupied && holds expr (read_cells texts r.cells)) rows c.loop-block.out.items long (λ i lt. inv.bits i (omega (arith, long, lt))) in
    let room = inv.room in
    λ t. record { items = all t; capacity = room t }
