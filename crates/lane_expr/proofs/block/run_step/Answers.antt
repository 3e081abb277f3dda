use Rattle.std.proofs.Common.{◌∙◌, ◌+◌, ◌*◌, ◌&&◌, ◌||◌, not, pos, neg_ℤ, get_or, ap, ap₂, sym, subst, arith}
use Rattle.std.specs.Int.{int_div_euclid, int_rem_euclid}
use Rattle.occupancy.specs.Bits.{is_set_at}
use Rattle.occupancy.proofs.Test.{test-and, test-or, test-flip}
use Rattle.tw_rows.specs.declared.kind.CellKind.TheVariants.{Whole, Bit}
use Rattle.tw_rows.specs.declared.cells.Datum.TheVariants.{Int as IntDatum}
use Rattle.tw_rows.specs.declared.row.Value.TheVariants.{Int as IntValue, Bool as FlagValue}
use Rattle.tw_rows.specs.Cells.{read_datum, IsPlaced}
use Rattle.tw_rows.specs.Rows.{value_cmp}
use Rattle.plan_model.specs.Expr.{wrapped, arith_value, is_met, int_of, flag_of}
use Rattle.lane_expr.specs.Registers.{datum_at}
use Rattle.lane_expr.proofs.Operands.{operand_is, operand_at, placed_at, occupied_at, occupied_within, cell_read, cell_placed}
use Rattle.lane_expr.proofs.Filling.{constant_value, constant_placed}
use Rattle.lane_expr.proofs.block.run_step.Goals as goal

pub returns-in-Column-clause-value : goal.returns-in-Column-clause-value
returns-in-Column-clause-value c j lt on =
    let rows = c.args.batch.now.rows in
    let within = occupied_within rows (64 * c.args.block + j) on in
    let read = c.load.ensures.data j (omega (arith, c.min-count.ensures, c.rows.ensures.rows, within)) ∙ ap (λ ds. get_or ds (64 * c.args.block + j) (IntDatum (pos 0))) c.column.ensures.cells in
    rw c.in-Column.is (cell_read c.args.texts.now rows c.args.batch.now.kinds c.in-Column.column (64 * c.args.block + j) _ c.column.ensures.kind c.load.new.self j read)

pub returns-in-Column-clause-placed : goal.returns-in-Column-clause-placed
returns-in-Column-clause-placed c j lt on =
    let rows = c.args.batch.now.rows in
    let within = occupied_within rows (64 * c.args.block + j) on in
    let read = c.load.ensures.data j (omega (arith, c.min-count.ensures, c.rows.ensures.rows, within)) ∙ ap (λ ds. get_or ds (64 * c.args.block + j) (IntDatum (pos 0))) c.column.ensures.cells in
    rw c.in-Column.is (cell_placed c.args.texts.now rows c.args.batch.now.kinds c.in-Column.column (64 * c.args.block + j) _ c.column.ensures.kind c.load.new.self j read c.requires.cells on)

pub returns-in-Neg-clause-value : goal.returns-in-Neg-clause-value
returns-in-Neg-clause-value c j lt on =
    let typed = rw c.in-Neg.is at c.requires.typed in
    let op = operand_is c.args.texts.now j c.args.before.now c.in-Neg.of c.index-before-of.result Whole typed in
    rw c.in-Neg.is (ap IntValue (c.negations.ensures j lt ∙ ap (λ z. wrapped (neg_ℤ z)) (sym (ap int_of op))))

pub returns-in-Not-clause-value : goal.returns-in-Not-clause-value
returns-in-Not-clause-value c j lt on =
    let typed = rw c.in-Not.is at c.requires.typed in
    let op = operand_is c.args.texts.now j c.args.before.now c.in-Not.of c.index-before-of-in-Not.result Bit typed in
    rw c.in-Not.is (ap FlagValue (test-flip _ j c.index-before-of-in-Not.element_fits.fits lt ∙ ap not (sym (ap flag_of op))))

pub returns-in-Div-clause-value : goal.returns-in-Div-clause-value
returns-in-Div-clause-value c j lt on =
    let typed = rw c.in-Div.is at c.requires.typed in
    let op = operand_is c.args.texts.now j c.args.before.now c.in-Div.of c.index-before-of-in-Div.result Whole typed in
    rw c.in-Div.is (ap IntValue (c.quotients.ensures j lt ∙ ap (λ z. int_div_euclid z (pos c.in-Div.by.by)) (sym (ap int_of op))))

pub returns-in-Mod-clause-value : goal.returns-in-Mod-clause-value
returns-in-Mod-clause-value c j lt on =
    let typed = rw c.in-Mod.is at c.requires.typed in
    let op = operand_is c.args.texts.now j c.args.before.now c.in-Mod.of c.index-before-of-in-Mod.result Whole typed in
    rw c.in-Mod.is (ap IntValue (c.rests.ensures j lt ∙ ap (λ z. int_rem_euclid z (pos c.in-Mod.by.by)) (sym (ap int_of op))))

pub returns-in-Arith-clause-value : goal.returns-in-Arith-clause-value
returns-in-Arith-clause-value c j lt on =
    let typed = rw c.in-Arith.is at c.requires.typed in
    let left = operand_is c.args.texts.now j c.args.before.now c.in-Arith.left c.index-before-left.result Whole typed.0 in
    let right = operand_is c.args.texts.now j c.args.before.now c.in-Arith.right c.index-before-right.result Whole typed.1 in
    rw c.in-Arith.is (ap IntValue (c.arith.ensures j lt ∙ ap₂ (arith_value c.in-Arith.op) (sym (ap int_of left)) (sym (ap int_of right))))

pub returns-in-And-clause-value : goal.returns-in-And-clause-value
returns-in-And-clause-value c j lt on =
    let typed = rw c.in-And.is at c.requires.typed in
    let left = operand_is c.args.texts.now j c.args.before.now c.in-And.left c.index-before-left-in-And.result Bit typed.0 in
    let right = operand_is c.args.texts.now j c.args.before.now c.in-And.right c.index-before-right-in-And.result Bit typed.1 in
    rw c.in-And.is (ap FlagValue (test-and _ _ j ∙ ap₂ (λ x y. x && y) (sym (ap flag_of left)) (sym (ap flag_of right))))

pub returns-in-Or-clause-value : goal.returns-in-Or-clause-value
returns-in-Or-clause-value c j lt on =
    let typed = rw c.in-Or.is at c.requires.typed in
    let left = operand_is c.args.texts.now j c.args.before.now c.in-Or.left c.index-before-left-in-Or.result Bit typed.0 in
    let right = operand_is c.args.texts.now j c.args.before.now c.in-Or.right c.index-before-right-in-Or.result Bit typed.1 in
    rw c.in-Or.is (ap FlagValue (test-or _ _ j ∙ ap₂ (λ x y. x || y) (sym (ap flag_of left)) (sym (ap flag_of right))))

pub compare-into-requires-clause-left : goal.compare-into-requires-clause-left
compare-into-requires-clause-left c j lt on =
    let rows = c.args.batch.now.rows in
    let before = rw c.in-Compare.is at c.requires.operands in
    let set = sym (c.word-occupied.ensures j lt ∙ ap (λ o. is_set_at o.items (64 * c.args.block + j)) c.occupancy.ensures ∙ occupied_at rows (64 * c.args.block + j)) ∙ on in
    subst (λ r. IsPlaced c.args.texts.now (datum_at j r)) (sym c.index-before-left-in-Compare.is)
    (placed_at c.args.texts.now j c.args.before.now c.in-Compare.left c.index-before-left-in-Compare.result (c.requires.placed j lt set) before.0)

pub compare-into-requires-clause-right : goal.compare-into-requires-clause-right
compare-into-requires-clause-right c j lt on =
    let rows = c.args.batch.now.rows in
    let before = rw c.in-Compare.is at c.requires.operands in
    let set = sym (c.word-occupied.ensures j lt ∙ ap (λ o. is_set_at o.items (64 * c.args.block + j)) c.occupancy.ensures ∙ occupied_at rows (64 * c.args.block + j)) ∙ on in
    subst (λ r. IsPlaced c.args.texts.now (datum_at j r)) (sym c.index-before-right-in-Compare.is)
    (placed_at c.args.texts.now j c.args.before.now c.in-Compare.right c.index-before-right-in-Compare.result (c.requires.placed j lt set) before.1)

pub returns-in-Compare-clause-value : goal.returns-in-Compare-clause-value
returns-in-Compare-clause-value c j lt on =
    let rows = c.args.batch.now.rows in
    let texts = c.args.texts.now in
    let before = rw c.in-Compare.is at c.requires.operands in
    let set = c.word-occupied.ensures j lt ∙ ap (λ o. is_set_at o.items (64 * c.args.block + j)) c.occupancy.ensures ∙ occupied_at rows (64 * c.args.block + j) ∙ on in
    let left = operand_at texts j c.args.before.now c.in-Compare.left c.index-before-left-in-Compare.result before.0 ∙ ap (λ r. read_datum texts (datum_at j r)) (sym c.index-before-left-in-Compare.is) in
    let right = operand_at texts j c.args.before.now c.in-Compare.right c.index-before-right-in-Compare.result before.1 ∙ ap (λ r. read_datum texts (datum_at j r)) (sym c.index-before-right-in-Compare.is) in
    rw c.in-Compare.is (ap FlagValue (c.compare-into.ensures j lt set ∙ ap (is_met c.in-Compare.op) (ap₂ value_cmp (sym left) (sym right))))

pub returns-in-Constant-clause-value : goal.returns-in-Constant-clause-value
returns-in-Constant-clause-value c j lt on =
    let kind = rw c.in-Constant.is at c.requires.kind in
    rw c.in-Constant.is (constant_value c.args.texts.now c.args.batch.now.kinds _ c.args.into.now j kind (c.requires.constant _ c.in-Constant.is j lt) _ _)

pub returns-in-Constant-clause-placed : goal.returns-in-Constant-clause-placed
returns-in-Constant-clause-placed c j lt on =
    let kind = rw c.in-Constant.is at c.requires.kind in
    let placed = rw c.in-Constant.is at c.requires.step in
    rw c.in-Constant.is (constant_placed c.args.texts.now c.args.batch.now.kinds _ c.args.into.now j kind (c.requires.constant _ c.in-Constant.is j lt) placed)
