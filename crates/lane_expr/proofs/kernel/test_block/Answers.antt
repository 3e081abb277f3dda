use Rattle.std.proofs.Common.{◌≡◌, ◌∙◌, ◌+◌, ◌*◌, ◌-◌, ◌&&◌, ℕ, Bool, true, false, length, get_or, ap, sym, refl, arith}
use Rattle.occupancy.specs.Bits.{is_set_at, test}
use Rattle.occupancy.proofs.Test.{test-and}
use Rattle.tw_rows.specs.declared.kind.CellKind.TheVariants.{Bit}
use Rattle.tw_rows.specs.Cells.{read_datum, read_cells}
use Rattle.plan_model.specs.Expr.{flag_of, holds}
use Rattle.lane_expr.specs.Steps.{expr_of}
use Rattle.lane_expr.specs.Running.{no_row}
use Rattle.lane_expr.proofs.Typing.{AreSteps-some}
use Rattle.lane_expr.proofs.Operands.{occupied_at, datum_is, last_kind, as_many}
use Rattle.lane_expr.proofs.kernel.test_block.Goals as goal

-- a bit that is the truth value at an occupied row
met : (bit occupied met : Bool) → (occupied ≡ true → bit ≡ met) → (bit && occupied) ≡ (occupied && met)
met true true m e = e refl
met false true m e = e refl
met true false m e = refl
met false false m e = refl

pub returns-clause-bits : goal.returns-clause-bits
returns-clause-bits c j lt =
    let texts = c.args.texts.now in
    let columns = c.args.batch.now.kinds in
    let rows = c.args.batch.now.rows in
    let steps = c.args.steps.now in
    let at = 64 * c.args.block + j in
    let new = c.run.new.registers in
    let kinds = c.run.ensures.kinds ∙ c.requires.kinds in
    let all = as_many columns new steps kinds in
    let some = AreSteps-some columns steps c.requires.steps in
    let d = c.index-registers-steps.result in
    let last = datum_is j new (length steps - 1) d Bit (omega (arith, all, some)) (last_kind columns new steps Bit kinds c.requires.bit) in
    let occupied = c.word.ensures j lt ∙ ap (λ o. is_set_at o.items at) c.occupancy.ensures ∙ occupied_at rows at in
    let result = c.run.ensures.results j lt in
    let bits : ℕ = (get_or new (length steps - 1) d).bits in
    test-and bits c.word.result j ∙ ap (λ b. test bits j && b) occupied
    ∙ met (test bits j) (get_or rows at no_row).occupied (holds (expr_of texts steps) (read_cells texts (get_or rows at no_row).cells)) (λ on. ap (λ x. flag_of (read_datum texts x)) (sym last) ∙ ap flag_of (result.read on))
