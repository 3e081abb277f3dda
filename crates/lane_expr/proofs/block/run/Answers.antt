use Rattle.std.proofs.Common.{◌≢◌, ◌⊎◌, inl, inr, ℕ, zero, suc, List, ◌≡◌, ◌∙◌, ◌+◌, ◌*◌, ◌<◌, ◌≤◌, [], pos, true, false, length, map, take, get_or, ap, sym, subst, arith, ◌++◌, ◌∷◌}
use Rattle.std.proofs.lemmas.List.{take-map, take_more, take_all, length-map, get_or-map}
use Rattle.occupancy.specs.Bits.{is_set_at, test}
use Rattle.occupancy.proofs.Places.{test-zero}
use Rattle.tw_rows.specs.declared.cells.Datum.TheVariants.{Int}
use Rattle.tw_rows.specs.declared.kind.CellKind.TheVariants.{Whole}
use Rattle.tw_rows.specs.Cells.{read_cells}
use Rattle.plan_model.specs.IsExpr.{IsExprNode}
use Rattle.plan_model.specs.Expr.{node_value}
use Rattle.plan_model.specs.Typed.{IsTypedNode}
use Rattle.lane_expr.specs.declared.step.Step.TheVariants.{Column, Constant}
use Rattle.lane_expr.specs.declared.step.Step.{Step}
use Rattle.lane_expr.specs.declared.registers.Register.{Register}
use Rattle.tw_rows.specs.declared.cells.Datum.{Datum}
use Rattle.std.proofs.lemmas.Bool.{cases_order}
use Rattle.lane_expr.specs.Steps.{node_of, step_kind, IsStepWithin, IsStepPlaced}
use Rattle.lane_expr.specs.Running.{operand, cells_of, no_row}
use Rattle.lane_expr.specs.Registers.{datum_at, IsOccupied, is_constant, AreFilled}
use Rattle.lane_expr.proofs.Typing.{IsExprNode-step, IsStepWithin-at, IsStepPlaced-at, IsTypedNode-step, AreSteps-some}
use Rattle.lane_expr.proofs.Stepping.{Stands, Stands-next, Stands-value, Stands-placed}
use Rattle.lane_expr.proofs.Operands.{occupied_at, kind_at, as_many}
use Rattle.lane_expr.proofs.block.run.Goals as goal

pub returns-then-word-eq0-clause-results : goal.returns-then-word-eq0-clause-results
returns-then-word-eq0-clause-results c j lt =
    let rows = c.args.batch.now.rows in
    let at = 64 * c.args.block + j in
    let free : (get_or rows at no_row).occupied ≡ false = sym (c.word.ensures j lt ∙ ap (λ o. is_set_at o.items at) c.occupancy.ensures ∙ occupied_at rows at) ∙ ap (λ w. test w j) c.if-word-eq0.true ∙ test-zero j in
    record { read = λ on. absurd (differ (sym free ∙ on)); placed = λ on. absurd (differ (sym free ∙ on)) }
  where
    differ : false ≡ true → ⊥
    differ e = cc

-- a step that is there, whatever stands for a missing one
in_default : (steps : List Step) (k : ℕ) (s : Step) → k < length steps → s ≡ get_or steps k s → get_or steps k (Column 0) ≡ s
in_default [] k s lt is = absurd (omega arith)
in_default (x ∷ xs) zero s lt is = sym is
in_default (x ∷ xs) (suc k) s lt is = in_default xs k s (omega arith) is

by_default : (steps : List Step) (k : ℕ) (s : Step) → s ≡ get_or steps k s → (d : Datum) → get_or steps k (Column 0) ≡ Constant d → s ≡ Constant d
by_default [] k s is d e = absurd (cc)
by_default (x ∷ xs) zero s is d e = is ∙ e
by_default (x ∷ xs) (suc k) s is d e = by_default xs k s is d e

pub run_at-requires-clause-operands : goal.run_at-requires-clause-operands
run_at-requires-clause-operands c =
    subst (λ s. IsExprNode c.loop-to.to (node_of [] s)) (sym c.index-steps-to.is) (IsExprNode-step c.args.batch.now.kinds c.args.steps.now c.loop-to.to c.index-steps-to.result c.requires.steps c.loop-to-test.true)

pub run_at-requires-clause-within : goal.run_at-requires-clause-within
run_at-requires-clause-within c =
    subst (IsStepWithin c.args.batch.now.kinds) (sym c.index-steps-to.is) (IsStepWithin-at c.args.batch.now.kinds c.args.steps.now c.loop-to.to c.index-steps-to.result c.requires.steps c.loop-to-test.true)

pub run_at-requires-clause-typed : goal.run_at-requires-clause-typed
run_at-requires-clause-typed c =
    let steps = c.args.steps.now in
    let k = c.loop-to.to in
    let kinds = ap (take k) (c.loop-to.invariant.kinds ∙ c.requires.kinds) ∙ take-map (step_kind c.args.batch.now.kinds) k steps in
    subst (λ ks. IsTypedNode c.args.batch.now.kinds ks (node_of [] c.index-steps-to.result)) (sym kinds)
    (subst (λ s. IsTypedNode c.args.batch.now.kinds (map (step_kind c.args.batch.now.kinds) (take k steps)) (node_of [] s)) (sym c.index-steps-to.is)
    (IsTypedNode-step c.args.batch.now.kinds steps k c.index-steps-to.result c.requires.steps c.loop-to-test.true))

pub run_at-requires-clause-step : goal.run_at-requires-clause-step
run_at-requires-clause-step c =
    subst (IsStepPlaced c.args.texts.now) (sym c.index-steps-to.is) (IsStepPlaced-at c.args.texts.now c.args.steps.now c.loop-to.to c.index-steps-to.result c.requires.placed c.loop-to-test.true)

-- constants stay, whatever step ran
filled_next : (steps : List Step) (old new : List Register) (k : ℕ) (s : Step) → s ≡ get_or steps k s → ((i j : ℕ) → i ≢ k → get_or (map (datum_at j) new) i (Int (pos 0)) ≡ get_or (map (datum_at j) old) i (Int (pos 0)))
    → ((j : ℕ) → is_constant s ≡ true → get_or (map (datum_at j) new) k (Int (pos 0)) ≡ get_or (map (datum_at j) old) k (Int (pos 0))) → AreFilled steps old → AreFilled steps new
filled_next steps old new k s is others constant filled i j lt d e = at (cases_order i k)
  where
    at : (i ≡ k) ⊎ ((i < k) ⊎ (k < i)) → get_or (map (datum_at j) new) i (Int (pos 0)) ≡ d
    at (inl same) =
        let here : get_or steps k (Column 0) ≡ Constant d = ap (λ n. get_or steps n (Column 0)) (sym same) ∙ e in
        let kept : is_constant s ≡ true = ap is_constant (by_default steps k s is d here) in
        ap (λ n. get_or (map (datum_at j) new) n (Int (pos 0))) same ∙ constant j kept ∙ filled k j lt d here
    at (inr (inl l)) = others i j (λ same. omega arith) ∙ filled i j lt d e
    at (inr (inr g)) = others i j (λ same. omega arith) ∙ filled i j lt d e

pub run_at-requires-clause-constant : goal.run_at-requires-clause-constant
run_at-requires-clause-constant c d e j lt =
    c.loop-to.invariant.filled c.loop-to.to j lt d (in_default c.args.steps.now c.loop-to.to c.index-steps-to.result c.loop-to-test.true c.index-steps-to.is ∙ e)

pub loop-to-preserved : goal.loop-to-preserved
loop-to-preserved c =
    let texts = c.args.texts.now in
    let columns = c.args.batch.now.kinds in
    let rows = c.args.batch.now.rows in
    let steps = c.args.steps.now in
    let k = c.loop-to.to in
    let s = c.index-steps-to.result in
    let new = c.run_at.new.registers in
    let kinds = c.run_at.ensures.kinds ∙ c.loop-to.invariant.kinds in
    let all = as_many columns new steps (kinds ∙ c.requires.kinds) in
    record {
      kinds = kinds;
      filled = filled_next steps c.loop-to.registers new k s c.index-steps-to.is c.run_at.ensures.others c.run_at.ensures.constant c.loop-to.invariant.filled;
      held = λ j lt on.
          let at = 64 * c.args.block + j in
          let x = get_or (map (datum_at j) new) k (Int (pos 0)) in
          let before = c.run_at.ensures.before j in
          let long = length-map new (datum_at j) in
          let more = take_more (map (datum_at j) new) k (Int (pos 0)) (omega (arith, long, all, c.loop-to-test.true)) ∙ ap (λ ds. ds ++ x ∷ []) before in
          let value = c.run_at.ensures.value j lt on ∙ ap (λ t. node_value (read_cells texts (cells_of rows at)) (node_of texts t) (operand texts (take k (map (datum_at j) c.loop-to.registers)))) c.index-steps-to.is in
          let kind = kind_at j new k ∙ ap (λ ks. get_or ks k Whole) (kinds ∙ c.requires.kinds) ∙ get_or-map (step_kind columns) steps k s Whole c.loop-to-test.true in
          subst (Stands texts columns (cells_of rows at) steps (k + 1)) (sym more)
          (Stands-next texts columns (cells_of rows at) steps k (take k (map (datum_at j) c.loop-to.registers)) (c.loop-to.invariant.held j lt on) c.loop-to-test.true s x value kind (c.run_at.ensures.placed j lt on));
    }

pub returns-clause-results : goal.returns-clause-results
returns-clause-results c j lt =
    let texts = c.args.texts.now in
    let columns = c.args.batch.now.kinds in
    let rows = c.args.batch.now.rows in
    let steps = c.args.steps.now in
    let at = 64 * c.args.block + j in
    let past : length steps ≤ c.loop-to.to = c.loop-to-test.false in
    let some = AreSteps-some columns steps c.requires.steps in
    let cells_j = map (datum_at j) c.loop-to.registers in
    let all = take_all c.loop-to.to cells_j (omega (arith, past, length-map c.loop-to.registers (datum_at j), as_many columns c.loop-to.registers steps (c.loop-to.invariant.kinds ∙ c.requires.kinds))) in
    let stands = λ (on : IsOccupied rows at). subst (Stands texts columns (cells_of rows at) steps c.loop-to.to) all (c.loop-to.invariant.held j lt on) in
    record {
      read = λ on. Stands-value texts columns (cells_of rows at) steps c.loop-to.to cells_j (stands on) past some;
      placed = λ on. Stands-placed texts columns (cells_of rows at) steps c.loop-to.to cells_j (stands on) past some;
    }
