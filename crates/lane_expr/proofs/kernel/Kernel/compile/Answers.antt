use Rattle.std.proofs.Common.{◌≡◌, ◌∙◌, ℕ, List, [], map, ap, sym, subst}
use Rattle.tw_rows.specs.Kinds.{cell_kind_of}
use Rattle.tw_rows.specs.declared.kind.CellKind.{CellKind}
use Rattle.plan_model.specs.declared.expr.ExprNode.{ExprNode}
use Rattle.plan_model.specs.IsExpr.{IsExpr}
use Rattle.plan_model.specs.Typed.{IsTyped, kind_of}
use Rattle.lane_expr.specs.declared.step.Step.{Step}
use Rattle.lane_expr.specs.Registers.{AreFilled}
use Rattle.lane_expr.specs.Steps.{AreSteps, expr_of, step_kind}
use Rattle.lane_expr.proofs.Typing.{AreSteps-compiled, kind_of-texts}
use Rattle.lane_expr.proofs.kernel.Kernel.compile.Goals as goal

compiled : (kinds columns : List CellKind) (texts : List (List ℕ)) (steps : List Step) (expr : List ExprNode) → kinds ≡ columns → expr_of texts steps ≡ expr → IsExpr expr → IsTyped columns expr → AreSteps kinds steps
compiled kinds columns texts steps expr e same is typed = subst (λ ks. AreSteps ks steps) (sym e) (AreSteps-compiled columns texts steps expr same is typed)

pub registers_of-requires : goal.registers_of-requires
registers_of-requires c =
    subst (λ ks. AreSteps ks c.deref.result.now) (sym c.deref-2.ensures.value) (subst (AreSteps c.in_ok-kinds.kinds.items) (sym c.deref.ensures.value)
    (compiled c.in_ok-kinds.kinds.items _ c.compile_nodes.new.texts c.in_ok-steps.steps.items c.args.expr.now c.in_ok-kinds.ensures (c.in_ok-steps.ensures.steps ∙ c.items.ensures.nodes) c.items.ensures.kept c.requires))

pub invariant_of-result : goal.invariant_of-result
invariant_of-result c =
    let steps : AreSteps c.in_ok-kinds.kinds.items c.in_ok-steps.steps.items = compiled c.in_ok-kinds.kinds.items _ c.compile_nodes.new.texts c.in_ok-steps.steps.items c.args.expr.now c.in_ok-kinds.ensures (c.in_ok-steps.ensures.steps ∙ c.items.ensures.nodes) c.items.ensures.kept c.requires in
    (steps, c.in_ok-registers.ensures.kinds ∙ ap (λ ss. map (step_kind c.deref-2.result.now) ss) c.deref.ensures.value ∙ ap (λ ks. map (step_kind ks) c.in_ok-steps.steps.items) c.deref-2.ensures.value, subst (λ ss. AreFilled ss c.in_ok-registers.registers.items) c.deref.ensures.value c.in_ok-registers.ensures.filled)

pub returns-clause-result : goal.returns-clause-result
returns-clause-result c =
    ap (kind_of (expr_of [] c.in_ok-steps.steps.items)) c.in_ok-kinds.ensures
    ∙ kind_of-texts (map cell_kind_of c.args.kinds.now) c.compile_nodes.new.texts c.in_ok-steps.steps.items
    ∙ ap (λ e. kind_of e (map cell_kind_of c.args.kinds.now)) (c.in_ok-steps.ensures.steps ∙ c.items.ensures.nodes)
