use Rattle.std.proofs.Common.{◌≡◌, ◌+◌, ◌∙◌, [], ◌∷◌, ◌++◌, map, take, ap, sym, subst}
use Rattle.std.proofs.lemmas.List.{map-append, take_more}
use Rattle.lane_expr.specs.declared.registers.Register.{Register}
use Rattle.lane_expr.specs.Steps.{IsStepWithin, step_kind}
use Rattle.lane_expr.specs.Registers.{datum_of, AreFilled}
use Rattle.lane_expr.proofs.Typing.{IsStepWithin-at}
use Rattle.lane_expr.proofs.Filling.{filled_push, constant_kind}
use Rattle.lane_expr.proofs.Operands.{as_many}
use Rattle.lane_expr.proofs.compile.registers_of.Goals as goal

pub kind_of-requires : goal.kind_of-requires
kind_of-requires c = subst (IsStepWithin c.args.columns.now) (sym c.step-item.is) (IsStepWithin-at c.args.columns.now c.args.steps.now c.loop-step.step-index _ c.requires c.loop-step-test.true)

pub register_of-requires : goal.register_of-requires
register_of-requires c d e = constant_kind c.args.columns.now d ∙ ap (step_kind c.args.columns.now) (sym e) ∙ sym c.kind_of.ensures

pub loop-step-preserved : goal.loop-step-preserved
loop-step-preserved c =
    let steps = c.args.steps.now in
    let k = c.loop-step.step-index in
    let s = c.step-item.result in
    let r = c.register_of.result in
    let inv = c.loop-step.invariant in
    let more : take (k + 1) steps ≡ take k steps ++ s ∷ [] = take_more steps k s c.loop-step-test.true ∙ ap (λ x. take k steps ++ x ∷ []) (sym c.step-item.is) in
    let pushed = c.in_ok-push.ensures.items in
    record {
      kinds = ap (map (λ (x : Register). x.kind)) pushed ∙ map-append (λ (x : Register). x.kind) c.loop-step.registers.items (r ∷ [])
          ∙ ap (λ x. map (λ (y : Register). y.kind) c.loop-step.registers.items ++ x ∷ []) (c.register_of.ensures.kind ∙ c.kind_of.ensures)
          ∙ ap (λ ks. ks ++ step_kind c.args.columns.now s ∷ []) inv.kinds
          ∙ sym (map-append (step_kind c.args.columns.now) (take k steps) (s ∷ [])) ∙ ap (map (step_kind c.args.columns.now)) (sym more);
      filled = subst (λ ss. AreFilled ss c.push.new.self.items) (sym more) (subst (AreFilled (take k steps ++ s ∷ [])) (sym pushed)
          (filled_push (take k steps) c.loop-step.registers.items s r (as_many c.args.columns.now c.loop-step.registers.items (take k steps) inv.kinds) inv.filled (λ d e j lt. ap (λ n. datum_of n r j) c.register_of.ensures.kind ∙ c.register_of.ensures.constant d e j lt)));
    }
