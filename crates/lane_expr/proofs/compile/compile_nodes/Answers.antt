use Rattle.std.proofs.Common.{◌≡◌, ◌∙◌, ◌+◌, ◌<◌, ◌++◌, ℕ, zero, suc, List, length, get_or, arith, [], ◌∷◌, take, ap, sym, subst, Result, Ok, Err, OnErr}
use Rattle.std.proofs.lemmas.List.{take_more}
use Rattle.plan_model.specs.declared.expr.ExprNode.{ExprNode}
use Rattle.plan_model.specs.IsExpr.{IsExprNode, AreExprNodes}
use Rattle.lane_expr.specs.Steps.{expr_of, AreStepsPlaced, with_texts}
use Rattle.lane_expr.proofs.Typing.{nodes_next, placed_next, with_texts-next, BeginsWith-trans}
use Rattle.lane_expr.proofs.compile.compile_nodes.Goals as goal

node_at : (first : ℕ) (ns : List ExprNode) (k : ℕ) (d : ExprNode) → AreExprNodes first ns → k < length ns → IsExprNode (first + k) (get_or ns k d)
node_at first [] k d h lt = absurd (omega arith)
node_at first (n ∷ ns) zero d h lt =
    let same : first ≡ first + 0 = omega arith in
    subst (λ i. IsExprNode i n) same h.0
node_at first (n ∷ ns) (suc k) d h lt =
    let next : suc first + k ≡ first + suc k = omega arith in
    subst (λ i. IsExprNode i (get_or ns k d)) next (node_at (suc first) ns k d h.1 (omega arith))

pub compile_node-requires : goal.compile_node-requires
compile_node-requires c =
    let k = c.loop-node.node-index in
    (0 + k, subst (IsExprNode (0 + k)) (sym c.node-item.is) (node_at 0 c.args.nodes.now k c.node-item.result c.requires c.loop-node-test.true))

OnErr-always : {A E : Type 0} (r : Result A E) (P : Type 0) → P → OnErr r P
OnErr-always (Ok a) P p = tt
OnErr-always (Err e) P p = p

pub returns-in_err-push-clause-err : goal.returns-in_err-push-clause-err
returns-in_err-push-clause-err c =
    let n = c.node-item.result in
    let k = c.loop-node.node-index in
    let next : take (k + 1) c.args.nodes.now ≡ take k c.args.nodes.now ++ n ∷ [] = take_more c.args.nodes.now k n c.loop-node-test.true ∙ ap (λ m. take k c.args.nodes.now ++ m ∷ []) (sym c.node-item.is) in
    OnErr-always c.from_residual-in_err-push.result _ (k + 1, c.in_ok-compile_node.ensures.table ∙ with_texts-next c.args.texts.now c.loop-node.texts (take k c.args.nodes.now) n c.loop-node.invariant.table ∙ ap (with_texts c.args.texts.now) (sym next))

pub loop-node-preserved : goal.loop-node-preserved
loop-node-preserved c =
    let n = c.node-item.result in
    let k = c.loop-node.node-index in
    let next : take (k + 1) c.args.nodes.now ≡ take k c.args.nodes.now ++ n ∷ [] = take_more c.args.nodes.now k n c.loop-node-test.true ∙ ap (λ m. take k c.args.nodes.now ++ m ∷ []) (sym c.node-item.is) in
    let s = c.in_ok-compile_node.field-0 in
    record {
      steps = ap (expr_of c.compile_node.new.texts) c.in_ok-push.ensures.items
          ∙ nodes_next c.loop-node.texts c.compile_node.new.texts c.loop-node.steps.items s (take k c.args.nodes.now) n c.compile_node.ensures.begins c.loop-node.invariant.placed c.loop-node.invariant.steps c.in_ok-compile_node.ensures.step
          ∙ sym next;
      placed = subst (AreStepsPlaced c.compile_node.new.texts) (sym c.in_ok-push.ensures.items) (placed_next c.loop-node.texts c.compile_node.new.texts c.loop-node.steps.items s c.compile_node.ensures.begins c.loop-node.invariant.placed c.in_ok-compile_node.ensures.placed);
      table = c.in_ok-compile_node.ensures.table ∙ with_texts-next c.args.texts.now c.loop-node.texts (take k c.args.nodes.now) n c.loop-node.invariant.table ∙ ap (with_texts c.args.texts.now) (sym next);
      begins = BeginsWith-trans c.compile_node.new.texts c.loop-node.texts c.args.texts.now c.compile_node.ensures.begins c.loop-node.invariant.begins;
    }
