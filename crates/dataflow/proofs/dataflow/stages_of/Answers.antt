use Rattle.std.proofs.Common.{◌≡◌, ◌<◌, ◌∙◌, ◌++◌, List, [], ◌∷◌, length, map, take, drop, ap, sym, subst, arith}
use Rattle.std.specs.Prelude.{◌+◌}
use Rattle.std.proofs.lemmas.List.{length_push, length-map, take_all}
use Rattle.plan_model.specs.declared.expr.ExprNode.{ExprNode}
use Rattle.dataflow.specs.declared.stage.Stage.{Stage}
use Rattle.lane_expr.specs.Steps.{with_texts}
use Rattle.lane_expr.proofs.Typing.{BeginsWith-trans}
use Rattle.where_select.specs.Texts.{nodes_of_items, nodes_in, HasFirstTexts}
use Rattle.where_select.proofs.Tables.{texts_next, first_next, all_first, items_push, items_parts, on_err}
use Rattle.dataflow.proofs.Opening.{AreFreshTo, fresh_next, fresh_all, made_at, items_next}
use Rattle.dataflow.proofs.Stepping.{node_there}
use Rattle.dataflow.proofs.Running.{one_runs}
use Rattle.dataflow.specs.Shards.{RunAll}
use Rattle.dataflow.proofs.dataflow.stages_of.Goals as goal

pub loop-i-preserved : goal.loop-i-preserved
loop-i-preserved c =
    let before = c.loop-i.invariant in
    let pushed = c.in_ok-push.ensures.items in
    let plan = c.args.plan.now in
    let i = c.loop-i.i in
    let test = c.loop-i-test.true in
    let count = ap length c.nodes-i-end.ensures.nodes in
    let low : i < length plan.nodes = omega (arith, test, count) in
    let at = node_there plan.nodes i low in
    let starts = c.in_ok-new.ensures.starts in
    let items = map nodes_in plan.nodes in
    let next : take (i + 1) items ≡ take i items ++ nodes_in at.0 ∷ [] = items_next plan.nodes i at.0 low at.1 in
    record {
      count = ap length pushed ∙ length_push c.loop-i.stages.items c.in_ok-new.field-0 ∙ ap (λ m. m + 1) before.count;
      runs = subst (RunAll c.args.workers plan.nodes) (sym {A = List Stage} pushed) (one_runs c.args.workers plan.nodes c.loop-i.stages.items i c.in_ok-new.field-0 before.count c.in_ok-new.ensures.runs before.runs);
      fresh = subst (AreFreshTo c.new.new.texts c.args.capacity plan (i + 1)) (sym {A = List Stage} pushed)
          (fresh_next c.loop-i.texts c.new.new.texts c.new.ensures.begins c.args.capacity plan i c.loop-i.stages.items c.in_ok-new.field-0 before.count before.fresh
          (λ n there. (starts n there).ready) (λ n there. (starts n there).opens) (made_at plan.nodes i low c.in_ok-new.field-0 (λ n there. (starts n there).made)));
      table = c.in_ok-new.ensures.table at.0 at.1 ∙ texts_next c.args.texts.now c.loop-i.texts (nodes_of_items (take i items)) (nodes_in at.0) before.table
          ∙ ap (with_texts c.args.texts.now) (sym (items_push (take i items) (nodes_in at.0)) ∙ ap nodes_of_items (sym {A = List (List ExprNode)} next));
      begins = BeginsWith-trans c.new.new.texts c.loop-i.texts c.args.texts.now c.new.ensures.begins before.begins;
    }

pub returns-in_err-new-clause-err : goal.returns-in_err-new-clause-err
returns-in_err-new-clause-err c =
    let plan = c.args.plan.now in
    let i = c.loop-i.i in
    let test = c.loop-i-test.true in
    let count = ap length c.nodes-i-end.ensures.nodes in
    let low : i < length plan.nodes = omega (arith, test, count) in
    let at = node_there plan.nodes i low in
    let items = map nodes_in plan.nodes in
    on_err c.from_residual.result _
    (subst (HasFirstTexts c.new.new.texts c.args.texts.now) (sym (items_parts items i (nodes_in at.0) (items_next plan.nodes i at.0 low at.1)))
    (first_next c.new.new.texts c.args.texts.now c.loop-i.texts (nodes_of_items (take i items)) (nodes_in at.0) (nodes_of_items (drop (i + 1) items)) c.loop-i.invariant.table (c.in_err-new.ensures.err at.0 at.1)))

pub returns-in_err-push-clause-err : goal.returns-in_err-push-clause-err
returns-in_err-push-clause-err c =
    let plan = c.args.plan.now in
    let i = c.loop-i.i in
    let test = c.loop-i-test.true in
    let count = ap length c.nodes-i-end.ensures.nodes in
    let low : i < length plan.nodes = omega (arith, test, count) in
    let at = node_there plan.nodes i low in
    let items = map nodes_in plan.nodes in
    on_err c.from_residual-in_err-push.result _
    (subst (HasFirstTexts c.new.new.texts c.args.texts.now) (sym (items_parts items i (nodes_in at.0) (items_next plan.nodes i at.0 low at.1)))
    (first_next c.new.new.texts c.args.texts.now c.loop-i.texts (nodes_of_items (take i items)) (nodes_in at.0) (nodes_of_items (drop (i + 1) items)) c.loop-i.invariant.table
    (all_first c.new.new.texts c.loop-i.texts (nodes_in at.0) (c.in_ok-new.ensures.table at.0 at.1))))

pub returns-clause-fresh : goal.returns-clause-fresh
returns-clause-fresh c =
    let before = c.loop-i.invariant in
    let nodes = ap length c.nodes-i-end.ensures.nodes in
    let test = c.loop-i-test.false in
    let bound = c.loop-i.auto.i-end in
    let end : c.loop-i.i ≡ length c.args.plan.now.nodes = omega (arith, test, bound, nodes) in
    fresh_all c.loop-i.texts c.args.capacity c.args.plan.now c.loop-i.stages.items (before.count ∙ end) (subst (λ k. AreFreshTo c.loop-i.texts c.args.capacity c.args.plan.now k c.loop-i.stages.items) end before.fresh)

pub returns-clause-table : goal.returns-clause-table
returns-clause-table c =
    let items = map nodes_in c.args.plan.now.nodes in
    let nodes = ap length c.nodes-i-end.ensures.nodes in
    let test = c.loop-i-test.false in
    let long = length-map c.args.plan.now.nodes nodes_in in
    c.loop-i.invariant.table ∙ ap (λ l. with_texts c.args.texts.now (nodes_of_items l)) (take_all c.loop-i.i items (omega (arith, test, nodes, long)))
