use Rattle.std.proofs.Common.{List, ◌≡◌, ◌∙◌, ◌+◌, ◌++◌, [], ◌∷◌, map, take, drop, ap, sym, subst}
use Rattle.std.specs.Prelude.{All}
use Rattle.std.proofs.lemmas.List.{take_more, map-append}
use Rattle.std.proofs.lemmas.List.Elements.{All-push}
use Rattle.tw_rows.specs.Kinds.{cell_kind_of}
use Rattle.plan_model.specs.declared.expr.ExprNode.{ExprNode}
use Rattle.lane_expr.specs.Kernels.{Program}
use Rattle.lane_expr.specs.Steps.{expr_of, AreStepsPlaced, with_texts}
use Rattle.lane_expr.proofs.Typing.{BeginsWith-trans}
use Rattle.where_select.specs.Projects.{exprs_of}
use Rattle.where_select.specs.Stages.{IsFor}
use Rattle.where_select.specs.Texts.{nodes_of_items, HasFirstTexts}
use Rattle.where_select.proofs.Tables.{texts_next, first_next, all_first, items_push, items_parts, on_err}
use Rattle.where_select.proofs.Nodes.{placed-more, exprs-more}
use Rattle.where_select.proofs.making.kernels_of.Goals as goal

pub returns-in_err-compile-clause-begins : goal.returns-in_err-compile-clause-begins
returns-in_err-compile-clause-begins c = BeginsWith-trans c.compile.new.texts c.loop-item.texts c.args.texts.now c.compile.ensures.begins c.loop-item.invariant.begins

pub loop-item-preserved : goal.loop-item-preserved
loop-item-preserved c =
    let before = c.loop-item.invariant in
    let texts = c.loop-item.texts in
    let more = c.compile.new.texts in
    let ks = c.loop-item.kernels.items in
    let k = c.in_ok-compile.field-0 in
    let i = c.loop-item.item-index in
    let item = c.item-item.result in
    let kernel = c.in_ok-compile.ensures.kernel in
    let begins = c.compile.ensures.begins in
    let pushed = c.in_ok-push.ensures.items in
    let steps = λ (x : Program). AreStepsPlaced more x.steps in
    let suits = IsFor c.args.capacity (map cell_kind_of c.args.kinds.now) in
    let next : take (i + 1) c.args.items.now ≡ take i c.args.items.now ++ item ∷ [] = take_more c.args.items.now i item c.loop-item-test.true ∙ ap (λ m. take i c.args.items.now ++ m ∷ []) (sym c.item-item.is) in
    let front : exprs_of more ks ≡ take i c.args.items.now = exprs-more texts more begins ks before.placed ∙ before.same in
    let last : expr_of more k.steps ≡ item = kernel.same in
    record {
      same = ap (exprs_of more) pushed ∙ map-append (λ x. expr_of more x.steps) ks (k ∷ []) ∙ (λ j. front j ++ last j ∷ []) ∙ sym {A = List (List ExprNode)} next;
      placed = subst (All steps) (sym {A = List Program} pushed) (All-push steps ks k (placed-more texts more begins ks before.placed) kernel.placed);
      suited = subst (All suits) (sym {A = List Program} pushed) (All-push suits ks k before.suited (record { alike = c.in_ok-compile.ensures.kinds; rows = c.in_ok-compile.ensures.capacity }));
      table = c.in_ok-compile.ensures.table ∙ texts_next c.args.texts.now texts (nodes_of_items (take i c.args.items.now)) item before.table ∙ ap (with_texts c.args.texts.now) (sym (items_push (take i c.args.items.now) item) ∙ ap nodes_of_items (sym {A = List (List ExprNode)} next));
      begins = BeginsWith-trans more texts c.args.texts.now begins before.begins;
    }

pub returns-in_err-compile-clause-err : goal.returns-in_err-compile-clause-err
returns-in_err-compile-clause-err c =
    let i = c.loop-item.item-index in
    let items = c.args.items.now in
    let item = c.item-item.result in
    let next : take (i + 1) items ≡ take i items ++ item ∷ [] = take_more items i item c.loop-item-test.true ∙ ap (λ m. take i items ++ m ∷ []) (sym c.item-item.is) in
    on_err c.from_residual.result _
    (subst (HasFirstTexts c.compile.new.texts c.args.texts.now) (sym (items_parts items i item next))
    (first_next c.compile.new.texts c.args.texts.now c.loop-item.texts (nodes_of_items (take i items)) item (nodes_of_items (drop (i + 1) items)) c.loop-item.invariant.table c.in_err-compile.ensures.err))

pub returns-in_err-push-clause-err : goal.returns-in_err-push-clause-err
returns-in_err-push-clause-err c =
    let i = c.loop-item.item-index in
    let items = c.args.items.now in
    let item = c.item-item.result in
    let next : take (i + 1) items ≡ take i items ++ item ∷ [] = take_more items i item c.loop-item-test.true ∙ ap (λ m. take i items ++ m ∷ []) (sym c.item-item.is) in
    on_err c.from_residual-in_err-push.result _
    (subst (HasFirstTexts c.compile.new.texts c.args.texts.now) (sym (items_parts items i item next))
    (first_next c.compile.new.texts c.args.texts.now c.loop-item.texts (nodes_of_items (take i items)) item (nodes_of_items (drop (i + 1) items)) c.loop-item.invariant.table
    (all_first c.compile.new.texts c.loop-item.texts item c.in_ok-compile.ensures.table)))
