use Rattle.std.proofs.Common.{◌∙◌, ◌++◌, [], ◌∷◌, map, take, get_or, ap, sym}
use Rattle.std.proofs.lemmas.List.{take_more, map-append}
use Rattle.lane_expr.specs.Kernels.{Program, kind_for, result_kind}
use Rattle.where_select.proofs.project.Project.new.Goals as goal

pub loop-item-preserved : goal.loop-item-preserved
loop-item-preserved c =
    let items = c.deref-item-items.result.now in
    let i = c.loop-item.item-index in
    let k = c.item-item.result in
    let f = λ (p : Program). kind_for (result_kind p) in
    c.in_ok-push.ensures.items ∙ ap (λ xs. xs ++ c.kind.result ∷ []) c.loop-item.invariant
    ∙ ap (λ x. map f (take i items) ++ x ∷ []) (c.kind.ensures.kind ∙ ap f c.item-item.is)
    ∙ sym (map-append f (take i items) (get_or items i k ∷ []))
    ∙ ap (map f) (sym (take_more items i k c.loop-item-test.true))
