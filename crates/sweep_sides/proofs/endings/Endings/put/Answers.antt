use Rattle.std.proofs.Common.{◌∙◌, ◌∷◌, ◌++◌, [], drop, ap, subst, sym}
use Rattle.std.specs.List.Sorted.{IsPermutation}
use Rattle.std.proofs.lemmas.List.{drop-append-le, with_items_is}
use Rattle.std.proofs.lemmas.List.Sorted.{IsPermutation-sym, IsPermutation-to_front, IsPermutation-trans}
use Rattle.sweep_sides.proofs.endings.Endings.put.Goals as goal

pub returns : goal.returns
returns c =
    let came = c.self.inside.came in
    let end = c.args.end in
    let pushed = ap (drop came) (c.deref_mut.ensures.value ∙ c.in_ok-push.ensures.items)
    ∙ (drop-append-le came c.self.inside.list.items (end ∷ []) c.self.invariant ∙ ap (λ l. l ++ end ∷ []) c.self.view_is) in
    let moved = IsPermutation-trans _ _ _ (IsPermutation-sym _ _ (IsPermutation-to_front c.args.self.now end))
    (subst (λ l. IsPermutation l (drop came c.sift_from.new.ends)) pushed c.sift_from.ensures) in
    subst (λ l. IsPermutation (end ∷ c.args.self.now) (drop came l))
    (sym (with_items_is c.push.new.self c.sift_from.new.ends (c.sift_from.auto.ends ∙ c.deref_mut.ensures.len))) moved
