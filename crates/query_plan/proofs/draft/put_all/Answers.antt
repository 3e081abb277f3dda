use Rattle.std.proofs.Common.{[], ◌∷◌, ◌++◌, ap, ◌∙◌}
use Rattle.query_plan.specs.Draft.{Planned}
use Rattle.query_plan.proofs.Growing.{mapped_more, levels_next}
use Rattle.query_plan.proofs.draft.put_all.Goals as goal

pub loop-next-preserved : goal.loop-next-preserved
loop-next-preserved c =
    let p = c.in-Some.next in
    let node = ap (λ (q : Planned). q.node) c.next-in-loop-next.view_is in
    let schema = ap (λ (q : Planned). q.schema) c.next-in-loop-next.view_is in (
      c.in_ok-push-2.ensures.items ∙ (ap (λ x. c.loop-next.nodes.items ++ x ∷ []) node ∙ mapped_more (λ (q : Planned). q.node) c.args.nodes.now.items c.loop-next.nodes.items c.loop-next.yielded p c.loop-next.invariant.0),
      c.in_ok-push-3.ensures.items ∙ (ap (λ x. c.loop-next.schemas.items ++ x ∷ []) schema ∙ mapped_more (λ (q : Planned). q.schema) c.args.schemas.now.items c.loop-next.schemas.items c.loop-next.yielded p c.loop-next.invariant.1),
      levels_next c.loop-next.nodes.items _ c.next-in-loop-next.inside.node c.loop-next.levels.items c.deref.result.now _ c.next_level-level.result
          c.loop-next.invariant.2 c.deref.ensures.value c.next_level-level.ensures c.in_ok-push.ensures.items c.in_ok-push-2.ensures.items,
    )
