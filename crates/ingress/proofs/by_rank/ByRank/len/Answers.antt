use Rattle.std.specs.Prelude.{◌++◌}
use Rattle.std.proofs.Common.{◌∙◌, ap, sym, length, arith}
use Rattle.std.proofs.lemmas.List.{length-append}
use Rattle.ingress.specs.Ranks.{edges_at}
use Rattle.ingress.proofs.by_rank.ByRank.len.Goals as goal

pub loop-edges-init : goal.loop-edges-init
loop-edges-init c =
    let e = ap length (ap edges_at (c.into_iter-edges-iterator.ensures.into_iter_gives ∙ c.iter-edges-items.ensures.rest) ∙ c.self.view_is) in
    record { count = omega (arith, e); within = omega arith }

pub loop-edges-preserved : goal.loop-edges-preserved
loop-edges-preserved c =
    let here = c.deref.result.now in
    let rest = edges_at c.next.new.self in
    let e = ap length (ap edges_at c.in-Some.ensures.steps ∙ sym (ap (λ x. x ++ edges_at c.next.new.self) c.deref.ensures.value)) in
    let l = length-append here rest in
    record { count = omega (arith, e, l); within = omega arith }

pub returns : goal.returns
returns c = let e = ap (λ it. length (edges_at it)) c.in-None.ensures.steps.0 in omega (arith, e)
