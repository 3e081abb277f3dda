use Rattle.std.specs.List.{list_all}
use Rattle.std.proofs.Common.{sym, ◌∙◌, ap, subst, refl}
use Rattle.std.proofs.lemmas.List.{drop_all}
use Rattle.synopsis.specs.Holding.{may_follow, AreApart}
use Rattle.synopsis.proofs.EdgesApart.{apart_by}
use Rattle.synopsis.proofs.edges.are_apart.Goals as goal

pub returns-then-not-all_follow : goal.returns-then-not-all_follow
returns-then-not-all_follow c =
    let by = apart_by c.args.edges.now c.loop-i.i c.index-edges-i.result _ c.loop-i-test.true c.index-edges-i.is in
    let stays = ap (list_all (may_follow c.index-edges-i.result)) (sym c.rest.ensures) ∙ (sym c.all_follow.ensures ∙ c.if-not-all_follow.true) in
    (λ never. absurd cc, λ apart. sym stays ∙ (by.0 (c.loop-i.invariant.1 apart)).0)

pub loop-i-preserved : goal.loop-i-preserved
loop-i-preserved c =
    let by = apart_by c.args.edges.now c.loop-i.i c.index-edges-i.result _ c.loop-i-test.true c.index-edges-i.is in
    let follow = ap (list_all (may_follow c.index-edges-i.result)) (sym c.rest.ensures) ∙ (sym c.all_follow.ensures ∙ c.if-not-all_follow.false) in
    (λ apart. c.loop-i.invariant.0 (by.1 (follow, apart)), λ apart. (by.0 (c.loop-i.invariant.1 apart)).1)

pub returns : goal.returns
returns c = (λ _. c.loop-i.invariant.0 (subst AreApart (sym (drop_all c.loop-i.i c.args.edges.now c.loop-i-test.false)) tt), λ _. refl)
