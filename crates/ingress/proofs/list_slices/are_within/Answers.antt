use Rattle.std.specs.Prelude.{◌≡◌, ◌+◌, ◌<◌, IfSome, IsNone, refl}
use Rattle.std.proofs.Common.{subst}
use Rattle.ingress.specs.Slices.{count_below}
use Rattle.ingress.proofs.Listed.{list_more, list_past}
use Rattle.ingress.proofs.list_slices.are_within.Goals as goal

pub loop-list-preserved : goal.loop-list-preserved
loop-list-preserved c =
    let l = c.list-item.result in
    let rest = c.loop-list.rest in
    let one = subst (λ o. IfSome o (λ left. count_below c.args.to l.edges + left ≡ count_below c.args.from l.edges + rest)) c.in-Some.is c.in_ok-less.ensures.some in
    list_more c.args.from c.args.to c.args.lists.now c.loop-list.list-index l c.args.batch rest c.loop-list-test.true c.list-item.is c.loop-list.invariant c.in-Some.less one

pub returns-in-None-clause-no : goal.returns-in-None-clause-no
returns-in-None-clause-no c = λ _.
    let l = c.list-item.result in
    let rest = c.loop-list.rest in
    let one = subst (λ o. IsNone o → count_below c.args.from l.edges + rest < count_below c.args.to l.edges) c.in-None.is c.in_ok-less.ensures.none in
    list_past c.args.from c.args.to c.args.lists.now c.loop-list.list-index l c.args.batch rest c.loop-list-test.true c.list-item.is c.loop-list.invariant c.requires (one refl)
