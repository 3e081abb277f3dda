use Rattle.std.specs.Prelude.{◌<◌, length, get_or, refl}
use Rattle.std.proofs.Common.{◌∙◌, ap, subst}
use Rattle.ingress.proofs.Below.{all_more, all_past}
use Rattle.ingress.proofs.held_streams.HeldStreams.room_left.Goals as goal

pub returns-in_err-rest-clause-none : goal.returns-in_err-rest-clause-none
returns-in_err-rest-clause-none c = λ _.
    let all = c.args.self.now.waiting.items in
    let same = c.deref-waiting-items.ensures.value in
    let i = c.loop-waiting.waiting-index in
    let l = c.waiting-item.result in
    let low = subst (λ w. i < length w) same c.loop-waiting-test.true in
    let is = c.waiting-item.is ∙ ap (λ w. get_or w i l) same in
    all_past c.args.from c.args.to all i l c.args.room c.loop-waiting.rest low is c.requires c.loop-waiting.invariant (c.in_err-rest.ensures.none refl)

pub loop-waiting-preserved : goal.loop-waiting-preserved
loop-waiting-preserved c =
    let all = c.args.self.now.waiting.items in
    let same = c.deref-waiting-items.ensures.value in
    let i = c.loop-waiting.waiting-index in
    let l = c.waiting-item.result in
    let low = subst (λ w. i < length w) same c.loop-waiting-test.true in
    let is = c.waiting-item.is ∙ ap (λ w. get_or w i l) same in
    all_more c.args.from c.args.to all i l c.args.room c.loop-waiting.rest c.in_ok-rest.rest low is c.loop-waiting.invariant c.in_ok-rest.ensures.some
