use Rattle.std.specs.Prelude.{◌<◌, length, get_or, refl}
use Rattle.std.proofs.Common.{◌∙◌, ap, subst, arith}
use Rattle.ingress.proofs.Below.{first_next}
use Rattle.ingress.proofs.held_streams.HeldStreams.first_between.Goals as goal

pub loop-waiting-init : goal.loop-waiting-init
loop-waiting-init c = record {
  low = c.requires;
  high = omega arith;
  none = refl;
  some = λ less. absurd (omega (arith, less));
}

pub first_between-first-requires : goal.first_between-first-requires
first_between-first-requires c = c.loop-waiting.invariant.low

pub loop-waiting-preserved : goal.loop-waiting-preserved
loop-waiting-preserved c =
    let all = c.args.self.now.waiting.items in
    let same = c.deref-waiting-items.ensures.value in
    let i = c.loop-waiting.waiting-index in
    let l = c.waiting-item.result in
    let low = subst (λ w. i < length w) same c.loop-waiting-test.true in
    let is = c.waiting-item.is ∙ ap (λ w. get_or w i l) same in
    let one = c.first_between-first.ensures in
    first_next c.args.from c.args.to all i c.loop-waiting.first c.first_between-first.result l c.loop-waiting.invariant low is one.within one.none one.some
