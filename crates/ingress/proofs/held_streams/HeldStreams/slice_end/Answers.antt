use Rattle.std.specs.Prelude.{◌≡◌, ◌+◌, ◌<◌}
use Rattle.std.proofs.Common.{◌∙◌, ap, subst, arith}
use Rattle.ingress.specs.Slices.{all_below}
use Rattle.ingress.proofs.Below.{all_below_zero, all_rise, room_found, room_missing, not_before}
use Rattle.ingress.proofs.EndsFound.{comes_before, end_all, end_at, end_second}
use Rattle.ingress.proofs.held_streams.HeldStreams.slice_end.Goals as goal

pub returns-then-is_some-clause-end : goal.returns-then-is_some-clause-end
returns-then-is_some-clause-end c = λ edges below same.
    let w = c.args.self.now.waiting.items in
    let z = all_below_zero w in
    let few = room_found c.room_left.result (all_below c.args.p w) (all_below 0 w + c.args.batch) (let e = c.is_some.ensures in let t = c.if-is_some.true in cc) c.room_left.ensures.some in
    end_all w c.args.batch c.args.p edges below same (omega (arith, few, z))

pub last_within-last-requires-clause-none : goal.last_within-last-requires-clause-none
last_within-last-requires-clause-none c = c.first_between-first.ensures.none ∙ all_below_zero c.args.self.now.waiting.items

pub returns-then-is_before-clause-within : goal.returns-then-is_before-clause-within
returns-then-is_before-clause-within c =
    let w = c.args.self.now.waiting.items in
    let z = all_below_zero w in
    let n = room_missing c.room_left.result (all_below 0 w + c.args.batch < all_below c.args.p w) (let e = c.is_some.ensures in let t = c.if-is_some.false in cc) c.room_left.ensures.none in
    let many : c.args.batch < all_below c.args.p w = omega (arith, n, z) in
    let first = c.first_between-first.result in
    let last = c.last_within-last.result in
    let none = c.first_between-first.ensures.none ∙ z in
    let some = c.first_between-first.ensures.some (comes_before w first c.args.p c.args.batch (omega (arith, none)) many) in
    let low = comes_before w last c.args.p c.args.batch c.last_within-last.ensures.within many in
    omega (arith, low)

pub returns-then-is_before-clause-later : goal.returns-then-is_before-clause-later
returns-then-is_before-clause-later c = λ t low zero.
    let w = c.args.self.now.waiting.items in
    let z = all_below_zero w in
    let n = room_missing c.room_left.result (all_below 0 w + c.args.batch < all_below c.args.p w) (let e = c.is_some.ensures in let t = c.if-is_some.false in cc) c.room_left.ensures.none in
    let many : c.args.batch < all_below c.args.p w = omega (arith, n, z) in
    let first = c.first_between-first.result in
    let last = c.last_within-last.result in
    let none = c.first_between-first.ensures.none ∙ z in
    let some = c.first_between-first.ensures.some (comes_before w first c.args.p c.args.batch (omega (arith, none)) many) in
    let less = c.is_before.ensures.test.0 c.if-is_before.true in
    let up = all_rise (first + 1) last w (omega (arith, less)) in
    comes_before w t last 0 (omega (arith, zero)) (omega (arith, up, some))

pub returns-then-is_before-clause-end : goal.returns-then-is_before-clause-end
returns-then-is_before-clause-end c = λ edges below same.
    let w = c.args.self.now.waiting.items in
    let z = all_below_zero w in
    let n = room_missing c.room_left.result (all_below 0 w + c.args.batch < all_below c.args.p w) (let e = c.is_some.ensures in let t = c.if-is_some.false in cc) c.room_left.ensures.none in
    let many : c.args.batch < all_below c.args.p w = omega (arith, n, z) in
    let first = c.first_between-first.result in
    let last = c.last_within-last.result in
    let none = c.first_between-first.ensures.none ∙ z in
    let some = c.first_between-first.ensures.some (comes_before w first c.args.p c.args.batch (omega (arith, none)) many) in
    let less = c.is_before.ensures.test.0 c.if-is_before.true in
    let up = all_rise (first + 1) last w (omega (arith, less)) in
    end_at w c.args.batch c.args.p edges below same many last (omega (arith, up, some)) c.last_within-last.ensures.within c.last_within-last.ensures.more

pub returns-clause-later : goal.returns-clause-later
returns-clause-later c = λ t low zero.
    let w = c.args.self.now.waiting.items in
    let z = all_below_zero w in
    let n = room_missing c.room_left.result (all_below 0 w + c.args.batch < all_below c.args.p w) (let e = c.is_some.ensures in let t = c.if-is_some.false in cc) c.room_left.ensures.none in
    let many : c.args.batch < all_below c.args.p w = omega (arith, n, z) in
    let first = c.first_between-first.result in
    let last = c.last_within-last.result in
    let none = c.first_between-first.ensures.none ∙ z in
    let some = c.first_between-first.ensures.some (comes_before w first c.args.p c.args.batch (omega (arith, none)) many) in
    let k = c.next_time.result in
    let second = c.first_between.result in
    let next = c.first_between.ensures in
    let is = ap (λ t. all_below t w) c.next_time.ensures in
    let alike = next.none in
    comes_before w t second 0 (omega (arith, zero)) (omega (arith, alike, is, some))

pub returns-clause-end : goal.returns-clause-end
returns-clause-end c = λ edges below same.
    let w = c.args.self.now.waiting.items in
    let z = all_below_zero w in
    let n = room_missing c.room_left.result (all_below 0 w + c.args.batch < all_below c.args.p w) (let e = c.is_some.ensures in let t = c.if-is_some.false in cc) c.room_left.ensures.none in
    let many : c.args.batch < all_below c.args.p w = omega (arith, n, z) in
    let first = c.first_between-first.result in
    let last = c.last_within-last.result in
    let none = c.first_between-first.ensures.none ∙ z in
    let some = c.first_between-first.ensures.some (comes_before w first c.args.p c.args.batch (omega (arith, none)) many) in
    let k = c.next_time.result in
    let second = c.first_between.result in
    let next = c.first_between.ensures in
    let is = ap (λ t. all_below t w) c.next_time.ensures in
    let from = c.last_within-last.ensures.from in
    let past = not_before c.is_before.result first last c.is_before.ensures.test.1 c.if-is_before.false in
    let at : last ≡ first = omega (arith, from, past) in
    end_second w c.args.batch c.args.p edges below same many first k second c.next_time.ensures none
    (subst (λ t. c.args.batch < all_below (t + 1) w) at c.last_within-last.ensures.more) next.within.0 next.within.1 next.none next.some
