use Rattle.std.proofs.Common.{◌≡◌, ◌+◌, ◌-◌, ◌<◌, ◌≤◌, ℕ, length, arith}
use Rattle.std.specs.Prelude.{Some, None}
use Rattle.std.specs.Option.{SomeIff}
use Rattle.edge_stream.proofs.Passing.{rises_in, later_in, fewer_left, none_left, all_left}
use Rattle.edge_stream.proofs.counted.left_of.Goals as goal

-- what a difference that is there, or is not, tells of the numbers
some_left : (rest count left : ℕ) → SomeIff (Some left) (count ≤ rest) (rest - count) → left + count ≡ rest
some_left rest count left h = grind arith

too_few : (rest count : ℕ) → SomeIff {T = ℕ} None (count ≤ rest) (rest - count) → rest < count
too_few rest count h = grind arith

pub returns-in_err-rest-clause-none : goal.returns-in_err-rest-clause-none
returns-in_err-rest-clause-none c = λ _.
    let bs = c.args.batches.now in
    let n = c.loop-place.place in
    let b = c.index.result.now in
    let lt : n < length bs.items = omega (arith, c.loop-place-test.true, c.len-place-end.ensures, bs.ok.0) in
    none_left bs.items n b lt c.index.ensures c.args.from c.args.to c.requires.order _ c.args.room c.loop-place.rest c.loop-place.invariant
    (c.count_in-count.ensures.count (rises_in bs.items n b lt c.index.ensures c.requires.rises)) (too_few c.loop-place.rest _ c.in_err-rest.ensures)

pub returns-then-later-clause-some : goal.returns-then-later-clause-some
returns-then-later-clause-some c =
    let bs = c.args.batches.now in
    let n = c.loop-place.place in
    let b = c.index.result.now in
    let lt : n < length bs.items = omega (arith, c.loop-place-test.true, c.len-place-end.ensures, bs.ok.0) in
    let rises = rises_in bs.items n b lt c.index.ensures c.requires.rises in
    all_left bs.items n b lt c.index.ensures c.args.from c.args.to c.requires.order _ c.args.room c.loop-place.rest c.loop-place.invariant
    (c.count_in-count.ensures.count rises) c.in_ok-rest.rest (some_left c.loop-place.rest _ c.in_ok-rest.rest c.in_ok-rest.ensures)
    (later_in bs.items n b lt c.index.ensures c.requires.rises c.args.to (c.count_in-count.ensures.later rises c.if-later.true))

pub loop-place-preserved : goal.loop-place-preserved
loop-place-preserved c =
    let bs = c.args.batches.now in
    let n = c.loop-place.place in
    let b = c.index.result.now in
    let lt : n < length bs.items = omega (arith, c.loop-place-test.true, c.len-place-end.ensures, bs.ok.0) in
    fewer_left bs.items n b lt c.index.ensures c.args.from c.args.to c.requires.order _ c.args.room c.loop-place.rest c.loop-place.invariant
    (c.count_in-count.ensures.count (rises_in bs.items n b lt c.index.ensures c.requires.rises)) c.in_ok-rest.rest (some_left c.loop-place.rest _ c.in_ok-rest.rest c.in_ok-rest.ensures)
