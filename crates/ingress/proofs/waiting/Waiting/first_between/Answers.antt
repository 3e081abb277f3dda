use Rattle.std.specs.Prelude.{◌<◌, ◌≤◌}
use Rattle.std.proofs.Common.{arith}
use Rattle.ingress.proofs.Below.{queue_first, queue_over, queue_none, queue_some, others_some, not_before}
use Rattle.ingress.proofs.waiting.Waiting.first_between.Goals as goal

pub returns-in_default-clause-none : goal.returns-in_default-clause-none
returns-in_default-clause-none c =
    let q = c.self.inside.queue.edges in
    let w = c.first_between-other.ensures.within in
    let other = c.first_between-other.result in
    queue_none q c.self.inside.others c.args.self.now c.self.view_is c.args.from other w.0 c.first_between-other.ensures.none other w.0 (omega arith)
    (queue_over c.args.from q c.in_default.ensures.sync other w.0)

pub returns-in_default-clause-some : goal.returns-in_default-clause-some
returns-in_default-clause-some c = λ early.
    let w = c.first_between-other.ensures.within in
    others_some c.self.inside.queue.edges c.self.inside.others c.args.self.now c.self.view_is c.args.from c.first_between-other.result w.0 c.first_between-other.ensures.none (c.first_between-other.ensures.some early)

pub returns-then-is_before-clause-within : goal.returns-then-is_before-clause-within
returns-then-is_before-clause-within c =
    let w = c.first_between-other.ensures.within in
    let less = c.is_before.ensures.test.0 c.if-is_before.true in
    let first = queue_first c.args.from 0 c.self.inside.queue.edges c.in-Some.sync c.in-Some.ensures.order.rises c.in-Some.ensures.sync in
    (first.from, omega (arith, less, w.1))

pub returns-then-is_before-clause-none : goal.returns-then-is_before-clause-none
returns-then-is_before-clause-none c =
    let q = c.self.inside.queue.edges in
    let w = c.first_between-other.ensures.within in
    let s = c.in-Some.sync in
    let less : s < c.first_between-other.result = c.is_before.ensures.test.0 c.if-is_before.true in
    let first = queue_first c.args.from 0 q s c.in-Some.ensures.order.rises c.in-Some.ensures.sync in
    queue_none q c.self.inside.others c.args.self.now c.self.view_is c.args.from c.first_between-other.result w.0 c.first_between-other.ensures.none s first.from (omega (arith, less))
    (first.none s first.from (omega arith))

pub returns-then-is_before-clause-some : goal.returns-then-is_before-clause-some
returns-then-is_before-clause-some c = λ _.
    let q = c.self.inside.queue.edges in
    let w = c.first_between-other.ensures.within in
    let s = c.in-Some.sync in
    let first = queue_first c.args.from 0 q s c.in-Some.ensures.order.rises c.in-Some.ensures.sync in
    queue_some q c.self.inside.others c.args.self.now c.self.view_is c.args.from c.first_between-other.result w.0 c.first_between-other.ensures.none s first.some

pub returns-clause-none : goal.returns-clause-none
returns-clause-none c =
    let q = c.self.inside.queue.edges in
    let w = c.first_between-other.ensures.within in
    let other = c.first_between-other.result in
    let s = c.in-Some.sync in
    let late : other ≤ s = not_before c.is_before.result s other c.is_before.ensures.test.1 c.if-is_before.false in
    let first = queue_first c.args.from 0 q s c.in-Some.ensures.order.rises c.in-Some.ensures.sync in
    queue_none q c.self.inside.others c.args.self.now c.self.view_is c.args.from other w.0 c.first_between-other.ensures.none other w.0 (omega arith)
    (first.none other w.0 late)

pub returns-clause-some : goal.returns-clause-some
returns-clause-some c = λ early.
    let w = c.first_between-other.ensures.within in
    others_some c.self.inside.queue.edges c.self.inside.others c.args.self.now c.self.view_is c.args.from c.first_between-other.result w.0 c.first_between-other.ensures.none (c.first_between-other.ensures.some early)
