use Rattle.std.proofs.Common.{arith}
use Rattle.temporal_join.proofs.Ahead.{side_from}
use Rattle.temporal_join.proofs.few.JoinLives.next_instant.Goals as goal

pub returns-clause-left : goal.returns-clause-left
returns-clause-left c = λ up.
    let s = c.args.self.now in
    let a = c.lesser.ensures in
    let b = c.lesser-starts.ensures in
    let d = c.lesser-ends.ensures in
    let n = c.next.ensures.next in
    let k = c.next_sync.ensures in
    side_from s.left.columns s.left.next c.lesser.result s.left.lives c.args.left.now.edges c.next.ensures.are (omega (arith, a, d, n)) up (omega (arith, a, b, k))

pub returns-clause-right : goal.returns-clause-right
returns-clause-right c = λ up.
    let s = c.args.self.now in
    let a = c.lesser.ensures in
    let b = c.lesser-starts.ensures in
    let d = c.lesser-ends.ensures in
    let n = c.next-2.ensures.next in
    let k = c.next_sync-2.ensures in
    side_from s.right.columns s.right.next c.lesser.result s.right.lives c.args.right.now.edges c.next-2.ensures.are (omega (arith, a, d, n)) up (omega (arith, a, b, k))
