use Rattle.std.proofs.Common.{ap, length, arith}
use Rattle.std.proofs.lemmas.List.{take_all}
use Rattle.tw_rows.specs.Bag.{total}
use Rattle.ingress.proofs.Counting.{held_next}
use Rattle.ingress.proofs.held_streams.HeldStreams.held.Goals as goal

pub loop-waiting-preserved : goal.loop-waiting-preserved
loop-waiting-preserved c =
    let t = held_next c.args.self.now.waiting.items c.deref-waiting-items.result.now c.loop-waiting.waiting-index c.waiting-item.result c.deref-waiting-items.ensures.value c.loop-waiting-test.true c.waiting-item.is in
    omega (arith, t)

pub returns-clause-count : goal.returns-clause-count
returns-clause-count c =
    let xs = c.args.self.now.waiting.items in
    let v = ap length c.deref-waiting-items.ensures.value in
    let f = c.loop-waiting-test.false in
    let t = ap (total (λ l. length l)) (take_all c.loop-waiting.waiting-index xs (omega (arith, v, f))) in
    omega (arith, t)
