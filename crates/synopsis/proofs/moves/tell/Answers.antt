-- What is answered by hand of the proof of moves::tell.
use Rattle.std.proofs.Common.{arith}
use Rattle.synopsis.specs.Holding.{since_of}
use Rattle.synopsis.proofs.Telling.{both_told, on_ok}
use Rattle.sweep_laws.proofs.Ordering.{order_later}
use Rattle.synopsis.proofs.moves.tell.Goals as goal

pub returns-clause-told : goal.returns-clause-told
returns-clause-told c = on_ok c.start_all.result _ _ c.start_all.ensures.told (λ h once w.
    let a = c.in_ok-end_all.ensures.told once w in
    let b = h w in
    let d = both_told w c.args.at (since_of c.args.held.now) c.args.moves.now once in
    omega (arith, a, b, d))

pub returns-clause-order : goal.returns-clause-order
returns-clause-order c = on_ok c.start_all.result _ _ c.start_all.ensures.order (λ h low early up.
    h low (order_later _ _ c.end_all.new.answer.items (omega arith) (c.in_ok-end_all.ensures.order early up)))
