use Rattle.std.proofs.Common.{◌≡◌, ◌<◌, ◌-◌, suc, length, deque_len, rules, arith}
use Rattle.edge_stream.proofs.LastBatch.{last_room-last}
use Rattle.edge_stream.proofs.last.room.Goals as goal

pub returns-in-Some : goal.returns-in-Some
returns-in-Some c =
    let bs = c.args.batches.now in
    let some : 0 < deque_len bs = search rules in
    let last : suc (deque_len bs - 1) ≡ length bs.items = omega (arith, some, bs.ok.0) in
    let is = last_room-last bs.items (deque_len bs - 1) c.in-Some.last.now last c.in-Some.ensures.lookup in
    omega (arith, is, c.rows.ensures.rows, c.capacity.ensures.capacity)
