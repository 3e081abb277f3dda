-- So many batches as the loop has counted have gone over.
use Rattle.std.proofs.Common.{◌≡◌, ◌+◌, ◌++◌, take, drop, deque_len}
use Rattle.std.specs.VecDeque.{deque_capacity}
use Rattle.edge_stream.proofs.cut.move_front.Given as goal

abbrev pub invariant-loop : goal.invariant-loop
invariant-loop l = record {
  moved : l.to.items ≡ l.fn.to.items ++ take l.counter l.fn.from.items;
  left : l.from.items ≡ drop l.counter l.fn.from.items;
  len : deque_len l.to ≡ deque_len l.fn.to + l.counter;
  capacity : deque_capacity l.to ≡ deque_capacity l.fn.to;
}
