-- The columns are made, and there are as many bit vectors as the counter says.
use Rattle.std.proofs.Common.{◌≡◌, ◌≤◌, max}
use Rattle.batch.proofs.pools.Pools.refill.Given as goal

abbrev pub invariant-loop : goal.invariant-loop
invariant-loop l = record {
  counted : l.self.occupancies ≡ l.counter;
  at_least : l.fn.self.occupancies ≤ l.counter;
  at_most : l.counter ≤ max l.fn.self.occupancies l.n;
  words : l.self.words ≡ max l.fn.self.words l.n;
  ints : l.self.ints ≡ max l.fn.self.ints l.n;
  bits : l.self.bits ≡ max l.fn.self.bits l.n;
  limit : l.self.limit ≡ l.fn.self.limit;
  capacity : l.self.capacity ≡ l.fn.self.capacity;
}
