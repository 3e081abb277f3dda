use Rattle.std.proofs.Common.{◌≡◌, ◌++◌, ◌≤◌, length, drop, reverse}
use Rattle.query_text.proofs.stack.Stack.put.Given as goal

abbrev pub invariant-symbols : goal.invariant-symbols
invariant-symbols l = record {
  within : l.left ≤ length l.symbols;
  whole : reverse l.self-inside.symbols.items ≡ drop l.left l.symbols ++ l.fn.self;
}

abbrev pub decreases-symbols : goal.decreases-symbols
decreases-symbols l = l.left
