use Rattle.std.proofs.Common.{◌≡◌, ◌≤◌, ◌+◌, ◌-◌, ◌^◌, min, length}
use Rattle.ingress.specs.Keeping.{opens_in}
use Rattle.ingress.proofs.opens.OpenStarts.len.Given as goal

abbrev pub invariant-loop-starts : goal.invariant-loop-starts
invariant-loop-starts l = record {
  count : min (l.len + length (opens_in l.starts-iterator)) (2 ^ 64 - 1) ≡ min (length (opens_in l.self.starts.entries)) (2 ^ 64 - 1);
  within : l.len ≤ 2 ^ 64 - 1;
}
