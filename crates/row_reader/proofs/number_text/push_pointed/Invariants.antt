use Rattle.std.proofs.Common.{◌≡◌, ◌++◌, ◌∷◌, ◌-◌, ◌≤◌, length, replicate}
use Rattle.row_reader.proofs.number_text.push_pointed.Given as goal

abbrev pub invariant-loop : goal.invariant-loop
invariant-loop l = record {
  from : length l.digits ≤ l.counter;
  items : l.out.items ≡ l.fn.out.items ++ (48 ∷ 46 ∷ replicate (l.counter - length l.digits) 48);
}
