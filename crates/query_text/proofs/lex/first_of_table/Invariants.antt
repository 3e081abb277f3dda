use Rattle.std.proofs.Common.{◌≡◌, length, map}
use Rattle.query_text.specs.Words.{first_of_table}
use Rattle.query_text.proofs.lex.first_of_table.Given as goal

abbrev pub invariant-loop-table : goal.invariant-loop-table
invariant-loop-table l = first_of_table (map (λ k. (k.0.now, k.1)) l.table) l.bytes ≡ first_of_table (map (λ k. (k.0.now, k.1)) l.initial.table) l.bytes

abbrev pub decreases-loop-table : goal.decreases-loop-table
decreases-loop-table l = length l.table
