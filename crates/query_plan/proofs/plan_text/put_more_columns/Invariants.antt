use Rattle.std.proofs.Common.{◌≡◌, ◌++◌, codes, drop, flat_map, map}
use Rattle.query_plan.specs.Explained.{column_text}
use Rattle.query_plan.proofs.plan_text.put_more_columns.Given as goal

-- what is written, and the columns that are left, are all that there is to write
abbrev pub invariant-loop-column : goal.invariant-loop-column
invariant-loop-column l =
    l.out.items ++ flat_map (λ y. codes "," ++ y) (map column_text (drop l.column-index l.columns))
    ≡ l.initial.out.items ++ flat_map (λ y. codes "," ++ y) (map column_text l.columns)
