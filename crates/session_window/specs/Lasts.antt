-- The last start of some rows.
use Rattle.std.specs.Prelude.{◌≡◌, ℕ, ◌≤◌, nat_eq, nat_lt, List}
use Rattle.tw_rows.specs.declared.edge.HeldRow.{HeldRow}
use Rattle.edge_history.specs.Order.{many}

-- a row starts then, and none starts later. Of rows that start at 3 and at 5 the last start is 5
pub record IsLastStart (last : ℕ) (rows : List HeldRow) : Type 0 where
  pub there : 1 ≤ many (λ r. nat_eq r.start last) rows
  pub none_later : many (λ r. nat_lt last r.start) rows ≡ 0
