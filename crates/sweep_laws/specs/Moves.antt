-- What is told of an instant, by the rows that are open before it and after it.
use Rattle.std.specs.Prelude.{◌≡◌, ℕ, ◌+◌, ◌++◌, ◌≤◌, nat_lt, nat_eq, Bool, true, cond, List}
use Rattle.tw_rows.specs.Instant.{inf}
use Rattle.tw_rows.specs.Bag.{SameBag, total}
use Rattle.tw_rows.specs.declared.edge.Edge.{Edge}
use Rattle.tw_rows.specs.declared.edge.HeldRow.{HeldRow}
use Rattle.edge_history.specs.Order.{is_end, many}
use Rattle.edge_history.specs.Opens.{is_held}

-- the edge that ends an open row at t, and the edge that starts it
abbrev pub end_at : ℕ → HeldRow → Edge
end_at t r = record { sync = t; other = r.start; cells = r.cells }

abbrev pub start_of : HeldRow → Edge
start_of r = record { sync = r.start; other = inf; cells = r.cells }

-- the weight of a row's end at t, if it began before; and of its start, if it begins at t
abbrev pub ending : ℕ → (Edge → ℕ) → HeldRow → ℕ
ending t w r = cond (nat_lt r.start t) (w (end_at t r)) 0

abbrev pub starting : ℕ → (Edge → ℕ) → HeldRow → ℕ
starting t w r = cond (nat_eq r.start t) (w (start_of r)) 0

-- between the two answers the ends and the starts at t were told that lead from the rows that were open to those that are:
-- what stays open is told neither way
pub record Moves (t : ℕ) (open0 open1 : List HeldRow) (before after : List Edge) : Type 0 where
  pub weigh : (w : Edge → ℕ) →
      total w after + total (ending t w) open1 + total (starting t w) open0 ≡ total w before + total (ending t w) open0 + total (starting t w) open1

-- the second answer is the first with these edges after it, in some order
pub record Adds (before after edges : List Edge) : Type 0 where
  pub added : List Edge
  pub is : after ≡ before ++ added
  pub bag : SameBag added edges

-- the edge that is told at t of an open row: its start, or its end
abbrev pub told_at : Bool → ℕ → HeldRow → Edge
told_at starts t r = record { sync = t; other = cond starts inf r.start; cells = r.cells }

-- where the edge is an end, the row that it ends is among the rows
abbrev pub HoldsEnded : Edge → List HeldRow → Type 0
HoldsEnded x rows = is_end x ≡ true → 1 ≤ many (is_held x.cells x.other) rows
