-- What a Coalesce has reached on its way from instant to instant, and what it keeps between its steps.
use Rattle.std.specs.Prelude.{ℕ, ◌≤◌, List, filter}
use Rattle.tw_rows.specs.Bag.{SameBag}
use Rattle.tw_rows.specs.Event.{alive}
use Rattle.tw_rows.specs.Instant.{inf}
use Rattle.tw_rows.specs.declared.edge.Edge.{Edge}
use Rattle.tw_rows.specs.declared.edge.HeldRow.{HeldRow}
use Rattle.edge_history.specs.Order.{is_from, IsHistory}
use Rattle.edge_history.specs.History.{CellEvent, of}
use Rattle.edge_history.specs.Balance.{Told}
use Rattle.edge_history.specs.Opens.{singles}
use Rattle.synopsis.specs.Queued.{AreQueues}
use Rattle.sweep_laws.specs.Sweeps.{IsDue, Tells}
use Rattle.coalesce_op.specs.Coalesces.{coalesces}

-- so far: up to u, with these edges left
pub record CoalesceReached (a : List CellEvent) (from u to : ℕ) (rest : List Edge) (rows : List HeldRow) (before after : List Edge) : Type 0 where
  pub low : from ≤ u
  pub due : IsDue a u to rest
  pub now : AreQueues (alive a) u rows
  pub told : Tells (coalesces a) from u before after

-- the rows and the edges that wait can be what is left, swept up to a time, after the edges came in and out was answered. Of a
-- start at 3 and another one at 5 of an equal row, up to 4, the row from 3 on is kept, and the start at 5 waits
pub record CoalesceKeeps (rows : List HeldRow) (waiting : List Edge) (to : ℕ) (came out : List Edge) : Type 0 where
  pub low : to ≤ inf
  pub history : IsHistory came
  pub waits : SameBag waiting (filter (is_from to) (singles came))
  pub now : AreQueues (alive (of came)) to rows
  pub told : Told to out (coalesces (of came))
