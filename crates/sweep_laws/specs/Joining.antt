-- What a join has reached on its way from instant to instant, and what it keeps between its steps.
use Rattle.std.specs.Prelude.{ℕ, ◌≤◌, Bool, List, filter}
use Rattle.tw_rows.specs.Bag.{SameBag}
use Rattle.tw_rows.specs.declared.cells.Datum.{Datum}
use Rattle.tw_rows.specs.declared.edge.Edge.{Edge}
use Rattle.tw_rows.specs.declared.edge.HeldRow.{HeldRow}
use Rattle.edge_history.specs.Order.{is_from, IsHistory}
use Rattle.edge_history.specs.History.{CellEvent, of}
use Rattle.edge_history.specs.Balance.{Told}
use Rattle.edge_history.specs.Opens.{singles}
use Rattle.key_nodes.specs.Joins.{joined}
use Rattle.sweep_laws.specs.Sweeps.{IsDue, Tells}
use Rattle.sweep_laws.specs.Pairs.{Held}

-- so far: up to u, with these edges left on each side
pub record JoinReached (meets : List Datum → List Datum → Bool) (pair : List Datum → List Datum → List Datum) (a b : List CellEvent)
    (from u to : ℕ) (left_rest right_rest : List Edge) (left right : List HeldRow) (before after : List Edge) : Type 0 where
  pub low : from ≤ u
  pub left_due : IsDue a u to left_rest
  pub right_due : IsDue b u to right_rest
  pub now : Held a b u left right
  pub told : Tells (joined meets pair a b) from u before after

-- what a join keeps after the edges hl and hr came and out was answered: both sides are swept up to `to`, the lesser of
-- their closings, and the rest of each waits
pub record JoinKeeps (meets : List Datum → List Datum → Bool) (pair : List Datum → List Datum → List Datum)
    (left right : List HeldRow) (left_waiting right_waiting : List Edge) (to : ℕ) (hl hr out : List Edge) : Type 0 where
  pub left_history : IsHistory hl
  pub right_history : IsHistory hr
  pub left_waits : SameBag left_waiting (filter (is_from to) (singles hl))
  pub right_waits : SameBag right_waiting (filter (is_from to) (singles hr))
  pub now : Held (of hl) (of hr) to left right
  pub told : Told to out (joined meets pair (of hl) (of hr))
