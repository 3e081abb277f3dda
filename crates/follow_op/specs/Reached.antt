-- What a Follow has reached on its way from instant to instant.
use Rattle.std.specs.Prelude.{ℕ, ◌≤◌, List, map}
use Rattle.tw_rows.specs.declared.edge.Edge.{Edge}
use Rattle.tw_rows.specs.declared.edge.HeldRow.{HeldRow}
use Rattle.edge_history.specs.History.{CellEvent}
use Rattle.sweep_laws.specs.Sweeps.{IsDue}
use Rattle.sweep_laws.specs.Unending.{unending}
use Rattle.follow_op.specs.Followed.{follows}
use Rattle.follow_op.specs.Waits.{FollowHeld}
use Rattle.follow_op.specs.Intervals.{TellsAhead}

-- so far: up to u, with these starts left on each side. Rows whose time was over at an earlier instant are not kept
pub record FollowReached (left_key right_key : List ℕ) (within : ℕ) (a b : List CellEvent) (from u to : ℕ) (left_rest right_rest : List Edge)
    (rows queue : List HeldRow) (before after : List Edge) : Type 0 where
  pub low : from ≤ u
  pub left_due : IsDue (map unending a) u to left_rest
  pub right_due : IsDue (map unending b) u to right_rest
  pub over : ℕ
  pub over_low : over ≤ u
  pub now : FollowHeld left_key right_key within a b over u rows queue
  pub told : TellsAhead (follows left_key right_key within a b) from u before after
