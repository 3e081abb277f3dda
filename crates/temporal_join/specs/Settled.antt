-- What is left of a sweep over few rows is swept by keys.
use Rattle.std.specs.Prelude.{◌≡◌, ℕ, ◌+◌, List, []}
use Rattle.tw_rows.specs.Bag.{total}
use Rattle.tw_rows.specs.declared.edge.Edge.{Edge}
use Rattle.tw_rows.specs.declared.edge.HeldRow.{HeldRow}
use Rattle.edge_history.specs.History.{CellEvent}
use Rattle.edge_history.specs.Opens.{singles, started_rows}
use Rattle.edge_history.specs.Order.{failing, is_below, is_from}
use Rattle.end_queue.specs.Pending.{Pending}
use Rattle.sweep_laws.specs.Changes.{TakeAtMost}
use Rattle.sweep_laws.specs.Pairs.{Held}
use Rattle.sweep_laws.specs.Sweeps.{SyncsRise, IsDue, Tells}
use Rattle.sweep_sides.specs.Waiting.{queued, AreTimed}
use Rattle.temporal_join.specs.Joined.{joins}
use Rattle.temporal_join.specs.Kept.{AreByKey}
use Rattle.temporal_join.specs.Lives.{end_weight, row_of}
use Rattle.temporal_join.specs.States.{SameColumns}
use Rattle.temporal_join.specs.declared.sides.JoinSides.{JoinSides}

-- all rows are held by their keys, and the ends that were known of them are pending
pub record Settled (old new : JoinSides) : Type 0 where
  pub left_rows : (w : HeldRow → ℕ) → total w new.rows.left.rows ≡ total w old.rows.left.rows + total (λ l. w (row_of l)) old.few.left.lives
  pub right_rows : (w : HeldRow → ℕ) → total w new.rows.right.rows ≡ total w old.rows.right.rows + total (λ l. w (row_of l)) old.few.right.lives
  pub left_ends : (w : Edge → ℕ) → total w (queued new.left_waiting) ≡ total w (queued old.left_waiting) + total (end_weight w) old.few.left.lives
  pub right_ends : (w : Edge → ℕ) → total w (queued new.right_waiting) ≡ total w (queued old.right_waiting) + total (end_weight w) old.few.right.lives
  pub left_timed : AreTimed old.left_waiting → AreTimed new.left_waiting
  pub right_timed : AreTimed old.right_waiting → AreTimed new.right_waiting
  pub none_left : new.few.left.lives ≡ []
  pub none_right : new.few.right.lives ≡ []
  pub columns : SameColumns old new

-- a side was swept by keys: new edges came, and these single ones happened before a time
pub record SideFinished (to : ℕ) (first then : List HeldRow) (waiting waiting2 : List Pending) (new due : List Edge) : Type 0 where
  pub parts : (w : Edge → ℕ) → total w due + total w (queued waiting2) ≡ total w (queued waiting) + total w (singles new)
  pub below : AreTimed waiting → failing (is_below to) due ≡ 0
  pub order : AreTimed waiting → SyncsRise 0 due
  pub rest : AreTimed waiting → failing (is_from to) (queued waiting2) ≡ 0
  pub timed : AreTimed waiting → AreTimed waiting2
  pub rows : TakeAtMost first then (started_rows due)

pub record Finished (old new : JoinSides) (to : ℕ) (left_new right_new before after : List Edge) : Type 0 where
  pub left_due : List Edge
  pub right_due : List Edge
  pub left : SideFinished to old.rows.left.rows new.rows.left.rows old.left_waiting new.left_waiting left_new left_due
  pub right : SideFinished to old.rows.right.rows new.rows.right.rows old.right_waiting new.right_waiting right_new right_due
  pub swept : (a b : List CellEvent) (from : ℕ) → AreByKey old.rows → IsDue a from to left_due → IsDue b from to right_due →
      Held a b from old.rows.left.rows old.rows.right.rows →
      Held a b to new.rows.left.rows new.rows.right.rows × Tells (joins old.rows.left_key.items old.rows.right_key.items a b) from to before after
  pub few : new.few ≡ old.few
  pub columns : SameColumns old new
