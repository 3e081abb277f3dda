-- The left rows of a Follow that wait.
use Rattle.std.specs.Prelude.{ℕ, ◌<◌, ◌≤◌, ◌&&◌, nat_lt, not, Bool, cond, List, [], ◌∷◌, filter, flat_map}
use Rattle.tw_rows.specs.Bag.{SameBag, total}
use Rattle.tw_rows.specs.Instant.{later}
use Rattle.tw_rows.specs.declared.edge.HeldRow.{HeldRow}
use Rattle.edge_history.specs.History.{CellEvent}
use Rattle.sweep_laws.specs.Clipping.{is_clipped}
use Rattle.follow_op.specs.Followed.{follow_meets}

-- the time of the row is not over at t. Within 5, of a row from 1 on it is over at 6
abbrev pub still_waits : ℕ → ℕ → HeldRow → Bool
still_waits within t r = nat_lt t (later within r.start)

-- the starts never fall, and none is before s
abbrev pub StartsRise : ℕ → List HeldRow → Type 0
StartsRise s [] = Unit {0}
StartsRise s (r ∷ rows) = (s ≤ r.start) × StartsRise r.start rows

-- the time of the first row is not over at t
abbrev pub FirstWaits : ℕ → ℕ → List HeldRow → Type 0
FirstWaits within t [] = Unit {0}
FirstWaits within t (r ∷ rows) = t < later within r.start

-- the row of an event that began before u, where its time is not over at v
abbrev pub begun_of : ℕ → ℕ → ℕ → CellEvent → List HeldRow
begun_of within v u e = cond (nat_lt e.start u && nat_lt v (later within e.start)) (record { cells = e.row; start = e.start } ∷ []) []

abbrev pub begun : ℕ → ℕ → ℕ → List CellEvent → List HeldRow
begun within v u a = flat_map (begun_of within v u) a

-- no right event of its key started after the row and before u
abbrev pub is_free : List ℕ → List ℕ → List CellEvent → ℕ → HeldRow → Bool
is_free left_key right_key b u r = not (is_clipped (follow_meets left_key right_key) b u r)

-- the rows are those that began before u and that no right row followed before u, but for those whose time was over at v. In
-- the order of their starts they stand among the rows of a queue, and the others there were followed
pub record FollowHeld (left_key right_key : List ℕ) (within : ℕ) (a b : List CellEvent) (v u : ℕ) (rows queue : List HeldRow) : Type 0 where
  pub waiting : SameBag rows (filter (is_free left_key right_key b u) (begun within v u a))
  pub queued : SameBag rows (filter (is_free left_key right_key b u) queue)
  pub few : (w : HeldRow → ℕ) → total w queue ≤ total w (begun within v u a)
  pub order : StartsRise 0 queue
