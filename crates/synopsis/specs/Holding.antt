-- The open starts of the rows that are held, and edges of one instant.
use Rattle.std.specs.Prelude.{◌≡◌, ℕ, suc, ◌<◌, nat_lt, Bool, true, ◌&&◌, ◌||◌, not, cond}
use Rattle.std.specs.Prelude.{List, [], ◌∷◌, ◌++◌, ◌-◌, ◌≤◌, length, map, drop, replicate}
use Rattle.std.specs.List.{list_all}
use Rattle.tw_rows.specs.Instant.{inf}
use Rattle.tw_rows.specs.SameCells.{same_cells}
use Rattle.tw_rows.specs.declared.edge.Edge.{Edge}
use Rattle.edge_history.specs.Order.{failing, is_end}
use Rattle.edge_history.specs.Opens.{bare, ended_rows, started_rows}
use Rattle.key_nodes.specs.Coalesced.{how_often, coalesced}
use Rattle.sweep_laws.specs.Queues.{Cells, queue_ends, queue_starts, queue_after, open_starts}
use Rattle.sweep_laws.specs.Sweeps.{Tells}
use Rattle.synopsis.specs.declared.moves.Moves.{Moves}
use Rattle.synopsis.specs.declared.held.Held.{Held}
use Rattle.synopsis.specs.Kept.{since_at}
use Rattle.synopsis.specs.Queued.{queue_of, EdgesLead}

-- the open starts of a row, the earliest first: those among the few, and then those in the map
abbrev pub since_of : Held → Cells → List ℕ
since_of held c = queue_of held.few c ++ since_at held.starts c

-- each open start is before t
abbrev pub AreEarly : ℕ → (Cells → List ℕ) → Type 0
AreEarly t since = (cells : Cells) → failing (λ s. nat_lt s t) (since cells) ≡ 0

-- the open starts of a row, once the edges at t have moved their rows
abbrev pub after_edges : ℕ → List Edge → (Cells → List ℕ) → Cells → List ℕ
after_edges t now since r =
    queue_after t (λ c. how_often same_cells c (bare (ended_rows now))) (λ c. how_often same_cells c (bare (started_rows now))) since r

-- each row is open as the edges at t leave it
abbrev pub AreMovedBy : ℕ → List Edge → Held → Held → Type 0
AreMovedBy t now old new = (c : Cells) → since_of new c ≡ after_edges t now (since_of old) c

-- where the edges lead to the rows at t, and the rows before it were open, what happens to the coalesced events at t is told
abbrev pub TellEdges : ℕ → List Edge → Held → List Edge → List Edge → Type 0
TellEdges t now old before after = (f : ℕ → List Cells) → t < inf → EdgesLead f t now →
    ((c : Cells) → since_of old c ≡ open_starts same_cells f c t) → Tells (coalesced same_cells f) t (suc t) before after

-- the move of an edge: its row ends once, or starts once
abbrev pub move_of : Edge → Moves
move_of x = record { cells = x.cells; ends = cond (is_end x) 1 0; starts = cond (is_end x) 0 1 }

abbrev pub moves_of : List Edge → List Moves
moves_of es = map move_of es

-- the second edge may stand behind the first: it is of another row, and no end behind a start
abbrev pub may_follow : Edge → Edge → Bool
may_follow x y = not (same_cells x.cells y.cells) && (is_end x || not (is_end y))

-- the edges are of different rows, and their ends stand before their starts
abbrev pub AreApart : List Edge → Type 0
AreApart [] = Unit {0}
AreApart (x ∷ xs) = (list_all (may_follow x) xs ≡ true) × AreApart xs

-- how often the row of an edge ends, more often than it starts, and the other way round
abbrev pub net_ends_of : Edge → ℕ
net_ends_of x = (move_of x).ends - (move_of x).starts

abbrev pub net_starts_of : Edge → ℕ
net_starts_of x = (move_of x).starts - (move_of x).ends

-- the row of an edge ends at t, or starts there
abbrev pub IsMoved : ℕ → Edge → Held → Held → Type 0
IsMoved t x old new = (c : Cells) → since_of new c
    ≡ cond (same_cells x.cells c) (drop (net_ends_of x) (since_of old c) ++ replicate (net_starts_of x) t) (since_of old c)

-- it does, and that is told
pub record MovesOnce (t : ℕ) (x : Edge) (old new : Held) (before after : List Edge) : Type 0 where
  pub since : IsMoved t x old new
  pub told : after ≡ before
      ++ (queue_ends t (net_ends_of x) x.cells (since_of old x.cells) ++ queue_starts t (net_starts_of x) x.cells)

-- the row of each end has an open start
abbrev pub HaveStarts : (Cells → List ℕ) → List Edge → Type 0
HaveStarts since [] = Unit {0}
HaveStarts since (x ∷ xs) = (is_end x ≡ true → 1 ≤ length (since x.cells)) × HaveStarts since xs

-- it does, and the edge y tells that in its place, if an end has an open start. Of a row that is open from 3 and 4 on, an end
-- at t becomes that of the start at 3
pub record MovesInPlace (t : ℕ) (x y : Edge) (old new : Held) : Type 0 where
  pub since : IsMoved t x old new
  pub told : (is_end x ≡ true → 1 ≤ length (since_of old x.cells)) →
      y ∷ [] ≡ queue_ends t (net_ends_of x) x.cells (since_of old x.cells) ++ queue_starts t (net_starts_of x) x.cells
