-- What a Coalesce keeps between its steps, and what it saves.
use Rattle.std.specs.Prelude.{◌≡◌, ℕ, true, List, []}
use Rattle.tw_rows.specs.declared.edge.Edge.{Edge}
use Rattle.tw_rows.specs.declared.kind.CellKind.{CellKind}
use Rattle.edge_stream.specs.declared.saved.SavedEntry.{SavedEntry}
use Rattle.edge_stream.specs.Entries.{part_of, are_of_parts}
use Rattle.sweep_sides.specs.Waiting.{queued, AreTimed}
use Rattle.sweep_laws.specs.Saving.{are_row_starts, may_all_wait}
use Rattle.coalesce_op.specs.declared.side.CoalesceSide.{CoalesceSide}
use Rattle.coalesce_op.specs.Holding.{CoalesceKeeps}

-- it can be what is left, swept up to a time, after the edges came in and out was answered
pub record SideKeeps (s : CoalesceSide) (to : ℕ) (came out : List Edge) : Type 0 where
  pub timed : AreTimed s.waiting
  pub kept : CoalesceKeeps s.queues (queued s.waiting) to came out

-- no row is kept, and no edge waits
pub record IsEmpty (s : CoalesceSide) : Type 0 where
  pub no_rows : s.queues ≡ []
  pub none : s.waiting ≡ []

-- the entries are of two parts: 0, rows that began before x, as their starts, and 1, edges that wait from it on. Up to 7, a
-- row may have begun at 6, and none at 7
pub record CoalesceSound (kinds : List CellKind) (x : ℕ) (entries : List SavedEntry) : Type 0 where
  pub parts : are_of_parts 2 entries ≡ true
  pub rows : are_row_starts kinds x (part_of 0 entries) ≡ true
  pub waiting : may_all_wait kinds x (part_of 1 entries) ≡ true
