-- The sweep of a Session: its node, and what it keeps, as entries.
use Rattle.std.specs.Prelude.{ℕ, nat_lt, cond, Option, Some, None, ◌+◌, length, List}
use Rattle.tw_rows.specs.declared.edge.Edge.{Edge}
use Rattle.edge_stream.specs.declared.saved.PartRow.{PartRow}
use Rattle.edge_stream.specs.declared.saved.PartRow.TheVariants.{Left}
use Rattle.edge_stream.specs.declared.saved.SavedEntry.{SavedEntry}
use Rattle.end_queue.specs.Pending.{Pending}
use Rattle.edge_stream.specs.Entries.{part_of}
use Rattle.plan_model.specs.declared.node.Node.{Node}
use Rattle.plan_model.specs.declared.node.Node.TheVariants.{Session as SessionNode}
use Rattle.sweep_laws.specs.Saving.{rows_of}
use Rattle.session_window.specs.declared.side.SessionSide.{SessionSide}
use Rattle.session_window.specs.Holding.{SessionKeeps}

abbrev pub session_node : SessionSide → Node
session_node s = SessionNode 0 s.sessions.timeout s.sessions.rows.key

-- how many entries it keeps: one for each row, one for each key with a row, and one for each start that waits
abbrev pub session_entries : SessionSide → ℕ
session_entries s = length s.sessions.rows.rows + length s.sessions.ends + length s.waiting

-- saved entries are what it keeps up to a time, after the edges came in and were answered, with some entries of the queue
pub record Resumes (s : SessionSide) (saved : List SavedEntry) (to : ℕ) (came out : List Edge) : Type 0 where
  pub ends : List Pending
  pub kept : SessionKeeps s.sessions.rows.key s.sessions.timeout (rows_of (part_of 0 saved)) ends (part_of 1 saved) to came out

-- whose row the cells of a part are
abbrev pub session_row : ℕ → Option PartRow
session_row part = cond (nat_lt part 2) (Some Left) None
