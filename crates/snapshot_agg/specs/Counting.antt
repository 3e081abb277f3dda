-- The groups of an operator: what is counted of them, and what they are at an instant.
use Rattle.std.specs.Prelude.{◌≡◌, ℕ, Bool, Option, List, ◌++◌}
use Rattle.indexmap.specs.IndexMap.{IndexMap}
use Rattle.tw_rows.specs.Event.{alive}
use Rattle.tw_rows.specs.SameCells.{same_cells}
use Rattle.tw_rows.specs.declared.cells.Datum.{Datum}
use Rattle.tw_rows.specs.declared.edge.Edge.{Edge}
use Rattle.tw_rows.specs.declared.edge.HeldRow.{HeldRow}
use Rattle.tw_rows.specs.declared.kind.CellKind.{CellKind}
use Rattle.edge_history.specs.History.{CellEvent, of}
use Rattle.edge_history.specs.Order.{failing, is_from, IsHistory}
use Rattle.edge_history.specs.Opens.{bare}
use Rattle.end_queue.specs.Pending.{Pending}
use Rattle.key_nodes.specs.Groups.{grouped}
use Rattle.plan_laws.specs.Keeping.{plain_cells}
use Rattle.plan_laws.specs.Undefined.{first_below}
use Rattle.plan_model.specs.RowOps.{is_undefined_in}
use Rattle.sweep_laws.specs.Grouping.{GroupSweeping, IsDefined, IsFirstUndefined}
use Rattle.sweep_laws.specs.Sweeps.{Tells}
use Rattle.snapshot_agg.specs.declared.groups.Groups.{Groups}
use Rattle.snapshot_agg.specs.Words.{key_data, tell, bad}
use Rattle.snapshot_agg.specs.Totaled.{Totaled, TellTouched, totals_of, run_of}
use Rattle.snapshot_agg.specs.Keeping.{KeepsGroup}
use Rattle.snapshot_agg.specs.Waiting.{all_pending}
use Rattle.snapshot_agg.specs.Answering.{group_kinds, IsSoFar}

-- each key has totals of its rows, and a key with no row has none; the room is for these keys; and the totals tell whether
-- their key is touched
pub record IsCounted (g : Groups) : Type 0 where
  pub totals : Totaled g.key.items g.aggs.items g.rows.rows.held g.totals
  pub room : g.room.columns ≡ g.key.items
  pub touched : (k : List Datum) → TellTouched (totals_of g.totals k) g.instant g.touched.items k

-- the key of a row. By the column 0, the key of (7, 2) is 7
abbrev pub key_by : Groups → List Datum → List Datum
key_by g cells = key_data g.key.items cells

-- the row of the group of a key, if the key has rows, and whether that group is undefined
abbrev pub row_now : Groups → List Datum → Option (List Datum)
row_now g k = tell g.key.items g.aggs.items k (bare g.rows.rows.held)

abbrev pub is_undefined_now : Groups → List Datum → Bool
is_undefined_now g k = bad g.key.items g.aggs.items k (bare g.rows.rows.held)

-- how the rows of the groups are stored, where those of the child are stored so
abbrev pub kinds_over : Groups → List CellKind → List CellKind
kinds_over g left = group_kinds g.key.items g.aggs.items left

-- the events of the groups over the events a
abbrev pub groups_over : Groups → List CellEvent → List CellEvent
groups_over g a = grouped (key_data g.key.items) same_cells same_cells (tell g.key.items g.aggs.items) a

-- by the keys and aggregates of g, just before t: the rows are those alive, each key's run is its row's, no group is undefined
abbrev pub AreSwept : {S : Type 0} → Groups → List CellEvent → ℕ → List HeldRow → IndexMap (List Datum) HeldRow S → Type 0
AreSwept g a t rows running = GroupSweeping (tell g.key.items g.aggs.items) (bad g.key.items g.aggs.items) a t rows (run_of running)

-- between the two answers the groups' events were emitted from one time on and before another
abbrev pub Emits : Groups → List CellEvent → ℕ → ℕ → List Edge → List Edge → Type 0
Emits g a from to before after = Tells (groups_over g a) from to before after

-- no group is undefined from one time on and before another; t is the first instant there at which one is
abbrev pub AreDefined : Groups → List CellEvent → ℕ → ℕ → Type 0
AreDefined g a from to = IsDefined (bad g.key.items g.aggs.items) a from to

abbrev pub IsUndefinedFirst : Groups → List CellEvent → ℕ → ℕ → ℕ → Type 0
IsUndefinedFirst g a from to t = IsFirstUndefined (bad g.key.items g.aggs.items) a from to t

-- the answer so far, up to u, whose edges come from one time on and before another and store the groups' rows
abbrev pub AreEmitted : {S : Type 0} → Groups → List CellKind → ℕ → ℕ → ℕ → IndexMap (List Datum) HeldRow S → List Edge → Type 0
AreEmitted g left from u to running answer = IsSoFar (kinds_over g left) from u to (run_of running) answer

-- all edges that are pending: the ends that the groups keep with their rows, and the others
abbrev pub pending_of : Groups → List Pending → List Pending
pending_of g waiting = all_pending g.rows.rows.ends waiting

-- the groups, the emitted rows and the pending edges are what is left after the edges came and out was answered, closed up to x
abbrev pub AreKept : {S : Type 0} → Groups → IndexMap (List Datum) HeldRow S → List Pending → ℕ → List Edge → List Edge → Type 0
AreKept g running waiting x came out = KeepsGroup g.key.items g.aggs.items g.rows.rows.held running (pending_of g waiting) x came out

-- the new edges come at x or later, and are a history behind those that came. Behind a start at 3, on a side closed up to 4,
-- its end at 5 may come
pub record MayFollow (x : ℕ) (came new : List Edge) : Type 0 where
  pub history : IsHistory (came ++ new)
  pub from : failing (is_from x) new ≡ 0

-- the least instant below a time at which a group is undefined
abbrev pub first_undefined : Groups → List Edge → ℕ → Option ℕ
first_undefined g h to = first_below (λ t. is_undefined_in plain_cells g.key.items g.aggs.items (alive (of h) t)) to
