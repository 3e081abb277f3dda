-- What showing does to the rows that are open and to the lines.
use Rattle.std.specs.Prelude.{◌≡◌, ℕ, suc, ◌-◌, Bool, cond, None, List, ◌++◌, map, take, drop, flat_map, replicate}
use Rattle.indexmap.specs.IndexMap.{get as value_at, IndexMap}
use Rattle.std.specs.declared.collections.VecDeque.{VecDeque}
use Rattle.tw_rows.specs.Cells.{read_cells}
use Rattle.tw_rows.specs.Event.{AreEvents, alive}
use Rattle.std.specs.List.{dedup}
use Rattle.std.specs.Ordering.{eq_by_cmp}
use Rattle.tw_rows.specs.Rows.{Row, row_cmp}
use Rattle.tw_rows.specs.SameCells.{same_cells}
use Rattle.tw_rows.specs.declared.cells.Datum.{Datum}
use Rattle.tw_rows.specs.declared.edge.Edge.{Edge}
use Rattle.edge_history.specs.History.{CellEvent}
use Rattle.edge_history.specs.Balance.{news}
use Rattle.edge_history.specs.Order.{failing}
use Rattle.plan_laws.specs.Places.{read_events}
use Rattle.plan_model.specs.Changes.{Started, Ended, changes_at}
use Rattle.egress.specs.Instants.{end_lines, start_lines, AreMoves, AreOpen}
use Rattle.synopsis.specs.Kept.{since_at, EachIsOpen}
use Rattle.egress.specs.Kept.{ends_in, starts_in, rows_of, since_in, HasAdded, KeepCells, OpensPass}
use Rattle.egress.specs.Print.{print}
use Rattle.egress.specs.Waiting.{SameMoves}
use Rattle.egress.specs.declared.moves.Moves.{Moves}
use Rattle.egress.specs.declared.open_rows.OpenRows.{OpenRows}

-- no row is open, and none is kept
abbrev pub AreNone : {S H : Type 0} → IndexMap (List Datum) (VecDeque ℕ S) H → Type 0
AreNone opens = (cells : List Datum) → value_at same_cells opens cells ≡ None

-- no two edges are of one row
abbrev pub StandOnce : List (List ℕ) → List Edge → Type 0
StandOnce texts edges = dedup (eq_by_cmp row_cmp) (map (λ e. read_cells texts e.cells) edges) ≡ map (λ e. read_cells texts e.cells) edges

-- the row of these cells ended so often: its first open starts are gone, and their end lines come last. Two ends at 9 of a
-- row that is open since 3, 5 and 7: the end lines of those since 3 and 5, and 7 is left
pub record EndsRow (texts : List (List ℕ)) (at count : ℕ) (cells : List Datum) (old new : OpenRows) : Type 0 where
  pub starts : (c : List Datum) → since_at new.starts c ≡ cond (same_cells cells c) (drop count (since_at old.starts c)) (since_at old.starts c)
  pub lines : new.lines.items ≡ old.lines.items ++ print old.kinds.items (map (λ s. Ended at s (read_cells texts cells)) (take count (since_at old.starts cells)))
  pub kept : EachIsOpen old.starts → EachIsOpen new.starts

-- the row of these cells started so often: its new starts and their start lines come last
pub record StartsRow (texts : List (List ℕ)) (at count : ℕ) (cells : List Datum) (old new : OpenRows) : Type 0 where
  pub starts : HasAdded cells at count old.starts new.starts
  pub lines : new.lines.items ≡ old.lines.items ++ print old.kinds.items (replicate count (Started at (read_cells texts cells)))
  pub kept : EachIsOpen old.starts → EachIsOpen new.starts

-- the rows ended by which their ends are more than their starts, in order
pub record EndsRows (texts : List (List ℕ)) (touched : List Moves) (at : ℕ) (old new : OpenRows) : Type 0 where
  pub starts : (r : Row) → since_in texts new.starts r ≡ drop (ends_in texts touched r - starts_in texts touched r) (since_in texts old.starts r)
  pub lines : new.lines.items ≡ old.lines.items
      ++ print old.kinds.items (flat_map (end_lines (ends_in texts touched) (starts_in texts touched) at (since_in texts old.starts)) (rows_of texts touched))
  pub passed : (p : List Datum → Bool) → OpensPass p (since_at old.starts) → OpensPass p (since_at new.starts)
  pub kept : EachIsOpen old.starts → EachIsOpen new.starts

-- and started by which their starts are more than their ends
pub record StartsRows (texts : List (List ℕ)) (touched : List Moves) (at : ℕ) (old new : OpenRows) : Type 0 where
  pub starts : (r : Row) → since_in texts new.starts r ≡ since_in texts old.starts r ++ replicate (starts_in texts touched r - ends_in texts touched r) at
  pub lines : new.lines.items ≡ old.lines.items ++ print old.kinds.items (flat_map (start_lines (ends_in texts touched) (starts_in texts touched) at) (rows_of texts touched))
  pub passed : (p : List Datum → Bool) → KeepCells p touched → OpensPass p (since_at old.starts) → OpensPass p (since_at new.starts)
  pub kept : EachIsOpen old.starts → EachIsOpen new.starts

-- the lines of the changes of rows at an instant come last, and what is open is what is open after it
pub record ShowsChanges (texts : List (List ℕ)) (rows : ℕ → List Row) (at : ℕ) (old new : OpenRows) : Type 0 where
  pub lines : new.lines.items ≡ old.lines.items ++ print old.kinds.items (changes_at rows at)
  pub opened : AreOpen rows (suc at) (since_in texts new.starts)

-- an instant of any rows that move so was shown, and no cells came but those of the moves
pub record ShowsMoves (texts : List (List ℕ)) (touched : List Moves) (at : ℕ) (old new : OpenRows) : Type 0 where
  pub shown : (rows : ℕ → List Row) → AreMoves rows at (ends_in texts touched) (starts_in texts touched) → AreOpen rows at (since_in texts old.starts) →
      ShowsChanges texts rows at old new
  pub passed : (p : List Datum → Bool) → KeepCells p touched → OpensPass p (since_at old.starts) → OpensPass p (since_at new.starts)
  pub kept : EachIsOpen old.starts → EachIsOpen new.starts

-- an instant of any events whose news these edges are was shown, and no cells came but those of the edges
pub record ShowsInstant (texts : List (List ℕ)) (edges : List Edge) (at : ℕ) (old new : OpenRows) : Type 0 where
  pub shown : (events : List CellEvent) → AreEvents events → SameMoves edges (news at (suc at) events) →
      AreOpen (alive (read_events texts events)) at (since_in texts old.starts) → ShowsChanges texts (alive (read_events texts events)) at old new
  pub passed : (p : List Datum → Bool) → failing (λ e. p e.cells) edges ≡ 0 → OpensPass p (since_at old.starts) → OpensPass p (since_at new.starts)
  pub kept : EachIsOpen old.starts → EachIsOpen new.starts
