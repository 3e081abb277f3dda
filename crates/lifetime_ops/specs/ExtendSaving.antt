-- What the operator of an Extend saves.
use Rattle.std.specs.Prelude.{◌≡◌, ℕ, nat_eq, nat_lt, not, ◌||◌, Bool, true, false, cond, Option, Some, None, List, []}
use Rattle.std.specs.List.{list_all}
use Rattle.tw_rows.specs.declared.edge.Edge.{Edge}
use Rattle.tw_rows.specs.declared.kind.CellKind.{CellKind}
use Rattle.edge_history.specs.Order.{is_end}
use Rattle.edge_stream.specs.declared.saved.PartRow.{PartRow}
use Rattle.edge_stream.specs.declared.saved.PartRow.TheVariants.{Left}
use Rattle.edge_stream.specs.declared.saved.SavedEntry.{SavedEntry}
use Rattle.end_queue.specs.Pending.{Pending}
use Rattle.plan_laws.specs.Extending.{KeepsExtended}
use Rattle.edge_stream.specs.Entries.{saved_edge, part_of, are_of_parts, IsEdgePart}

-- nothing is carried, no end waits, no side is closed, and no step failed
pub record IsOpening (carried : List Edge) (ends : List Pending) (x y : ℕ) (failed : Bool) : Type 0 where
  pub empty : carried ≡ []
  pub none : ends ≡ []
  pub left : x ≡ 0
  pub right : y ≡ 0
  pub works : failed ≡ false

-- whose row the cells of a part are: those of the parts 0 and 1 are of left rows
abbrev pub row_of : ℕ → Option PartRow
row_of part = cond (nat_lt part 2) (Some Left) None

-- the entry is an end, if it is of the part
abbrev pub is_end_in : ℕ → SavedEntry → Bool
is_end_in part s = not (nat_eq s.part part) || is_end (saved_edge s)

-- the entries are of the parts 0, edges that are carried, and 1, ends that wait, a row of the left child each. Where the left
-- side is closed up to 7 an end at 9 may wait, and one at 6 not
pub record ExtendSound (kinds : List CellKind) (x : ℕ) (entries : List SavedEntry) : Type 0 where
  pub parts : are_of_parts 2 entries ≡ true
  pub carried : IsEdgePart kinds x (part_of 0 entries)
  pub waiting : IsEdgePart kinds x (part_of 1 entries)
  pub ends : list_all is_end (part_of 1 entries) ≡ true

-- the entries are what is carried and what waits after the edges came in and were answered
pub record ExtendResumes (by : ℕ) (kinds : List CellKind) (texts : List (List ℕ)) (x y : ℕ) (entries : List SavedEntry)
    (left right out : List Edge) : Type 0 where
  pub sound : ExtendSound kinds x entries
  pub keeps : KeepsExtended by texts x y (part_of 0 entries) (part_of 1 entries) left right out
