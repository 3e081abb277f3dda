-- What the operator of a Union saves.
use Rattle.std.specs.Prelude.{◌≡◌, ℕ, nat_eq, min, Bool, true, false, cond, Option, Some, None, List, []}
use Rattle.tw_rows.specs.declared.edge.Edge.{Edge}
use Rattle.tw_rows.specs.declared.kind.CellKind.{CellKind}
use Rattle.edge_stream.specs.declared.saved.PartRow.{PartRow}
use Rattle.edge_stream.specs.declared.saved.PartRow.TheVariants.{Left, Right}
use Rattle.edge_stream.specs.declared.saved.SavedEntry.{SavedEntry}
use Rattle.edge_stream.specs.Entries.{part_of, are_of_parts, IsEdgePart}
use Rattle.plan_laws.specs.Uniting.{KeepsUnion}

-- nothing is carried, no side is closed, and no step failed
pub record IsOpening (left_carried right_carried : List Edge) (x y : ℕ) (failed : Bool) : Type 0 where
  pub left_empty : left_carried ≡ []
  pub right_empty : right_carried ≡ []
  pub left : x ≡ 0
  pub right : y ≡ 0
  pub works : failed ≡ false

-- whose row the cells of a part are: those of part 0 are of a left row, those of part 1 of a right one
abbrev pub row_of : ℕ → Option PartRow
row_of part = cond (nat_eq part 0) (Some Left) (cond (nat_eq part 1) (Some Right) None)

-- the entries are of the parts 0, a row of the left child each, and 1, a row of the right child each: edges of these sides, none
-- before the lesser of the times up to which the sides are closed
pub record UnionSound (left_kinds right_kinds : List CellKind) (x y : ℕ) (entries : List SavedEntry) : Type 0 where
  pub parts : are_of_parts 2 entries ≡ true
  pub left : IsEdgePart left_kinds (min x y) (part_of 0 entries)
  pub right : IsEdgePart right_kinds (min x y) (part_of 1 entries)

-- the entries are what is carried after the edges came in and were answered
pub record UnionResumes (left_kinds right_kinds : List CellKind) (texts : List (List ℕ)) (x y : ℕ) (entries : List SavedEntry)
    (left right out : List Edge) : Type 0 where
  pub sound : UnionSound left_kinds right_kinds x y entries
  pub keeps : KeepsUnion texts x y (part_of 0 entries) (part_of 1 entries) left right out
