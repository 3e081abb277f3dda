-- What operators of this crate save.
use Rattle.std.specs.Prelude.{◌≡◌, ℕ, nat_eq, Bool, true, false, cond, Option, Some, None, List, []}
use Rattle.tw_rows.specs.declared.edge.Edge.{Edge}
use Rattle.tw_rows.specs.declared.kind.CellKind.{CellKind}
use Rattle.edge_stream.specs.declared.saved.PartRow.{PartRow}
use Rattle.edge_stream.specs.declared.saved.PartRow.TheVariants.{Left}
use Rattle.edge_stream.specs.declared.saved.SavedEntry.{SavedEntry}
use Rattle.plan_model.specs.declared.node.Node.{Node}
use Rattle.plan_laws.specs.Answers.{answered_below}
use Rattle.plan_laws.specs.LifeKeeping.{KeepsLives}
use Rattle.edge_stream.specs.Entries.{part_of, are_of_parts, IsEdgePart}

-- nothing is carried, no side is closed, and no step failed
pub record IsOpening (carried : List Edge) (x y : ℕ) (failed : Bool) : Type 0 where
  pub empty : carried ≡ []
  pub left : x ≡ 0
  pub right : y ≡ 0
  pub works : failed ≡ false

-- whose row the cells of a part are: those of part 0 are of a left row, and there is no other part
abbrev pub row_of : ℕ → Option PartRow
row_of part = cond (nat_eq part 0) (Some Left) None

-- the entries are of part 0 alone, a row of the left child each: edges that may be carried where the left side is closed up to
-- x. Of a hop of period 10 closed up to 17 an edge at 12 may be carried, and one at 9 not
pub record LifeSound (n : Node) (kinds : List CellKind) (x : ℕ) (entries : List SavedEntry) : Type 0 where
  pub parts : are_of_parts 1 entries ≡ true
  pub carried : IsEdgePart kinds (answered_below n x) (part_of 0 entries)

-- the entries are what is carried after the edges came in and were answered
pub record LifeResumes (n : Node) (kinds : List CellKind) (texts : List (List ℕ)) (x y : ℕ) (entries : List SavedEntry)
    (left right out : List Edge) : Type 0 where
  pub sound : LifeSound n kinds x entries
  pub keeps : KeepsLives n texts x y (part_of 0 entries) left right out
