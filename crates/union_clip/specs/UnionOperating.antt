-- How the operator of a Union stands, and what it keeps.
use Rattle.std.specs.Prelude.{ℕ, ◌+◌, List, length}
use Rattle.tw_rows.specs.declared.edge.Edge.{Edge}
use Rattle.edge_stream.specs.Listing.{cells_of}
use Rattle.edge_stream.specs.declared.saved.SavedEntry.{SavedEntry}
use Rattle.plan_model.specs.declared.node.Node.TheVariants.{Union as UnionNode}
use Rattle.edge_stream.specs.Standing.{Standing}
use Rattle.plan_laws.specs.Uniting.{KeepsUnion}
use Rattle.union_clip.specs.Saving.{UnionSound, UnionResumes}
use Rattle.union_clip.specs.declared.union.Union.{Union}

abbrev pub standing : Union → Standing
standing o = record {
  node = UnionNode 0 1;
  left_closed = o.left_to;
  right_closed = o.right_to;
  left_kinds = cells_of o.left;
  right_kinds = cells_of o.left;
  own_kinds = cells_of o.left;
  batch_rows = o.left.capacity;
  has_failed = o.failed;
}

-- it is what is left after the edges hl and hr came in and out was answered
abbrev pub IsKept : Union → List (List ℕ) → List Edge → List Edge → List Edge → Type 0
IsKept o texts hl hr out = KeepsUnion texts o.left_to o.right_to o.left.edges o.right.edges hl hr out

-- how many edges it carries: with 2 on the left and 3 on the right, 5
abbrev pub entries : Union → ℕ
entries o = length o.left.edges + length o.right.edges

-- the entries are a state of such an operator whose sides are closed up to x and y
abbrev pub IsState : Union → List SavedEntry → ℕ → ℕ → Type 0
IsState o entries x y = UnionSound (cells_of o.left) (cells_of o.left) x y entries

-- they are what it carries after edges came in and were answered
abbrev pub IsResumed : Union → List SavedEntry → ℕ → ℕ → List (List ℕ) → List Edge → List Edge → List Edge → Type 0
IsResumed o entries x y texts hl hr out = UnionResumes (cells_of o.left) (cells_of o.left) texts x y entries hl hr out
