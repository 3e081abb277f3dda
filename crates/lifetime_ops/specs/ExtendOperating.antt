-- How the operator of an Extend stands, and what it keeps.
use Rattle.std.specs.Prelude.{ℕ, ◌+◌, List, [], length}
use Rattle.tw_rows.specs.declared.edge.Edge.{Edge}
use Rattle.edge_stream.specs.Listing.{cells_of}
use Rattle.edge_stream.specs.declared.saved.SavedEntry.{SavedEntry}
use Rattle.plan_model.specs.declared.node.Node.TheVariants.{Extend}
use Rattle.edge_stream.specs.Standing.{Standing}
use Rattle.plan_laws.specs.Extending.{KeepsExtended}
use Rattle.lifetime_ops.specs.Waiting.{edges_of_pending}
use Rattle.lifetime_ops.specs.ExtendSaving.{ExtendSound, ExtendResumes}
use Rattle.lifetime_ops.specs.declared.extend.ExtendLifetime.{ExtendLifetime}

abbrev pub standing : ExtendLifetime → Standing
standing o = record {
  node = Extend 0 o.by;
  left_closed = o.left_to;
  right_closed = o.right_to;
  left_kinds = cells_of o.carried;
  right_kinds = [];
  own_kinds = cells_of o.carried;
  batch_rows = o.carried.capacity;
  has_failed = o.failed;
}

-- it is what is left after the edges hl and hr came in and out was answered
abbrev pub IsKept : ExtendLifetime → List (List ℕ) → List Edge → List Edge → List Edge → Type 0
IsKept o texts hl hr out = KeepsExtended o.by texts o.left_to o.right_to o.carried.edges (edges_of_pending o.ends) hl hr out

-- how many edges it carries and how many ends are pending: with 2 and 3, 5
abbrev pub entries : ExtendLifetime → ℕ
entries o = length o.carried.edges + length o.ends

-- the entries are a state of such an operator whose left side is closed up to x
abbrev pub IsState : ExtendLifetime → List SavedEntry → ℕ → ℕ → Type 0
IsState o entries x y = ExtendSound (cells_of o.carried) x entries

-- they are what it carries and what is pending after edges came in and were answered
abbrev pub IsResumed : ExtendLifetime → List SavedEntry → ℕ → ℕ → List (List ℕ) → List Edge → List Edge → List Edge → Type 0
IsResumed o entries x y texts hl hr out = ExtendResumes o.by (cells_of o.carried) texts x y entries hl hr out
