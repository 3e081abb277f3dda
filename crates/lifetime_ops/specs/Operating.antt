-- How the operator of a Delay, a Hop, a Duration or a Mean stands, and what it keeps.
use Rattle.std.specs.Prelude.{ℕ, List, [], length}
use Rattle.tw_rows.specs.declared.edge.Edge.{Edge}
use Rattle.edge_stream.specs.Listing.{cells_of}
use Rattle.edge_stream.specs.declared.saved.SavedEntry.{SavedEntry}
use Rattle.edge_stream.specs.Standing.{Standing}
use Rattle.plan_laws.specs.LifeKeeping.{KeepsLives}
use Rattle.lifetime_ops.specs.Nodes.{node_of, answer_kinds}
use Rattle.lifetime_ops.specs.Saving.{LifeSound, LifeResumes}
use Rattle.lifetime_ops.specs.declared.alter_lifetime.AlterLifetime.{AlterLifetime}

abbrev pub standing : AlterLifetime → Standing
standing o = record {
  node = node_of o.change;
  left_closed = o.left_to;
  right_closed = o.right_to;
  left_kinds = cells_of o.carried;
  right_kinds = [];
  own_kinds = answer_kinds o.change (cells_of o.carried);
  batch_rows = o.carried.capacity;
  has_failed = o.failed;
}

-- it is what is left after the edges hl and hr came in and out was answered
abbrev pub IsKept : AlterLifetime → List (List ℕ) → List Edge → List Edge → List Edge → Type 0
IsKept o texts hl hr out = KeepsLives (node_of o.change) texts o.left_to o.right_to o.carried.edges hl hr out

abbrev pub entries : AlterLifetime → ℕ
entries o = length o.carried.edges

-- the entries are a state of such an operator whose left side is closed up to x
abbrev pub IsState : AlterLifetime → List SavedEntry → ℕ → ℕ → Type 0
IsState o entries x y = LifeSound (node_of o.change) (cells_of o.carried) x entries

-- they are what it carries after edges came in and were answered
abbrev pub IsResumed : AlterLifetime → List SavedEntry → ℕ → ℕ → List (List ℕ) → List Edge → List Edge → List Edge → Type 0
IsResumed o entries x y texts hl hr out = LifeResumes (node_of o.change) (cells_of o.carried) texts x y entries hl hr out
