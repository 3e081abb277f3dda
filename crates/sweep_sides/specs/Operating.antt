-- The operator of any sweep: how it stands, and what it keeps.
use Rattle.std.specs.Prelude.{ℕ, List, map}
use Rattle.tw_rows.specs.Kinds.{cell_kind_of}
use Rattle.tw_rows.specs.declared.kind.CellKind.{CellKind}
use Rattle.edge_stream.specs.declared.saved.SavedEntry.{SavedEntry}
use Rattle.plan_model.specs.Meaning.{node_closes}
use Rattle.edge_stream.specs.Standing.{Standing, Keeping}
use Rattle.sweep_sides.specs.declared.sweep.Sweep.{Ghosts}
use Rattle.sweep_sides.specs.declared.swept.Swept.{Swept}
use Rattle.sweep_sides.specs.Sweepers.{IsUnused, SweptKeeps, SweptResumes}

-- how the columns of the left and of the right side are stored
abbrev pub left_cells : {S : Type 0} {g : Ghosts S} → Swept S g → List CellKind
left_cells o = map cell_kind_of o.left_kinds.items

abbrev pub right_cells : {S : Type 0} {g : Ghosts S} → Swept S g → List CellKind
right_cells o = map cell_kind_of o.right_kinds.items

abbrev pub standing : {S : Type 0} {g : Ghosts S} → Swept S g → Standing
standing {g = g} o = record {
  node = g.node o.sweep;
  left_closed = o.left_to;
  right_closed = o.right_to;
  left_kinds = left_cells o;
  right_kinds = right_cells o;
  own_kinds = map cell_kind_of o.own_kinds.items;
  batch_rows = o.capacity;
  has_failed = o.failed;
}

-- how many entries it keeps
abbrev pub entries : {S : Type 0} {g : Ghosts S} → Swept S g → ℕ
entries {g = g} o = g.entries o.sweep

-- it stands as it was made
abbrev pub IsNew : {S : Type 0} {g : Ghosts S} → Swept S g → Type 0
IsNew {g = g} o = g.is_empty o.sweep × IsUnused o.left_to o.right_to o.failed

-- it is what is left after the edges hl and hr came in and out was answered
abbrev pub IsKept : {S : Type 0} {g : Ghosts S} → Swept S g → Keeping
IsKept {g = g} o texts hl hr out = SweptKeeps (g.node o.sweep) (g.keeps o.sweep) (left_cells o) (right_cells o) o.left_to o.right_to texts hl hr out

-- saved entries can be its state, closed up to x and y
abbrev pub IsSound : {S : Type 0} {g : Ghosts S} → Swept S g → List SavedEntry → ℕ → ℕ → Type 0
IsSound {g = g} o saved x y = g.sound o.sweep (left_cells o) (right_cells o) (node_closes (g.node o.sweep) x y) saved

-- they are what it keeps after the edges came in and were answered
abbrev pub Resumes : {S : Type 0} {g : Ghosts S} → Swept S g → List SavedEntry → ℕ → ℕ → Keeping
Resumes {g = g} o saved x y texts hl hr out =
    SweptResumes (g.node o.sweep) (IsSound o saved x y) (g.resumes o.sweep saved) (left_cells o) (right_cells o) x y texts hl hr out
