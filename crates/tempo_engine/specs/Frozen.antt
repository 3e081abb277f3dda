-- What an engine is frozen to, of which lines it is so, and when an engine can be made of it.
use Rattle.std.specs.Prelude.{◌≡◌, ℕ, false, None, List, length, map, get_or, All}
use Rattle.tw_rows.specs.Cells.{datum_kind}
use Rattle.tw_rows.specs.Kinds.{cell_kind_of}
use Rattle.tw_rows.specs.declared.edge.Edge.{Edge}
use Rattle.edge_history.specs.Order.{is_below, failing}
use Rattle.plan_model.specs.IsPlan.{PlanParts, IsPlan}
use Rattle.plan_model.specs.Meaning.{closes}
use Rattle.plan_laws.specs.Places.{AreDistinct, EdgesArePlaced}
use Rattle.row_reader.specs.Printed.{IsEnd}
use Rattle.admission.specs.declared.policy.Policy.{Policy}
use Rattle.admission.specs.Entries.{Told, AreRead}
use Rattle.admission.specs.Progress.{Progress, progress, fault}
use Rattle.ingress.specs.Fits.{stream_cells}
use Rattle.ingress.specs.Times.{IsTimed}
use Rattle.ingress.specs.Saving.{Resumes, IsSound as IsSoundInput}
use Rattle.egress.specs.Saving.{EntriesArePlaced, Resumes as ShownResumes, IsSound as IsSoundOutput}
use Rattle.frozen_state.specs.Frozen.{FrozenView}
use Rattle.frozen_state.specs.Forms.{part_forms}
use Rattle.frozen_state.specs.Formed.{IsFormed}
use Rattle.tempo_engine.specs.Kept.{KeptView, kept_of}
use Rattle.tempo_engine.specs.Named.{AreNamed, PartsArePlaced}
use Rattle.dataflow.specs.Stages.{reached}
use Rattle.dataflow.specs.Saving.{AreStates, FlowsResume}
use Rattle.tempo_engine.specs.Output.{result_kinds}
use Rattle.tempo_engine.specs.Texts.{texts_of}
use Rattle.tempo_engine.specs.Fed.{last_number}

-- the time of a stream
abbrev pub time_at : List ℕ → ℕ → ℕ
time_at times s = get_or times s 0

-- up to where the text goes once the punctuation `last` was worked through: 0 as long as there was none
abbrev pub closed_at : PlanParts → ℕ → ℕ
closed_at plan last = reached last (closes plan.nodes plan.root last)

-- the entries are a state of the input, of the nodes with so many workers, and of the output, with these bounds and marks
pub record IsSoundKept (workers : ℕ) (plan : PlanParts) (k : KeptView) : Type 0 where
  pub input : IsSoundInput (stream_cells plan.streams) k.input (time_at k.bounds) (time_at k.marks) k.last
  pub states : AreStates workers plan k.last k.nodes
  pub output : IsSoundOutput (result_kinds plan) k.output (closed_at plan k.last)

-- they are what the parts of an engine of the plan keep once lines gave w, with places in the table, where the streams gave
-- these edges, and the nodes answered with these
pub record FitsProgress (workers : ℕ) (plan : PlanParts) (w : Progress) (given lists : ℕ → List Edge) (texts : List (List ℕ))
    (k : KeptView) : Type 0 where
  pub last : k.last ≡ w.last
  pub input : Resumes (stream_cells plan.streams) k.input (time_at k.bounds) (time_at k.marks) k.last texts w.after given
  pub nodes : FlowsResume texts w.last given lists workers plan k.nodes
  pub states : AreStates workers plan w.last k.nodes
  pub placed : EdgesArePlaced texts (lists plan.root)
  pub output : ShownResumes (result_kinds plan) k.output (closed_at plan w.last) texts (lists plan.root)
  pub shown : EntriesArePlaced texts k.output
  pub timed : IsTimed w.after
  pub instant : IsEnd w.last
  pub below : failing (is_below (closed_at plan w.last)) (lists plan.root) ≡ 0
  pub typed : All (λ edge. map datum_kind edge.cells ≡ map cell_kind_of (result_kinds plan)) (lists plan.root)

-- it is what an engine of the plan, the policy and so many workers is frozen to after these lines, none of which had a fault,
-- where the streams gave these edges, and the nodes answered with these
pub record FitsBy (workers : ℕ) (plan : PlanParts) (policy : Policy) (lines : List Told) (given lists : ℕ → List Edge) (f : FrozenView) : Type 0 where
  pub sound : IsPlan plan
  pub read : AreRead (length plan.streams) lines
  pub fine : fault plan policy lines false ≡ None
  pub formed : IsFormed workers plan f
  pub number : f.lines ≡ last_number lines
  pub texts : f.texts ≡ texts_of plan lines
  pub fits : FitsProgress workers plan (progress plan policy lines false) given lists f.texts (kept_of workers plan f)

-- for some edges
pub record Fits (workers : ℕ) (plan : PlanParts) (policy : Policy) (lines : List Told) (f : FrozenView) : Type 0 where
  pub given : ℕ → List Edge
  pub lists : ℕ → List Edge
  pub by : FitsBy workers plan policy lines given lists f

-- the parts are those of an engine of the plan with so many workers, there are a bound and a mark for each stream, and all
-- places are those of texts
pub record IsComplete (workers : ℕ) (plan : PlanParts) (f : FrozenView) : Type 0 where
  pub named : AreNamed (part_forms workers plan) f.parts
  pub bounds : length f.bounds ≡ length plan.streams
  pub marks : length f.marks ≡ length plan.streams
  pub placed : PartsArePlaced f.texts f.parts

-- an engine of the plan and of so many workers can be made of it: it has its parts, in order, and no other, with a bound and a
-- mark for each stream; no text stands twice, and no place is without one; and the entries are states of the parts, where no
-- bound is below the last punctuation or the mark of its stream, and each shard of a node has rows of its own alone. Of a plan of
-- two streams it needs two bounds, and of a join with two workers two parts, of the shards 0 and 1
pub record IsState (workers : ℕ) (plan : PlanParts) (f : FrozenView) : Type 0 where
  pub complete : IsComplete workers plan f
  pub distinct : AreDistinct f.texts
  pub sound : IsSoundKept workers plan (kept_of workers plan f)
