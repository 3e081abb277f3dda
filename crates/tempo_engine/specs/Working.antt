-- A line, and a punctuation, while the parts of an engine work at them.
use Rattle.std.specs.Prelude.{◌≡◌, ℕ, ◌<◌, ◌≤◌, false, None, Ok, List, [], ◌∷◌, ◌++◌, length, flat_map}
use Rattle.tw_rows.specs.declared.edge.Edge.{Edge}
use Rattle.tw_rows.specs.Instant.{inf}
use Rattle.plan_model.specs.IsPlan.{PlanParts, IsPlan}
use Rattle.plan_model.specs.Meaning.{closes}
use Rattle.plan_laws.specs.Undefined.{overflow}
use Rattle.row_reader.specs.Printed.{IsEnd}
use Rattle.row_reader.specs.declared.entry.Entry.{Entry}
use Rattle.admission.specs.declared.policy.Policy.{Policy}
use Rattle.admission.specs.Admission.{Admission, Taken, admit, rows, allowed}
use Rattle.admission.specs.Entries.{Told}
use Rattle.admission.specs.Keeping.{IsGoing}
use Rattle.admission.specs.Progress.{Progress, progress}
use Rattle.admission.specs.Text.{between, closed_up}
use Rattle.tempo_engine.specs.Output.{item_text, result_kinds}
use Rattle.tempo_engine.specs.Texts.{texts_of}
use Rattle.tempo_engine.specs.Went.{Went}
use Rattle.tempo_engine.specs.declared.parts.Parts.{Parts}

-- after these lines one more was admitted, and no punctuation was worked through yet that it makes due
pub record HasTaken (plan : PlanParts) (policy : Policy) (lines : List Told) (line : Told) (given lists : ℕ → List Edge) (e : Parts) : Type 0 where
  pub entry : Entry
  pub after : Admission
  pub says : line.read ≡ Ok entry
  pub takes : admit policy (progress plan policy lines false).after entry ≡ Taken after
  pub texts : e.texts ≡ texts_of plan (lines ++ line ∷ [])
  pub went : Went plan policy (record (progress plan policy lines false) { after = after }) given lists e
  pub instant : IsEnd (allowed policy (length plan.streams) after)

-- the punctuation p, which is later than the last one, may be worked through
pub record IsDue (p : ℕ) (plan : PlanParts) (policy : Policy) (w : Progress) (given lists : ℕ → List Edge) (e : Parts) : Type 0 where
  pub sound : IsPlan plan
  pub going : IsGoing (length plan.streams) w
  pub went : Went plan policy w given lists e
  pub above : w.last < p
  pub low : p ≤ inf
  pub instant : IsEnd p

-- whenever it is due
abbrev pub WhenDue : ℕ → Parts → (PlanParts → Policy → Progress → (ℕ → List Edge) → (ℕ → List Edge) → Type 0) → Type 0
WhenDue p e P = (plan : PlanParts) (policy : Policy) (w : Progress) (given lists : ℕ → List Edge) → IsDue p plan policy w given lists e → P plan policy w given lists

-- it is due of some lines, if the parts took up nothing that was saved
abbrev pub IsDueOfLines : ℕ → Parts → Type 0
IsDueOfLines p e = e.dataflow.thawed ≡ false →
    (plan : PlanParts) × ((policy : Policy) × ((w : Progress) × ((given : ℕ → List Edge) × ((lists : ℕ → List Edge) × IsDue p plan policy w given lists e))))

-- at the punctuation p no node is undefined, and these are the bytes of what the root shows up to its closing
pub record IsShown (p : ℕ) (plan : PlanParts) (w : Progress) (bytes : List ℕ) : Type 0 where
  pub defined : overflow (rows w.after) plan.nodes p ≡ None
  pub shown : bytes ≡ flat_map (item_text (result_kinds plan)) (between (rows w.after) plan (closed_up plan 0 w.dues) (closes plan.nodes plan.root p))
