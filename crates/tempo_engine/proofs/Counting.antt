-- How many entries are frozen.
use Rattle.std.specs.Prelude.{◌≡◌, ℕ, zero, suc, ◌+◌, ◌≤◌, Bool, true, false, cond, Option, Some, None, List, [], ◌∷◌, length, slice_get}
use Rattle.std.proofs.Common.{refl, sym, ◌∙◌, ap, ap₂, subst, arith}
use Rattle.std.proofs.lemmas.Option.{slice_get-get_or, slice_get_within}
use Rattle.tw_rows.specs.Bag.{total}
use Rattle.tw_rows.specs.Event.{alive}
use Rattle.tw_rows.specs.declared.edge.Edge.{Edge}
use Rattle.tw_rows.specs.declared.kind.CellKind.{CellKind}
use Rattle.tw_rows.proofs.Bags.{total-append}
use Rattle.edge_stream.specs.declared.saved.SavedEntry.{SavedEntry}
use Rattle.plan_model.specs.declared.node.Node.{Node}
use Rattle.plan_model.specs.declared.node.Node.TheVariants.{Source}
use Rattle.plan_model.specs.IsPlan.{PlanParts, IsPlan}
use Rattle.plan_model.specs.Meaning.{Sources, closes, events, snapshots}
use Rattle.plan_model.specs.Opens.{before}
use Rattle.plan_model.proofs.Aggregates.{length_same}
use Rattle.plan_model.proofs.Kept.{IsPlan-ordered}
use Rattle.plan_model.proofs.Levels.{IsPlan-levelled}
use Rattle.plan_model.proofs.PlanLaws.{events_agree}
use Rattle.plan_laws.specs.Held.{node_may_hold}
use Rattle.plan_laws.specs.Places.{AreDistinct, read_of}
use Rattle.plan_laws.specs.Standing.{StandsRead, AllStandRead}
use Rattle.plan_laws.proofs.Standing.{rows_standing}
use Rattle.where_select.specs.Stages.{is_of_rows}
use Rattle.admission.specs.declared.policy.Policy.{Policy}
use Rattle.admission.specs.Admission.{rows}
use Rattle.admission.specs.Entries.{Told}
use Rattle.admission.specs.Progress.{Progress, progress}
use Rattle.admission.proofs.Rising.{lines_going}
use Rattle.ingress.specs.Counts.{together, may_hold}
use Rattle.dataflow.specs.declared.stage.Stage.{Stage}
use Rattle.dataflow.specs.Saving.{SavesAll}
use Rattle.dataflow.specs.Stages.{IsReady, entries_in}
use Rattle.frozen_state.specs.declared.owner.Owner.TheVariants as owners
use Rattle.frozen_state.specs.declared.frozen.FrozenPart.{FrozenPart}
use Rattle.tempo_engine.specs.Kept.{KeptView, shard_row, node_row, parts_of}
use Rattle.tempo_engine.specs.Entries.{entries_of, node_may_keep, nodes_may_keep, last_rows, may_freeze}
use Rattle.tempo_engine.specs.Fed.{FedBy, WhateverTook}
use Rattle.tempo_engine.specs.Freezing.{WhateverWent, kept_at_most}
use Rattle.tempo_engine.specs.Frozen.{closed_at}
use Rattle.tempo_engine.specs.Held.{MadeDue}
use Rattle.tempo_engine.specs.Went.{EngineView}
use Rattle.tempo_engine.specs.declared.fault.EngineFault.{EngineFault}
use Rattle.tempo_engine.specs.declared.parts.Parts.{Parts}
use Rattle.tempo_engine.proofs.Holding.{PlansKeep, worked_of, few}
use Rattle.tempo_engine.proofs.Punctuating.{closed_reached}

-- the entries of a node's parts, of those of all nodes, and of all parts
shard_entries : (node shard : ℕ) (es : List (List SavedEntry)) → entries_of (shard_row node shard es) ≡ total (λ e. length e) es
shard_entries node shard [] = refl
shard_entries node shard (e ∷ es) = ap (λ k. length e + k) (shard_entries node (suc shard) es)

node_entries : (node : ℕ) (nodes : List (List (List SavedEntry))) → entries_of (node_row node nodes) ≡ total (λ es. total (λ e. length e) es) nodes
node_entries node [] = refl
node_entries node (es ∷ nodes) =
    total-append (λ (p : FrozenPart). length p.saved) (shard_row node 0 es) (node_row (suc node) nodes)
    ∙ ap₂ (λ a b. a + b) (shard_entries node 0 es) (node_entries (suc node) nodes)

parts_entries : (k : KeptView) → entries_of (parts_of k) ≡ length k.input + (total (λ es. total (λ e. length e) es) k.nodes + length k.output)
parts_entries k =
    let out : List FrozenPart = record { owner = owners.Out; shard = 0; saved = k.output } ∷ [] in
    let behind : entries_of (parts_of k) ≡ length k.input + (entries_of (node_row 0 k.nodes) + entries_of out) =
    ap (λ n. length k.input + n) (total-append (λ (p : FrozenPart). length p.saved) (node_row 0 k.nodes) out) in
    let last : entries_of out ≡ length k.output = omega arith in
    behind ∙ ap₂ (λ a b. length k.input + (a + b)) (node_entries 0 k.nodes) last

-- lists with no more entries than the stages keep, one by one, have no more together
saved_few : (stages : List Stage) (saved : List (List (List SavedEntry))) → length saved ≡ length stages →
    ((i : ℕ) (s : Stage) (es : List (List SavedEntry)) → slice_get stages i ≡ Some s → slice_get saved i ≡ Some es → total (λ e. length e) es ≤ entries_in s) →
    total (λ es. total (λ e. length e) es) saved ≤ total entries_in stages
saved_few [] [] same each = omega arith
saved_few [] (es ∷ saved) same each = absurd (omega (arith, same))
saved_few (s ∷ stages) [] same each = absurd (omega (arith, same))
saved_few (s ∷ stages) (es ∷ saved) same each =
    let first = each 0 s es refl refl in
    let rest = saved_few stages saved (omega (arith, same)) (λ i t x here there. each (suc i) t x here there) in
    omega (arith, first, rest)

-- and so numbers that are bounded one by one
together_few : {X : Type 0} (w : X → ℕ) (xs : List X) (f : ℕ → ℕ) → ((i : ℕ) (x : X) → slice_get xs i ≡ Some x → w x ≤ f i) → total w xs ≤ together (length xs) f
together_few w [] f each = omega arith
together_few w (x ∷ xs) f each =
    let first = each 0 x refl in
    let rest = together_few w xs (λ i. f (suc i)) (λ i y here. each (suc i) y here) in
    omega (arith, first, rest)

-- what the parts saved
pub kept_few : (plan : PlanParts) (w : Progress) (lists : ℕ → List Edge) (e : Parts) (k : KeptView) → length k.input ≤ may_hold (length plan.streams) w.last w.after →
    SavesAll e.dataflow.stages k.nodes → length k.output ≡ length (before (alive (read_of e.texts (lists plan.root))) e.closed) →
    entries_of (parts_of k) ≤ kept_at_most plan w lists e
kept_few plan w lists e k input saves output =
    let all = parts_entries k in
    let nodes = saved_few e.dataflow.stages k.nodes saves.count (λ i s es here there. (saves.each i s es here there).1) in
    omega (arith, all, nodes, input, output)

-- as many rows are alive, of edges that stand for the events of the root, as the root has
root_rows : (source : Sources) (plan : PlanParts) → IsPlan plan → (texts : List (List ℕ)) (h : List Edge) (last : ℕ) →
    StandsRead texts (closes plan.nodes plan.root last) h (events source plan.nodes plan.root) →
    length (before (alive (read_of texts h)) (closed_at plan last)) ≡ length (last_rows source plan last)
root_rows source plan sound texts h zero stands = refl
root_rows source plan sound texts h (suc last) stands = go (closes plan.nodes plan.root (suc last)) stands
  where
    go : (c : ℕ) → StandsRead texts c h (events source plan.nodes plan.root) →
        length (before (alive (read_of texts h)) c) ≡ length (before (snapshots source plan.nodes plan.root) c)
    go zero s = refl
    go (suc t) s =
        let low = s.known.low in
        let agrees = events_agree source plan.nodes (IsPlan-ordered plan sound) (IsPlan-levelled plan sound) plan.root in
        length_same _ _ (rows_standing texts (suc t) t h (events source plan.nodes plan.root) (omega arith) s)
        ∙ length_same _ _ (agrees.same_rows t (omega (arith, low)))

-- what stages of rows keep, and for what the answers of the nodes stand
abbrev pub RowsKeepNothing : Type 0
RowsKeepNothing = (texts : List (List ℕ)) (capacity : ℕ) (left right : List CellKind) (n : Node) (s : Stage) (x y : ℕ) →
    IsReady texts capacity left right n s x y → is_of_rows n ≡ true → entries_in s ≡ 0

abbrev pub LinesStand : Type 0
LinesStand = (plan : PlanParts) (policy : Policy) (lines : List Told) (given lists : ℕ → List Edge) (e : EngineView) →
    AreDistinct e.parts.texts → FedBy plan policy lines given lists e →
    AllStandRead e.parts.texts plan.nodes (progress plan policy lines false).last (rows (progress plan policy lines false).after) lists (length plan.nodes)

-- an engine of these parts keeps no more than it may
module _ (keep : PlansKeep) (nothing : RowsKeepNothing) (stand : LinesStand) (v : EngineView) (distinct : AreDistinct v.parts.texts)
    (plan : PlanParts) (policy : Policy) (lines : List Told) (given lists : ℕ → List Edge) (fed : FedBy plan policy lines given lists v)
    (made : List Told) (due : MadeDue plan policy lines false made) where
  abbrev w : Progress
  w = progress plan policy lines false

  abbrev source : Sources
  source = rows (progress plan policy made false).after

  stage_few : (i : ℕ) (s : Stage) → slice_get v.parts.dataflow.stages i ≡ Some s → entries_in s ≤ node_may_keep source plan.nodes w.last i (slice_get plan.nodes i)
  stage_few i s here = there (slice_get plan.nodes i) refl
    where
      most : entries_in s ≤ node_may_hold source plan.nodes w.last i
      most = few keep plan policy lines false fed.sound fed.read v.parts distinct (worked_of plan policy w given lists v.parts fed.went) made due i s here

      at : (n : Node) → slice_get plan.nodes i ≡ Some n → (b : Bool) → is_of_rows n ≡ b → entries_in s ≤ cond b 0 (node_may_hold source plan.nodes w.last i)
      at n is true alone =
          let ready = fed.went.flows.can.ready i n s (subst (λ (q : PlanParts). slice_get q.nodes i ≡ Some n) (sym fed.went.planned) is) here in
          let none = nothing _ _ _ _ n s _ _ ready alone in
          omega (arith, none)
      at n is false other = most

      there : (o : Option Node) → slice_get plan.nodes i ≡ o → entries_in s ≤ node_may_keep source plan.nodes w.last i o
      there None is =
          let count = fed.went.flows.can.count in
          let same = ap (λ (q : PlanParts). length q.nodes) fed.went.planned in
          let low = slice_get_within v.parts.dataflow.stages i s here in
          absurd (let is_there = slice_get-get_or plan.nodes i (Source 0) (omega (arith, count, same, low)) in cc)
      there (Some n) is = at n is (is_of_rows n) refl

  stages_few : total entries_in v.parts.dataflow.stages ≤ nodes_may_keep source plan.nodes w.last
  stages_few =
      let same : length v.parts.dataflow.stages ≡ length plan.nodes = fed.went.flows.can.count ∙ ap (λ (q : PlanParts). length q.nodes) fed.went.planned in
      subst (λ n. total entries_in v.parts.dataflow.stages ≤ together n (λ i. node_may_keep source plan.nodes w.last i (slice_get plan.nodes i))) same
      (together_few entries_in v.parts.dataflow.stages (λ i. node_may_keep source plan.nodes w.last i (slice_get plan.nodes i)) stage_few)

  rows_are : length (before (alive (read_of v.parts.texts (lists plan.root))) v.parts.closed) ≡ length (last_rows (rows w.after) plan w.last)
  rows_are =
      let closed = fed.went.closed ∙ closed_reached plan fed.sound w (lines_going plan fed.sound policy lines fed.read) in
      let root = stand plan policy lines given lists v distinct fed plan.root fed.sound.rooted in
      ap (λ c. length (before (alive (read_of v.parts.texts (lists plan.root))) c)) closed ∙ root_rows (rows w.after) plan fed.sound v.parts.texts (lists plan.root) w.last root

  pub may_keep : kept_at_most plan w lists v.parts ≤ may_freeze plan policy made lines
  may_keep =
      let nodes = stages_few in
      let root = rows_are in
      omega (arith, nodes, root)

-- so it is frozen to no more entries
pub frozen_few : PlansKeep → RowsKeepNothing → LinesStand → (e : Parts) → AreDistinct e.texts → (number : ℕ) (fault : Option EngineFault) (ended : Bool) (parts : List FrozenPart) →
    WhateverWent e (λ plan policy w given lists. entries_of parts ≤ kept_at_most plan w lists e) →
    WhateverTook (record { parts = e; lines = number; fault = fault; ended = ended })
    (λ plan policy lines. (made : List Told) → MadeDue plan policy lines false made → entries_of parts ≤ may_freeze plan policy made lines)
frozen_few keep nothing stand e distinct number fault ended parts kept plan policy lines fed made due =
    let by = fed.by in
    let first = kept plan policy (progress plan policy lines false) fed.given fed.lists by.sound (lines_going plan by.sound policy lines by.read) by.went in
    let then = may_keep keep nothing stand (record { parts = e; lines = number; fault = fault; ended = ended }) distinct plan policy lines fed.given fed.lists by made due in
    omega (arith, first, then)
