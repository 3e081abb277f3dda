-- The parts of an engine frozen, and parts that were made of what others kept.
use Rattle.std.specs.Prelude.{◌≡◌, ℕ, ◌+◌, ◌<◌, false, List, [], ◌∷◌, ◌++◌, length, map, get_or, All}
use Rattle.std.proofs.Common.{sym, ◌∙◌, ap, subst, arith, inl, inr}
use Rattle.std.proofs.lemmas.Bool.{cases_lt}
use Rattle.std.proofs.lemmas.List.{get_or_push, get_or_append_left}
use Rattle.tw_rows.specs.Cells.{datum_kind}
use Rattle.tw_rows.specs.Kinds.{cell_kind_of}
use Rattle.tw_rows.specs.Texts.{BeginsWith}
use Rattle.tw_rows.specs.declared.edge.Edge.{Edge}
use Rattle.edge_history.specs.Order.{is_below, failing}
use Rattle.plan_model.specs.IsPlan.{PlanParts, IsPlan}
use Rattle.plan_laws.specs.Places.{AreDistinct}
use Rattle.plan_laws.proofs.Standing.{placed_longer}
use Rattle.admission.specs.declared.policy.Policy.{Policy}
use Rattle.admission.specs.Admission.{Admission}
use Rattle.admission.specs.Keeping.{IsGoing}
use Rattle.admission.specs.Progress.{Progress}
use Rattle.ingress.specs.Admits.{IsFor, Admits, AreMarksOf, cells_of}
use Rattle.ingress.specs.Fits.{stream_cells}
use Rattle.ingress.specs.Times.{IsTimed}
use Rattle.row_reader.specs.Printed.{IsEnd}
use Rattle.ingress.specs.Saving.{Resumes}
use Rattle.ingress.proofs.Reading.{admits_longer}
use Rattle.egress.specs.Output.{Holds, IsPlacedIn}
use Rattle.egress.specs.Saving.{EntriesArePlaced, SavesAs, StandsAt}
use Rattle.egress.specs.Saving.{Resumes as ShownResumes}
use Rattle.egress.specs.Waiting.{edges_if, waiting_in}
use Rattle.egress.proofs.Taking.{holds_longer}
use Rattle.dataflow.specs.Flows.{CanStep, Flows}
use Rattle.dataflow.specs.Saving.{AreStates, FlowsResume}
use Rattle.tempo_engine.specs.Output.{result_kinds}
use Rattle.tempo_engine.specs.Kept.{KeptView}
use Rattle.tempo_engine.specs.Frozen.{FitsProgress, time_at, closed_at}
use Rattle.tempo_engine.specs.Went.{Went}
use Rattle.tempo_engine.specs.declared.parts.Parts.{Parts}
use Rattle.tempo_engine.proofs.Punctuating.{closed_reached}

-- the parts were made for the plan, and each took up what was kept. The clauses of the calls are the premises
module _ (workers : ℕ) (plan : PlanParts) (whole : IsPlan plan) (policy : Policy) (w : Progress) (going : IsGoing (length plan.streams) w) (given lists : ℕ → List Edge) (texts : List (List ℕ)) (k : KeptView)
    (fits : FitsProgress workers plan w given lists texts k) (e : Parts) where
  pub thaw_went :
      BeginsWith e.texts texts →
      IsFor plan.streams policy e.dataflow.capacity e.ingress →
      ((texts : List (List ℕ)) (a : Admission) (given : ℕ → List Edge) → Resumes (stream_cells plan.streams) k.input (time_at k.bounds) (time_at k.marks) k.last texts a given → Admits texts a given e.ingress) →
      e.ingress.released ≡ k.last → e.pools.capacity ≡ e.dataflow.capacity → e.dataflow.plan ≡ plan →
      ((given lists : ℕ → List Edge) → FlowsResume texts k.last given lists workers plan k.nodes → Flows e.texts k.last given lists e.dataflow) →
      ((texts : List (List ℕ)) (h : List Edge) → ShownResumes (result_kinds plan) k.output (closed_at plan k.last) texts h → Holds texts h (closed_at plan k.last) (closed_at plan k.last) e.egress) →
      ((texts : List (List ℕ)) → EntriesArePlaced texts k.output → IsPlacedIn texts e.egress) →
      e.egress.failed ≡ false → e.egress.rows.kinds.items ≡ result_kinds plan → e.closed ≡ closed_at plan k.last →
      Went plan policy w given lists e
  thaw_went begins fixed admits released pooled planned flows holds waits able kinds closed =
      let at : closed_at plan k.last ≡ closed_at plan w.last = ap (closed_at plan) fits.last in
      let nodes : FlowsResume texts k.last given lists workers plan k.nodes = subst (λ l. FlowsResume texts l given lists workers plan k.nodes) (sym fits.last) fits.nodes in
      let held = holds texts (lists plan.root) (subst (λ c. ShownResumes (result_kinds plan) k.output c texts (lists plan.root)) (sym at) fits.output) in
      let held_now : Holds texts (lists plan.root) e.closed e.closed e.egress = subst (λ c. Holds texts (lists plan.root) c c e.egress) (sym closed) held in
      record {
        fixed = fixed;
        took = admits_longer e.texts texts w.after given e.ingress begins (admits texts w.after given fits.input);
        released = released ∙ fits.last;
        pooled = pooled;
        planned = planned;
        flows = subst (λ l. Flows e.texts l given lists e.dataflow) fits.last (flows given lists nodes);
        placed = placed_longer e.texts texts begins (lists plan.root) fits.placed;
        holds = holds_longer e.texts texts begins (lists plan.root) e.closed e.closed e.egress fits.placed held_now;
        waits = λ t. placed_longer e.texts texts begins (edges_if (waiting_in e.egress.waiting t)) (waits texts fits.shown t);
        able = able;
        kinds = kinds;
        closed = closed ∙ at ∙ sym (closed_reached plan whole w going);
        timed = fits.timed;
        instant = fits.instant;
        below = subst (λ c. failing (is_below c) (lists plan.root) ≡ 0) (sym (closed ∙ at)) fits.below;
        typed = fits.typed;
      }

-- the output took what the root answered
pub shown_stands : (plan : PlanParts) (policy : Policy) (w : Progress) (given lists : ℕ → List Edge) (e : Parts) → Went plan policy w given lists e →
    AreDistinct e.texts → StandsAt e.texts (lists plan.root) e.closed e.egress
shown_stands plan policy w given lists e went distinct = record {
  distinct = distinct;
  placed = went.placed;
  typed = subst (λ x. All (λ edge. map datum_kind edge.cells ≡ map cell_kind_of x) (lists plan.root)) (sym went.kinds) went.typed;
  below = went.below;
  holds = went.holds;
}

-- the parts went on to w, and saved what they keep
module _ (workers : ℕ) (plan : PlanParts) (whole : IsPlan plan) (policy : Policy) (w : Progress) (going : IsGoing (length plan.streams) w) (given lists : ℕ → List Edge) (e : Parts) (went : Went plan policy w given lists e) (k : KeptView)
    (last : k.last ≡ e.ingress.released) (distinct : AreDistinct e.texts) where
  closed_is : e.closed ≡ closed_at plan w.last
  closed_is = went.closed ∙ closed_reached plan whole w going

  pub freeze_fits :
      ((s : ℕ) → s < length plan.streams → w.after.bound s ≡ time_at k.bounds s) → ((s : ℕ) → s < length plan.streams → w.after.mark s ≡ time_at k.marks s) →
      ((texts : List (List ℕ)) (a : Admission) (given : ℕ → List Edge) (bounds marks : ℕ → ℕ) → Admits texts a given e.ingress → IsTimed a → IsEnd e.ingress.released → AreMarksOf e.ingress a bounds marks →
      Resumes (cells_of e.ingress) k.input bounds marks e.ingress.released texts a given) →
      (CanStep e.texts w.last e.dataflow → AreStates workers e.dataflow.plan w.last k.nodes) →
      (Flows e.texts w.last given lists e.dataflow → FlowsResume e.texts w.last given lists workers e.dataflow.plan k.nodes) →
      SavesAs e.egress k.output → EntriesArePlaced e.texts k.output →
      FitsProgress workers plan w given lists e.texts k
  freeze_fits same_bounds same_marks resumes states flows shows shown_placed =
      let at : k.last ≡ w.last = last ∙ went.released in
      let cells = went.fixed.cells in
      let count = went.fixed.count in
      let both : AreMarksOf e.ingress w.after (time_at k.bounds) (time_at k.marks) = λ s low. (same_bounds s (subst (λ n. s < n) count low), same_marks s (subst (λ n. s < n) count low)) in
      let input = resumes e.texts w.after given (time_at k.bounds) (time_at k.marks) went.took went.timed (subst IsEnd (sym went.released) went.instant) both in
      let shown = shows e.texts (lists plan.root) e.closed (shown_stands plan policy w given lists e went distinct) in
      record {
        last = at;
        input = subst (λ l. Resumes (stream_cells plan.streams) k.input (time_at k.bounds) (time_at k.marks) l e.texts w.after given) (sym last)
            (subst (λ c. Resumes c k.input (time_at k.bounds) (time_at k.marks) e.ingress.released e.texts w.after given) cells input);
        nodes = subst (λ q. FlowsResume e.texts w.last given lists workers q k.nodes) went.planned (flows went.flows);
        states = subst (λ q. AreStates workers q w.last k.nodes) went.planned (states went.flows.can);
        placed = went.placed;
        output = subst (λ c. ShownResumes (result_kinds plan) k.output c e.texts (lists plan.root)) closed_is
            (subst (λ x. ShownResumes x k.output e.closed e.texts (lists plan.root)) went.kinds shown);
        shown = shown_placed;
        timed = went.timed;
        instant = went.instant;
        below = subst (λ c. failing (is_below c) (lists plan.root) ≡ 0) closed_is went.below;
        typed = went.typed;
      }

-- one time more is that of the next stream
pub times_next : (times : ℕ → ℕ) (i t : ℕ) (items : List ℕ) → length items ≡ i → ((s : ℕ) → s < i → times s ≡ get_or items s 0) → t ≡ times i → (s : ℕ) → s < i + 1 → times s ≡ get_or (items ++ t ∷ []) s 0
times_next times i t items count so_far is s low = elim (cases_lt s i) [
  | inl before ↦ so_far s before ∙ sym (get_or_append_left items (t ∷ []) 0 s (omega (arith, before, count)))
  | inr after ↦
      let e : i ≡ s = omega (arith, low, after) in
      subst (λ k. times k ≡ get_or (items ++ t ∷ []) k 0) e (sym is ∙ sym (get_or_push items t 0 i count))
]
