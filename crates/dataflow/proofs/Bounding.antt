-- The stages of a plan keep no more entries than its nodes may, over the events of its sources.
use Rattle.std.specs.Prelude.{◌≡◌, ℕ, ◌<◌, ◌≤◌, Some, List, [], length, get_or, slice_get}
use Rattle.std.proofs.Common.{subst, le_trans, arith, inl, inr}
use Rattle.std.proofs.lemmas.Bool.{cases_lt}
use Rattle.std.proofs.lemmas.Option.{slice_get-get_or, slice_get_within}
use Rattle.tw_rows.specs.Instant.{inf}
use Rattle.tw_rows.specs.declared.edge.Edge.{Edge}
use Rattle.plan_model.specs.declared.node.Node.{Node}
use Rattle.plan_model.specs.IsPlan.{IsPlan}
use Rattle.plan_model.specs.Meaning.{Sources, node_events, node_closes, left_of, right_of}
use Rattle.plan_model.proofs.Closings.{closes_low}
use Rattle.plan_model.proofs.Kept.{IsPlan-ordered}
use Rattle.plan_model.proofs.Plans.{over_nodes-is}
use Rattle.plan_laws.specs.Held.{node_may_hold}
use Rattle.plan_laws.specs.Places.{AreDistinct, read_of}
use Rattle.plan_laws.specs.Standing.{StandsRead, SourcesStandRead, AllStandRead}
use Rattle.where_select.specs.declared.row_stage.RowStage.TheVariants.{Source as SourceStage}
use Rattle.dataflow.specs.declared.stage.Stage.{Stage}
use Rattle.dataflow.specs.declared.stage.Stage.TheVariants.{Rows}
use Rattle.dataflow.specs.Flows.{DataflowView, Flows}
use Rattle.dataflow.specs.Stages.{reached, left_closing, right_closing, left_kinds, right_kinds, entries_in, may_keep, KeepsAtMost}
use Rattle.dataflow.proofs.PlanHold.{none_held_of, first_stands, through, held_of_events}
use Rattle.dataflow.proofs.Rules.{stage_stands}
use Rattle.dataflow.proofs.Stepping.{reached_after, node_there}

-- each node's answers stand for what it read
module _ (texts : List (List ℕ)) (distinct : AreDistinct texts) (d : DataflowView) (whole : IsPlan d.plan) (last : ℕ) (low : last ≤ inf) (given lists : ℕ → List Edge) (flows : Flows texts last given lists d) where
  abbrev left_at : Node → ℕ
  left_at n = left_closing d.plan.nodes last n

  abbrev right_at : Node → ℕ
  right_at n = right_closing d.plan.nodes last n

  -- after a punctuation by what its stage keeps, and before the first one since there is nothing
  answered_later : 0 < last → (i : ℕ) (n : Node) → slice_get d.plan.nodes i ≡ Some n →
      StandsRead texts (node_closes n (left_at n) (right_at n)) (lists i) (node_events n (read_of texts (left_of [] given lists n)) (read_of texts (right_of [] lists n)))
  answered_later later i n there =
      let s = get_or d.stages i (Rows SourceStage) in
      let each = flows.can.count in
      let low = slice_get_within d.plan.nodes i n there in
      let here = slice_get-get_or d.stages i (Rows SourceStage) (omega (arith, low, each)) in
      subst (λ x. StandsRead texts (node_closes n x (right_at n)) (lists i) (node_events n (read_of texts (left_of [] given lists n)) (read_of texts (right_of [] lists n)))) (reached_after 0 last (left_at n) later)
      (subst (λ y. StandsRead texts (node_closes n (reached last (left_at n)) y) (lists i) (node_events n (read_of texts (left_of [] given lists n)) (read_of texts (right_of [] lists n)))) (reached_after 0 last (right_at n) later)
      (stage_stands texts distinct d.capacity (left_kinds d.plan n) (right_kinds d.plan n) n s (reached last (left_at n)) (reached last (right_at n)) (flows.can.ready i n s there here)
      (left_of [] given lists n) (right_of [] lists n) (lists i) (flows.kept i n s there here)))

  answered_first : last ≡ 0 → (i : ℕ) (n : Node) → slice_get d.plan.nodes i ≡ Some n →
      StandsRead texts (node_closes n (left_at n) (right_at n)) (lists i) (node_events n (read_of texts (left_of [] given lists n)) (read_of texts (right_of [] lists n)))
  answered_first none i n there =
      let closed = closes_low d.plan.nodes (IsPlan-ordered d.plan whole) last last (omega arith) low i in
      let same = over_nodes-is inf (λ s. last) node_closes d.plan.nodes (IsPlan-ordered d.plan whole) i n there in
      first_stands texts given lists (λ k. (flows.first none k).0) (λ k. (flows.first none k).1) n (node_closes n (left_at n) (right_at n)) (omega (arith, closed, same)) i

  pub answered : (i : ℕ) (n : Node) → slice_get d.plan.nodes i ≡ Some n →
      StandsRead texts (node_closes n (left_at n) (right_at n)) (lists i) (node_events n (read_of texts (left_of [] given lists n)) (read_of texts (right_of [] lists n)))
  answered i n there = elim (cases_lt 0 last) [
    | inl later ↦ answered_later later i n there
    | inr early ↦ answered_first (omega (arith, early)) i n there
  ]

-- and so for its events
pub all_stand : (texts : List (List ℕ)) → AreDistinct texts → (d : DataflowView) → IsPlan d.plan → (last : ℕ) (source : Sources) (given lists : ℕ → List Edge) → Flows texts last given lists d → SourcesStandRead texts last source given →
    AllStandRead texts d.plan.nodes last source lists (length d.plan.nodes)
all_stand texts distinct d whole last source given lists flows from =
    through texts distinct d.plan.nodes (IsPlan-ordered d.plan whole) last source given lists from (answered texts distinct d whole last (from 0).known.low given lists flows) (length d.plan.nodes) (omega arith)

module _ (texts : List (List ℕ)) (distinct : AreDistinct texts) (d : DataflowView) (whole : IsPlan d.plan) (last : ℕ) (source : Sources) (given lists : ℕ → List Edge) (flows : Flows texts last given lists d)
    (from : SourcesStandRead texts last source given) (most : (s : Stage) → KeepsAtMost (entries_in s) s) where
  abbrev left_to : Node → ℕ
  left_to n = left_closing d.plan.nodes last n

  abbrev right_to : Node → ℕ
  right_to n = right_closing d.plan.nodes last n

  -- over the edges that it read
  over_edges : (i : ℕ) (n : Node) (s : Stage) → slice_get d.plan.nodes i ≡ Some n → slice_get d.stages i ≡ Some s →
      entries_in s ≤ may_keep n (reached last (left_to n)) (reached last (right_to n)) (left_of [] given lists n) (right_of [] lists n)
  over_edges i n s there here =
      most s texts d.capacity (left_kinds d.plan n) (right_kinds d.plan n) n (reached last (left_to n)) (reached last (right_to n)) (left_of [] given lists n) (right_of [] lists n) (lists i)
      (flows.can.ready i n s there here) (flows.kept i n s there here)

  -- after a punctuation
  module _ (later : 0 < last) where
    over_events : (i : ℕ) (n : Node) (s : Stage) → slice_get d.plan.nodes i ≡ Some n → slice_get d.stages i ≡ Some s → entries_in s ≤ node_may_hold source d.plan.nodes last i
    over_events i n s there here =
        let a = subst (λ x. entries_in s ≤ may_keep n x (right_to n) (left_of [] given lists n) (right_of [] lists n)) (reached_after 0 last (left_to n) later)
        (subst (λ y. entries_in s ≤ may_keep n (reached last (left_to n)) y (left_of [] given lists n) (right_of [] lists n)) (reached_after 0 last (right_to n) later) (over_edges i n s there here)) in
        let b = held_of_events texts distinct d.plan.nodes (IsPlan-ordered d.plan whole) last source given lists from (answered texts distinct d whole last (from 0).known.low given lists flows) i n there (slice_get_within d.plan.nodes i n there) in
        le_trans a b

  pub bounded : (i : ℕ) (s : Stage) → slice_get d.stages i ≡ Some s → entries_in s ≤ node_may_hold source d.plan.nodes last i
  bounded i s here =
      let each = flows.can.count in
      let low = slice_get_within d.stages i s here in
      let at = node_there d.plan.nodes i (omega (arith, low, each)) in
      elim (cases_lt 0 last) [
        | inl later ↦ over_events later i at.0 s at.1 here
        | inr early ↦
            let none : last ≡ 0 = omega (arith, early) in
            let n = at.0 in
            let a = over_edges i n s at.1 here in
            let b = none_held_of given lists (λ k. (flows.first none k).0) (λ k. (flows.first none k).1) n (reached last (left_to n)) (node_closes n (reached last (left_to n)) (reached last (right_to n))) in
            let zero : entries_in s ≡ 0 = omega (arith, a, b) in
            omega (arith, zero)
      ]
