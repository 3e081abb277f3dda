-- A plan as the nodes below the number of all its nodes.
use Rattle.std.specs.Prelude.{◌≡◌, ℕ, ◌<◌, Bool, None, List, length, get_or}
use Rattle.std.proofs.Common.{refl, sym, ap, subst, ◌∙◌, arith}
use Rattle.std.proofs.lemmas.Option.{slice_get_within}
use Rattle.tw_rows.specs.declared.edge.Edge.{Edge}
use Rattle.edge_history.specs.Order.{is_from, failing}
use Rattle.edge_stream.specs.Listing.{EdgeListView}
use Rattle.plan_model.specs.IsPlan.{PlanParts, IsPlan}
use Rattle.plan_model.specs.Meaning.{closes}
use Rattle.dataflow.specs.declared.stage.Stage.{Stage}
use Rattle.dataflow.specs.Stages.{reached}
use Rattle.dataflow.specs.Flows.{DataflowView, parts_of, CanStep, Flows, HasPast, MayStep, StepsOn, GivesOn, OverflowsAt}
use Rattle.dataflow.specs.Below.{CanStepBelow, FlowsBelow, HasPastBelow, MayStepBelow, StopsAt, StopsUnder, OverflowsUnder, GivesBelow, StepsBelow}

module _ (texts : List (List ℕ)) where
  -- what holds of the plan holds of all its nodes
  pub can_all : (last : ℕ) (d : DataflowView) → CanStep texts last d → CanStepBelow texts last (length d.plan.nodes) d
  can_all last d can = record { count = can.count; room = can.room; ready = λ i m s low. can.ready i m s }

  pub flow_all : (last : ℕ) (given lists : ℕ → List Edge) (d : DataflowView) → Flows texts last given lists d → FlowsBelow texts last (length d.plan.nodes) given lists d
  flow_all last given lists d flows = record { can = can_all last d flows.can; kept = λ i m s low. flows.kept i m s }

  pub may_all : (p : ℕ) (given : ℕ → List Edge) (d : DataflowView) → MayStep texts p given d → MayStepBelow texts p (length d.plan.nodes) given d
  may_all p given d may = record { last = may.last; can = can_all may.last d may.can; later = may.later; past = λ fresh. past_all (may.past fresh) }
    where
      past_all : HasPast texts p given d → HasPastBelow texts p (length d.plan.nodes) given d
      past_all past = record {
        last = past.last;
        old = past.old;
        lists = past.lists;
        source = past.source;
        distinct = past.distinct;
        flows = flow_all past.last past.old past.lists d past.flows;
        later = past.later;
        stand = past.stand;
        from = past.from;
      }

  -- of its workers and its fault nothing is asked
  pub may_parts : (p n : ℕ) (given : ℕ → List Edge) (d : DataflowView) → MayStepBelow texts p n given d → MayStepBelow texts p n given (parts_of d.plan d.stages d.capacity d.thawed)
  may_parts p n given d may = record { last = may.last; can = may.can; later = may.later; past = λ fresh. past_parts (may.past fresh) }
    where
      past_parts : HasPastBelow texts p n given d → HasPastBelow texts p n given (parts_of d.plan d.stages d.capacity d.thawed)
      past_parts past = record {
        last = past.last;
        old = past.old;
        lists = past.lists;
        source = past.source;
        distinct = past.distinct;
        flows = past.flows;
        later = past.later;
        stand = past.stand;
        from = past.from;
      }

  -- and the other way round
  can_whole : (last : ℕ) (d : DataflowView) → d.fault ≡ None → CanStepBelow texts last (length d.plan.nodes) d → CanStep texts last d
  can_whole last d fine can = record { count = can.count; fine = fine; room = can.room; ready = λ i m s at here. can.ready i m s (slice_get_within d.plan.nodes i m at) at here }

  flow_whole : (last : ℕ) (given lists : ℕ → List Edge) (d : DataflowView) → d.fault ≡ None → 0 < last → FlowsBelow texts last (length d.plan.nodes) given lists d → Flows texts last given lists d
  flow_whole last given lists d fine later flows = record {
    can = can_whole last d fine flows.can;
    first = λ none k. absurd (omega (arith, none, later));
    kept = λ i m s at here. flows.kept i m s (slice_get_within d.plan.nodes i m at) at here;
  }

  module _ (p : ℕ) (given : ℕ → List Edge) (plan : PlanParts) (before after : List Stage) (capacity : ℕ) (thawed : Bool) where
    abbrev old_parts : DataflowView
    old_parts = parts_of plan before capacity thawed

    abbrev new_parts : DataflowView
    new_parts = parts_of plan after capacity thawed

    pub steps_whole : StepsBelow texts p (length plan.nodes) old_parts new_parts → StepsOn texts p old_parts new_parts
    steps_whole steps last can later = can_whole p new_parts refl (steps last (can_all last old_parts can) later)

    pub gives_whole : IsPlan plan → (made : List EdgeListView) (out : EdgeListView) → out ≡ get_or made plan.root out → GivesBelow texts p (length plan.nodes) given old_parts new_parts made → GivesOn texts p given old_parts new_parts out.edges
    gives_whole whole made out is gives last old lists source distinct flows later stand from =
        let told = gives last old lists source distinct (flow_all last old lists old_parts flows) later stand from in
        let root = ap (λ l. l.edges) is ∙ told.root out whole.rooted in
        record {
          more = told.more;
          flows = flow_whole p _ _ new_parts refl (omega (arith, later)) told.flows;
          stand = told.stand;
          root = root;
          later = subst (λ l. failing (is_from (reached last (closes plan.nodes plan.root last))) l ≡ 0) (sym root) (told.later plan.root whole.rooted);
          defined = told.defined;
        }

    pub stops_whole : (node : ℕ) → StopsUnder texts p (length plan.nodes) given node old_parts new_parts → StopsAt texts p given node old_parts new_parts
    stops_whole node stops = record {
      low = stops.low;
      can = λ last can later. stops.can last (can_all last old_parts can) later;
      flow = λ last old lists source distinct flows later stand from. stops.flow last old lists source distinct (flow_all last old lists old_parts flows) later stand from;
    }

    pub overflows_whole : (node time : ℕ) → OverflowsUnder texts p (length plan.nodes) given old_parts node time → OverflowsAt texts p given old_parts node time
    overflows_whole node time found last old lists source distinct flows later stand from = found last old lists source distinct (flow_all last old lists old_parts flows) later stand from
