-- What holds of a plan at work holds with any number of workers.
use Rattle.std.specs.Prelude.{◌≡◌, ℕ, List, Option, Result, Ok, Err, IfOk, IfErr, OnOk}
use Rattle.tw_rows.specs.declared.edge.Edge.{Edge}
use Rattle.dataflow.specs.declared.fault.PlanFault.{PlanFault}
use Rattle.dataflow.specs.declared.fault.PlanFault.TheVariants.{Overflow}
use Rattle.dataflow.specs.Flows.{DataflowView, CanStep, Flows, HasPast, MayStep, StepsOn, GivesOn, OverflowsAt}
use Rattle.dataflow.specs.Below.{StopsAt}

abbrev pub with_workers : ℕ → DataflowView → DataflowView
with_workers workers d = record d { workers = workers }

module _ (workers : ℕ) (texts : List (List ℕ)) where
  pub can_with : (last : ℕ) (d : DataflowView) → CanStep texts last d → CanStep texts last (with_workers workers d)
  can_with last d can = record { count = can.count; fine = can.fine; room = can.room; ready = can.ready }

  pub flows_with : (last : ℕ) (given lists : ℕ → List Edge) (d : DataflowView) → Flows texts last given lists d → Flows texts last given lists (with_workers workers d)
  flows_with last given lists d flows = record { can = can_with last d flows.can; first = flows.first; kept = flows.kept }

  pub may_with : (p : ℕ) (given : ℕ → List Edge) (d : DataflowView) → MayStep texts p given d → MayStep texts p given (with_workers workers d)
  may_with p given d may = record {
    last = may.last;
    can = can_with may.last d may.can;
    later = may.later;
    past = λ fresh. past_with (may.past fresh);
  }
    where
      past_with : HasPast texts p given d → HasPast texts p given (with_workers workers d)
      past_with past = record {
        last = past.last;
        old = past.old;
        lists = past.lists;
        source = past.source;
        distinct = past.distinct;
        flows = flows_with past.last past.old past.lists d past.flows;
        later = past.later;
        stand = past.stand;
        from = past.from;
      }

module _ (workers : ℕ) (texts : List (List ℕ)) (p : ℕ) (given : ℕ → List Edge) (d after : DataflowView) where
  steps_with : StepsOn texts p d after → StepsOn texts p (with_workers workers d) (with_workers workers after)
  steps_with steps last can later = can_with workers texts p after (steps last (can_with d.workers texts last (with_workers workers d) can) later)

  gives_with : (out : List Edge) → GivesOn texts p given d after out → GivesOn texts p given (with_workers workers d) (with_workers workers after) out
  gives_with out gives last old lists source distinct flows later stand from =
      let told = gives last old lists source distinct (flows_with d.workers texts last old lists (with_workers workers d) flows) later stand from in
      record {
        more = told.more;
        flows = flows_with workers texts p _ _ after told.flows;
        stand = told.stand;
        root = told.root;
        later = told.later;
        defined = told.defined;
      }

  overflows_with : (node time : ℕ) → OverflowsAt texts p given d node time → OverflowsAt texts p given (with_workers workers d) node time
  overflows_with node time found last old lists source distinct flows later stand from =
      found last old lists source distinct (flows_with d.workers texts last old lists (with_workers workers d) flows) later stand from

  stops_with : (node : ℕ) → StopsAt texts p given node d after → StopsAt texts p given node (with_workers workers d) after
  stops_with node stops = record {
    low = stops.low;
    can = λ last can later. stops.can last (can_with d.workers texts last (with_workers workers d) can) later;
    flow = λ last old lists source distinct flows later stand from.
        stops.flow last old lists source distinct (flows_with d.workers texts last old lists (with_workers workers d) flows) later stand from;
  }

  -- so what a step tells with one number it tells with another
  pub all_step : {X : Type 0} (r : Result X PlanFault) → OnOk r (StepsOn texts p d after) → OnOk r (StepsOn texts p (with_workers workers d) (with_workers workers after))
  all_step (Ok x) told = steps_with told
  all_step (Err f) told = tt

  pub all_give : {X : Type 0} (edges : X → List Edge) (r : Result X PlanFault) → IfOk r (λ out. GivesOn texts p given d after (edges out)) →
      IfOk r (λ out. GivesOn texts p given (with_workers workers d) (with_workers workers after) (edges out))
  all_give edges (Ok x) told = gives_with (edges x) told
  all_give edges (Err f) told = tt

  pub all_overflow : {X : Type 0} (r : Result X PlanFault) → IfErr r (λ fault. (node time : ℕ) → fault ≡ Overflow node time → OverflowsAt texts p given d node time) →
      IfErr r (λ fault. (node time : ℕ) → fault ≡ Overflow node time → OverflowsAt texts p given (with_workers workers d) node time)
  all_overflow (Ok x) told = tt
  all_overflow (Err f) told = λ node time is. overflows_with node time (told node time is)

  pub all_stop : {X : Type 0} (r : Result X PlanFault) → IfErr r (λ fault. (node time : ℕ) → fault ≡ Overflow node time → StopsAt texts p given node d after) →
      IfErr r (λ fault. (node time : ℕ) → fault ≡ Overflow node time → StopsAt texts p given node (with_workers workers d) after)
  all_stop (Ok x) told = tt
  all_stop (Err f) told = λ node time is. stops_with node (told node time is)

-- of the plan afterwards it tells nothing of its workers and its fault
pub all_views : {X : Type 0} (r : Result X PlanFault) (texts : List (List ℕ)) (p : ℕ) (given : ℕ → List Edge) (d after : DataflowView) (workers : ℕ) (fault : Option PlanFault) →
    IfErr r (λ f. (node time : ℕ) → f ≡ Overflow node time → StopsAt texts p given node d after) →
    IfErr r (λ f. (node time : ℕ) → f ≡ Overflow node time → StopsAt texts p given node d (record after { workers = workers; fault = fault }))
all_views (Ok x) texts p given d after workers fault told = tt
all_views (Err f) texts p given d after workers fault told = λ node time is.
    let stops = told node time is in
    record {
      low = stops.low;
      can = stops.can;
      flow = λ last old lists source distinct flows later stand from.
          let flow = stops.flow last old lists source distinct flows later stand from in
          record { more = flow.more; flows = flow.flows };
    }
