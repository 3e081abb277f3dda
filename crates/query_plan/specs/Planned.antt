-- The plan of a query, or its first fault. The items of a query are numbered from 0 in the order of its text: each stream,
-- each let and then its steps, the head of the body and then its steps.
use Rattle.std.specs.Prelude.{ℕ, suc, ◌+◌, ◌-◌, not, Result, Ok, List, [], ◌∷◌, length}
use Rattle.tw_rows.specs.declared.schema.StreamDef.{StreamDef}
use Rattle.plan_model.specs.declared.fault.QueryFault.{QueryFault}
use Rattle.plan_model.specs.declared.fault.QueryFault.TheVariants as F
use Rattle.plan_model.specs.declared.node.Node.TheVariants.{Source}
use Rattle.plan_model.specs.IsPlan.{PlanParts}
use Rattle.query_text.specs.declared.query.Let.{Let}
use Rattle.query_text.specs.declared.query.Pipe.{Pipe}
use Rattle.query_text.specs.declared.query.Query.{Query}
use Rattle.query_text.specs.declared.query.QueryStep.{QueryStep}
use Rattle.query_plan.specs.Draft.{Draft, no_draft, and_then, needs, is_taken, with_name, admitted}
use Rattle.query_plan.specs.Steps.{operand, step_nodes}

-- the draft after an item, and the node whose rows the next step works on
pub record Reached : Type 0 where
  pub draft : Draft
  pub at : ℕ

-- a stream is a source, and its name is new. It is the item of its own number
abbrev pub stream_planned : ℕ → Draft → StreamDef → Result Draft QueryFault
stream_planned item d s =
    and_then (admitted item d (record { node = Source item; schema = s.schema } ∷ [])) (λ e.
    and_then (needs (not (is_taken d.names s.name)) (F.NameTaken item)) (λ u.
    Ok (with_name e s.name (length d.nodes))))

abbrev pub streams_planned : ℕ → Draft → List StreamDef → Result Draft QueryFault
streams_planned item d [] = Ok d
streams_planned item d (s ∷ ss) = and_then (stream_planned item d s) (λ e. streams_planned (suc item) e ss)

-- a step over the node of number `at`; the next one works on the last node that it made
abbrev pub step_planned : ℕ → Reached → QueryStep → Result Reached QueryFault
step_planned item r s =
    and_then (step_nodes item r.draft r.at s) (λ ps.
    and_then (admitted item r.draft ps) (λ e.
    Ok (record { draft = e; at = length e.nodes - 1 })))

abbrev pub steps_planned : ℕ → Reached → List QueryStep → Result Reached QueryFault
steps_planned item r [] = Ok r
steps_planned item r (s ∷ ss) = and_then (step_planned item r s) (λ q. steps_planned (suc item) q ss)

-- a let is known after its own pipe
abbrev pub let_planned : ℕ → Draft → Let → Result Draft QueryFault
let_planned item d l =
    and_then (operand item d l.pipe.base) (λ at.
    and_then (needs (not (is_taken d.names l.name)) (F.NameTaken item)) (λ u.
    and_then (steps_planned (suc item) (record { draft = d; at = at }) l.pipe.steps) (λ r.
    Ok (with_name r.draft l.name r.at))))

-- the lets, and the body behind them
abbrev pub lets_planned : ℕ → Draft → List Let → Pipe → Result Reached QueryFault
lets_planned item d [] body =
    and_then (operand item d body.base) (λ at.
    steps_planned (suc item) (record { draft = d; at = at }) body.steps)
lets_planned item d (l ∷ ls) body =
    and_then (let_planned item d l) (λ e.
    lets_planned (suc item + length l.pipe.steps) e ls body)

-- the plan of a query, or its first fault. `stream s(v int); s | where v > 10` has a source and a filter, whose number 1 is
-- the root; `stream s(v int); q` has the fault of an unknown name in item 1
abbrev pub planned : Query → Result PlanParts QueryFault
planned q =
    and_then (streams_planned 0 no_draft q.streams) (λ d.
    and_then (lets_planned (length q.streams) d q.lets q.body) (λ r.
    Ok (record { streams = q.streams; nodes = r.draft.nodes; schemas = r.draft.schemas; root = r.at })))
