use Rattle.std.proofs.Common.{◌≡◌, ℕ, ◌<◌, List, Ok, length, sym, ap, ◌∙◌, subst}
use Rattle.tw_rows.specs.declared.schema.ColumnDef.{ColumnDef}
use Rattle.tw_rows.specs.declared.schema.StreamDef.{StreamDef}
use Rattle.plan_model.specs.declared.node.Node.{Node}
use Rattle.plan_model.specs.IsPlan.{AreNodes, PlanParts}
use Rattle.query_text.specs.declared.query.Let.{Let}
use Rattle.query_text.specs.declared.query.Query.{Query}
use Rattle.query_plan.specs.Draft.{Draft, no_draft, and_then}
use Rattle.query_plan.specs.Planned.{Reached, streams_planned, lets_planned, planned}
use Rattle.query_plan.proofs.Answering.{goes_on}
use Rattle.query_plan.proofs.Sound.{planned-IsPlan}
use Rattle.query_plan.proofs.planning.plan.Goals as goal

abbrev parts : Query → Reached → PlanParts
parts q r = record { streams = q.streams; nodes = r.draft.nodes; schemas = r.draft.schemas; root = r.at }

-- what was planned of the streams, and then of the lets and the body, is the plan
whole : (q : Query) (streams : List StreamDef) (lets : List Let) (d : Draft) (r : Reached) → streams ≡ q.streams → lets ≡ q.lets →
    streams_planned 0 no_draft streams ≡ Ok d → lets_planned (length streams) d lets q.body ≡ Ok r → planned q ≡ Ok (parts q r)
whole q streams lets d r same also first then_rest =
    let last = λ (s : Reached). Ok (parts q s) in
    goes_on d (streams_planned 0 no_draft q.streams) (λ e. and_then (lets_planned (length q.streams) e q.lets q.body) last) (ap (λ s. streams_planned 0 no_draft s) (sym same) ∙ first)
    ∙ goes_on r (lets_planned (length q.streams) d q.lets q.body) last
    (ap (λ s. lets_planned (length s) d q.lets q.body) (sym same) ∙ (ap (λ l. lets_planned (length streams) d l q.body) (sym also) ∙ then_rest))

kept : (q : Query) (r : Reached) (copies : List StreamDef) (nodes : List Node) (schemas : List (List ColumnDef)) → planned q ≡ Ok (parts q r) →
    copies ≡ q.streams → nodes ≡ r.draft.nodes → schemas ≡ r.draft.schemas → AreNodes copies nodes schemas
kept q r copies nodes schemas h copied are with_schemas =
    let a = (planned-IsPlan q (parts q r) h).nodes_are in
    let b = subst (λ (s : List StreamDef). AreNodes s r.draft.nodes r.draft.schemas) (sym copied) a in
    let e = subst (λ (n : List Node). AreNodes copies n r.draft.schemas) (sym are) b in
    subst (λ (s : List (List ColumnDef)). AreNodes copies nodes s) (sym with_schemas) e

rooted : (q : Query) (r : Reached) (nodes : List Node) (at : ℕ) → planned q ≡ Ok (parts q r) → nodes ≡ r.draft.nodes → at ≡ r.at → at < length nodes
rooted q r nodes at h are is =
    let a = (planned-IsPlan q (parts q r) h).rooted in
    let b = subst (λ (n : List Node). r.at < length n) (sym are) a in
    subst (λ (k : ℕ). k < length nodes) (sym is) b

pub from_parts-requires-clause-nodes : goal.from_parts-requires-clause-nodes
from_parts-requires-clause-nodes c =
    let q = c.args.query.now in
    let r = c.in_ok-reached.reached in
    let all = whole q c.items-streams.result.now c.items-lets.result.now c.in_ok-draft.draft r c.items-streams.ensures c.items-lets.ensures c.in_ok-draft.ensures c.in_ok-reached.ensures in
    let draft = ap (λ (s : Reached). s.draft) c.reached.view_is in
    kept q r _ _ _ all (c.in_ok-copies.ensures ∙ c.items-streams.ensures) (c.into_parts-nodes.ensures.nodes ∙ ap (λ (d : Draft). d.nodes) draft) (c.into_parts-nodes.ensures.schemas ∙ ap (λ (d : Draft). d.schemas) draft)

pub from_parts-requires-clause-root : goal.from_parts-requires-clause-root
from_parts-requires-clause-root c =
    let q = c.args.query.now in
    let r = c.in_ok-reached.reached in
    let all = whole q c.items-streams.result.now c.items-lets.result.now c.in_ok-draft.draft r c.items-streams.ensures c.items-lets.ensures c.in_ok-draft.ensures c.in_ok-reached.ensures in
    let draft = ap (λ (s : Reached). s.draft) c.reached.view_is in
    rooted q r _ c.reached.inside.at all (c.into_parts-nodes.ensures.nodes ∙ ap (λ (d : Draft). d.nodes) draft) (ap (λ (s : Reached). s.at) c.reached.view_is)
