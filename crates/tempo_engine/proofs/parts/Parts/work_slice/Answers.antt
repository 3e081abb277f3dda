use Rattle.std.proofs.Common.{◌≡◌, ◌≤◌, [], ℕ, map, Some, ◌∙◌, refl, ap, sym, subst, arith}
use Rattle.std.specs.Prelude.{All, slice_index_or}
use Rattle.tw_rows.specs.Cells.{datum_kind}
use Rattle.tw_rows.specs.Instant.{inf}
use Rattle.tw_rows.specs.Kinds.{cell_kind_of}
use Rattle.edge_stream.specs.Listing.{cells_of}
use Rattle.plan_model.specs.IsPlan.{kinds_at, most_columns}
use Rattle.where_select.proofs.Nodes.{stored_kinds}
use Rattle.plan_laws.specs.Undefined.{overflow}
use Rattle.plan_model.specs.Meaning.{closes}
use Rattle.plan_laws.specs.Standing.{SourcesStandRead}
use Rattle.admission.specs.Admission.{rows}
use Rattle.dataflow.specs.declared.fault.PlanFault.{PlanFault}
use Rattle.dataflow.specs.declared.fault.PlanFault.TheVariants.{Overflow, Memory}
use Rattle.edge_stream.specs.Lists.{edges_at, longer}
use Rattle.tempo_engine.specs.Output.{result_kinds}
use Rattle.ingress.proofs.Reading.{follows_stand}
use Rattle.tempo_engine.proofs.Giving.{given_are}
use Rattle.tempo_engine.proofs.Punctuating.{sliced, sliced_run, further_underway, can_rest, overflowed}
use Rattle.tempo_engine.proofs.parts.Parts.work_slice.Goals as goal

by_fault : (fault : PlanFault) (P : Type 0) → ((node time : ℕ) → fault ≡ Overflow node time → P) → (fault ≡ Memory → P) → P
by_fault (Overflow node time) P some none = some node time refl
by_fault Memory P some none = none refl

pub step-requires-clause-given : goal.step-requires-clause-given
step-requires-clause-given g c κs within =
    let e = c.args.self.now in
    given_are e.dataflow.plan e.ingress.policy e.dataflow.capacity e.ingress c.in-Ok.given.items c.requires.run.fixed c.in-Ok.ensures.lists

pub step-requires-clause-placed : goal.step-requires-clause-placed
step-requires-clause-placed g c κs within = λ thawed.
    let past = c.requires.lines thawed in
    c.in-Ok.ensures.placed c.args.self.now.texts past.1.1.0.after past.1.1.1.0 past.1.1.1.1.1.follows

pub step-requires-clause-capacity : goal.step-requires-clause-capacity
step-requires-clause-capacity g c κs within = c.release.ensures.pools.capacity ∙ c.requires.run.pooled

pub step-requires-clause-limit : goal.step-requires-clause-limit
step-requires-clause-limit g c κs within = subst (λ m. most_columns ≤ m) (sym c.release.ensures.pools.limit) c.requires.run.wide

pub step-requires-clause-may : goal.step-requires-clause-may
step-requires-clause-may g c κs within =
    let e = c.args.self.now in
    λ fine. record {
      last = e.ingress.released;
      can = c.requires.run.can;
      later = c.requires.later.0;
      past = λ thawed.
          let past = c.requires.lines thawed in
          let w = past.1.1.0 in
          let given = past.1.1.1.0 in
          let way = past.1.1.1.1.1 in
          let follows = c.in-Ok.ensures.follows e.texts w.after given way.follows in
          record {
            last = e.ingress.released;
            old = given;
            lists = past.1.1.1.1.0;
            source = rows w.after;
            distinct = c.each_text_once.ensures;
            flows = way.flows;
            later = c.requires.later.0;
            stand = (let l = follows_stand e.texts w.after (longer given (edges_at c.in-Ok.given.items)) c.release.new.self follows in rw c.in-Ok.ensures.released at l);
            from = λ s. c.in-Ok.ensures.later e.texts w.after given way.follows s;
          };
    }

pub take-requires-clause-capacity : goal.take-requires-clause-capacity
take-requires-clause-capacity g c = c.step.ensures.pools ∙ c.release.ensures.pools.capacity ∙ c.requires.run.pooled ∙ sym c.in-Ok-step.ensures.list.rows

pub lowest_fault-requires-clause-can : goal.lowest_fault-requires-clause-can
lowest_fault-requires-clause-can g c κs within = λ node time is.
    let e = c.args.self.now in
    let stops = c.in-Err-step.ensures.stopped c.requires.run.can.fine node time is in
    let kept = c.in-Err-step.ensures.kept in
    can_rest e c.args.end c.release.new.self c.step.new.pools c.step.new.self c.in-Ok.ensures.released c.step.ensures.same.plan c.requires.run c.release.ensures.fixed
    (c.step.ensures.pools ∙ c.release.ensures.pools.capacity) (c.step.ensures.limit ∙ c.release.ensures.pools.limit) c.step.ensures.same.capacity node (λ none. absurd (cc)) stops.low
    (stops.can e.ingress.released c.requires.run.can c.requires.later.0)

pub lowest_fault-requires-clause-lines : goal.lowest_fault-requires-clause-lines
lowest_fault-requires-clause-lines g c κs within = λ node time is thawed.
    let e = c.args.self.now in
    let past = c.requires.lines (sym c.step.ensures.same.thawed ∙ thawed) in
    let w = past.1.1.0 in
    let given = past.1.1.1.0 in
    let lists = past.1.1.1.1.0 in
    let way = past.1.1.1.1.1 in
    let fresh = edges_at c.in-Ok.given.items in
    let follows = c.in-Ok.ensures.follows e.texts w.after given way.follows in
    let from : SourcesStandRead e.texts c.args.end (rows w.after) (longer given fresh) =
    (let l = follows_stand e.texts w.after (longer given fresh) c.release.new.self follows in rw c.in-Ok.ensures.released at l) in
    let late = c.in-Ok.ensures.later e.texts w.after given way.follows in
    let fine = c.requires.run.can.fine in
    let found = c.in-Err-step.ensures.overflow fine node time is e.ingress.released given lists (rows w.after) c.each_text_once.ensures way.flows c.requires.later.0 from late in
    let flow = (c.in-Err-step.ensures.stopped fine node time is).flow e.ingress.released given lists (rows w.after) c.each_text_once.ensures way.flows c.requires.later.0 from late in (
      w.after,
      (
        longer given fresh,
        (longer lists flow.more, overflowed e c.args.end c.release.new.self c.step.new.pools c.step.new.self c.in-Ok.ensures.released c.step.ensures.same.plan w.after (longer given fresh) (longer lists flow.more) follows node time found flow.flows),
      ),
    )

pub lowest_fault-requires-clause-low : goal.lowest_fault-requires-clause-low
lowest_fault-requires-clause-low g c κs within = (let e = c.in-Ok.ensures.released in let l = c.requires.later.1.0 in omega (arith, e, l), c.requires.later.1.1)

pub returns-in-Err-step-clause-overflow : goal.returns-in-Err-step-clause-overflow
returns-in-Err-step-clause-overflow g c = λ lower at told plan policy w given lists way.
    let e = c.args.self.now in
    let fresh = edges_at c.in-Ok.given.items in
    let follows = c.in-Ok.ensures.follows e.texts w.after given way.follows in
    let from : SourcesStandRead e.texts c.args.end (rows w.after) (longer given fresh) =
    (let l = follows_stand e.texts w.after (longer given fresh) c.release.new.self follows in rw c.in-Ok.ensures.released at l) in
    let late = c.in-Ok.ensures.later e.texts w.after given way.follows in
    let fine = c.requires.run.can.fine in
    by_fault c.in-Err-step.fault (overflow (rows w.after) plan.nodes c.args.p ≡ Some (record { node = lower; time = at }))
    (λ node time is.
    let found = c.in-Err-step.ensures.overflow fine node time is e.ingress.released given lists (rows w.after) c.each_text_once.ensures way.flows c.requires.later.0 from late in
    let flow = (c.in-Err-step.ensures.stopped fine node time is).flow e.ingress.released given lists (rows w.after) c.each_text_once.ensures way.flows c.requires.later.0 from late in
    let o = c.lowest_fault.ensures.overflow node time lower at is told w.after (longer given fresh) (longer lists flow.more)
    (overflowed e c.args.end c.release.new.self c.step.new.pools c.step.new.self c.in-Ok.ensures.released c.step.ensures.same.plan w.after (longer given fresh) (longer lists flow.more) follows node time found flow.flows) in
    subst (λ q. overflow (rows w.after) q.nodes c.args.p ≡ Some (record { node = lower; time = at })) (c.step.ensures.same.plan ∙ way.planned) o)
    (λ none. absurd (let r = c.lowest_fault.ensures.memory none in cc))

pub returns-in-Ok-take-clause-run : goal.returns-in-Ok-take-clause-run
returns-in-Ok-take-clause-run g c =
    let e = c.args.self.now in
    sliced_run c.args.end e c.requires.run c.requires.later.0 (let l = c.requires.later.1.0 in let m = c.requires.later.1.1 in omega (arith, l, m)) c.release.new.self c.take.new.pools c.step.new.self c.take.new.self
    c.release.ensures.fixed c.in-Ok.ensures.released (c.take.ensures.capacity ∙ c.step.ensures.pools ∙ c.release.ensures.pools.capacity) (c.take.ensures.limit ∙ c.step.ensures.limit ∙ c.release.ensures.pools.limit)
    c.step.ensures.same.plan c.step.ensures.same.capacity c.in-Ok-step.ensures.can c.in-Ok-take.ensures.placed c.in-Ok-take.ensures.failed

pub returns-in-Ok-take-clause-underway : goal.returns-in-Ok-take-clause-underway
returns-in-Ok-take-clause-underway g c = λ plan policy w given lists way.
    let e = c.args.self.now in
    let fresh = edges_at c.in-Ok.given.items in
    let out = c.in-Ok-step.edges.edges in
    let follows = c.in-Ok.ensures.follows e.texts w.after given way.follows in
    let from : SourcesStandRead e.texts c.args.end (rows w.after) (longer given fresh) =
    (let l = follows_stand e.texts w.after (longer given fresh) c.release.new.self follows in rw c.in-Ok.ensures.released at l) in
    let late = c.in-Ok.ensures.later e.texts w.after given way.follows in
    let within : c.args.end ≤ inf = (let l = c.requires.later.1.0 in let m = c.requires.later.1.1 in omega (arith, l, m)) in
    let flowed = c.in-Ok-step.ensures.flowed e.ingress.released given lists (rows w.after) c.each_text_once.ensures way.flows c.requires.later.0 from late in
    let planned : c.step.new.self.plan ≡ plan = c.step.ensures.same.plan ∙ way.planned in
    let at_plan : c.plan-plan.result.now ≡ plan = c.plan-plan.ensures ∙ planned in
    let at_root : c.root.result ≡ plan.root = c.root.ensures.root ∙ ap (λ q. q.root) at_plan in
    let to_is : c.closes-to.result ≡ closes plan.nodes plan.root c.args.end = c.closes-to.ensures ∙ ap (λ q. closes q.nodes c.root.result c.args.end) at_plan ∙ ap (λ r. closes plan.nodes r c.args.end) at_root in
    let held = sliced plan policy w given lists e way c.args.end c.requires.later.0 within fresh c.step.new.self out planned flowed c.take.new.self (rw to_is at c.in-Ok-take.ensures.holds) in
    let kinds_of_root : cells_of c.in-Ok-step.edges ≡ map cell_kind_of (result_kinds plan) =
    c.in-Ok-step.ensures.list.cells ∙ ap (λ q. kinds_at q.schemas q.root) way.planned ∙ sym (stored_kinds (slice_index_or plan.schemas plan.root [])) in
    let typed : All (λ edge. map datum_kind edge.cells ≡ map cell_kind_of (result_kinds plan)) out = subst (λ ks. All (λ edge. map datum_kind edge.cells ≡ ks) out) kinds_of_root c.cells_are_of_kinds.ensures in
    further_underway plan policy w given lists e way c.args.end c.requires.later.0 within fresh c.step.new.self out planned flowed c.release.new.self c.take.new.pools c.take.new.self
    c.release.ensures.fixed follows c.in-Ok.ensures.released c.step.ensures.same.capacity held c.take.ensures.kinds typed
