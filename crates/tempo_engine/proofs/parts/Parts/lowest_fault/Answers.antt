use Rattle.std.proofs.Common.{◌≡◌, ◌≤◌, Some, ◌∙◌, ap, sym, subst}
use Rattle.plan_model.specs.IsPlan.{most_columns}
use Rattle.plan_model.proofs.Kept.{IsPlan-ordered}
use Rattle.plan_laws.specs.Undefined.{overflow}
use Rattle.plan_laws.specs.Standing.{SourcesStandRead}
use Rattle.admission.specs.Admission.{rows}
use Rattle.edge_stream.specs.Lists.{edges_at, longer}
use Rattle.dataflow.specs.Below.{FlowsBelow}
use Rattle.dataflow.specs.Slices.{overflow_under, or_this}
use Rattle.ingress.proofs.Reading.{follows_stand}
use Rattle.tempo_engine.proofs.Giving.{given_are}
use Rattle.tempo_engine.proofs.Punctuating.{begins, ends}
use Rattle.tempo_engine.proofs.parts.Parts.lowest_fault.Goals as goal

pub release-requires-clause-capacity : goal.release-requires-clause-capacity
release-requires-clause-capacity g c =
    let can = c.requires.can c.in-Overflow.node c.in-Overflow.time c.in-Overflow.is in
    can.pooled ∙ sym can.fixed.capacity

pub step_below-requires-clause-failed : goal.step_below-requires-clause-failed
step_below-requires-clause-failed g c κs within = (c.requires.can c.in-Overflow.node c.in-Overflow.time c.in-Overflow.is).failed

pub step_below-requires-clause-node : goal.step_below-requires-clause-node
step_below-requires-clause-node g c κs within = (c.requires.can c.in-Overflow.node c.in-Overflow.time c.in-Overflow.is).low

pub step_below-requires-clause-given : goal.step_below-requires-clause-given
step_below-requires-clause-given g c κs within =
    let e = c.args.self.now in
    given_are e.dataflow.plan e.ingress.policy e.dataflow.capacity e.ingress c.in-Ok.rest.items (c.requires.can c.in-Overflow.node c.in-Overflow.time c.in-Overflow.is).fixed c.in-Ok.ensures.lists

pub step_below-requires-clause-placed : goal.step_below-requires-clause-placed
step_below-requires-clause-placed g c κs within = λ thawed.
    let past = c.requires.lines c.in-Overflow.node c.in-Overflow.time c.in-Overflow.is thawed in
    c.in-Ok.ensures.placed c.args.self.now.texts past.0 past.1.0 past.1.1.1.follows

pub step_below-requires-clause-capacity : goal.step_below-requires-clause-capacity
step_below-requires-clause-capacity g c κs within = c.release.ensures.pools.capacity ∙ (c.requires.can c.in-Overflow.node c.in-Overflow.time c.in-Overflow.is).pooled

pub step_below-requires-clause-limit : goal.step_below-requires-clause-limit
step_below-requires-clause-limit g c κs within = subst (λ m. most_columns ≤ m) (sym c.release.ensures.pools.limit) (c.requires.can c.in-Overflow.node c.in-Overflow.time c.in-Overflow.is).wide

pub step_below-requires-clause-may : goal.step_below-requires-clause-may
step_below-requires-clause-may g c κs within =
    let e = c.args.self.now in
    let can = c.requires.can c.in-Overflow.node c.in-Overflow.time c.in-Overflow.is in
    let later = begins e.ingress.released c.released.result c.args.p c.is_before.result c.is_before.ensures c.if-not-is_before.false c.released.ensures in
    record {
      last = e.ingress.released;
      can = can.can;
      later = later;
      past = λ thawed.
          let past = c.requires.lines c.in-Overflow.node c.in-Overflow.time c.in-Overflow.is thawed in
          let a = past.0 in
          let given = past.1.0 in
          let lists = past.1.1.0 in
          let h = past.1.1.1 in
          let follows = c.in-Ok.ensures.follows e.texts a given h.follows in
          record {
            last = e.ingress.released;
            old = given;
            lists = lists;
            source = rows a;
            distinct = c.each_text_once.ensures;
            flows = h.flows;
            later = later;
            stand = (let l = follows_stand e.texts a (longer given (edges_at c.in-Ok.rest.items)) c.release.new.self follows in rw c.in-Ok.ensures.released at l);
            from = λ s. c.in-Ok.ensures.later e.texts a given h.follows s;
          };
    }

pub returns-in-Ok-step_below-clause-overflow : goal.returns-in-Ok-step_below-clause-overflow
returns-in-Ok-step_below-clause-overflow g c = λ node time lower at e told a given lists h.
    let parts = c.args.self.now in
    let here = c.in-Overflow.is in
    let same : node ≡ c.in-Overflow.node = cc in
    let first : node ≡ lower = cc in
    let second : time ≡ at = cc in
    let can = c.requires.can node time e in
    let later = begins parts.ingress.released c.released.result c.args.p c.is_before.result c.is_before.ensures c.if-not-is_before.false c.released.ensures in
    let follows = c.in-Ok.ensures.follows parts.texts a given h.follows in
    let from : SourcesStandRead parts.texts c.args.p (rows a) (longer given (edges_at c.in-Ok.rest.items)) =
    (let l = follows_stand parts.texts a (longer given (edges_at c.in-Ok.rest.items)) c.release.new.self follows in rw c.in-Ok.ensures.released at l) in
    let late = c.in-Ok.ensures.later parts.texts a given h.follows in
    let flows = subst (λ n. FlowsBelow parts.texts parts.ingress.released n given lists parts.dataflow) same h.flows in
    let none = c.in-Ok-step_below.ensures.none parts.ingress.released given lists (rows a) c.each_text_once.ensures flows later from late in
    let law = c.overflows_stay.ensures (rows a) parts.dataflow.plan.nodes parts.ingress.released c.args.p (record { node = node; time = time }) (IsPlan-ordered parts.dataflow.plan can.sound) c.requires.low.0 c.requires.low.1 h.found in
    law ∙ ap (λ u. Some (or_this (record { node = node; time = time }) u)) (ap (overflow_under (rows a) parts.dataflow.plan.nodes c.args.p) same ∙ none)
    ∙ ap (λ n. Some (record { node = n; time = time })) first ∙ ap (λ t. Some (record { node = lower; time = t })) second

pub returns-in-Err-step_below-clause-overflow : goal.returns-in-Err-step_below-clause-overflow
returns-in-Err-step_below-clause-overflow g c = λ node time lower at e told a given lists h.
    let parts = c.args.self.now in
    let here = c.in-Overflow.is in
    let same : node ≡ c.in-Overflow.node = cc in
    let can = c.requires.can node time e in
    let later = begins parts.ingress.released c.released.result c.args.p c.is_before.result c.is_before.ensures c.if-not-is_before.false c.released.ensures in
    let follows = c.in-Ok.ensures.follows parts.texts a given h.follows in
    let from : SourcesStandRead parts.texts c.args.p (rows a) (longer given (edges_at c.in-Ok.rest.items)) =
    (let l = follows_stand parts.texts a (longer given (edges_at c.in-Ok.rest.items)) c.release.new.self follows in rw c.in-Ok.ensures.released at l) in
    let late = c.in-Ok.ensures.later parts.texts a given h.follows in
    let flows = subst (λ n. FlowsBelow parts.texts parts.ingress.released n given lists parts.dataflow) same h.flows in
    let some = c.in-Err-step_below.ensures.overflow lower at told parts.ingress.released given lists (rows a) c.each_text_once.ensures flows later from late in
    let law = c.overflows_stay.ensures (rows a) parts.dataflow.plan.nodes parts.ingress.released c.args.p (record { node = node; time = time }) (IsPlan-ordered parts.dataflow.plan can.sound) c.requires.low.0 c.requires.low.1 h.found in
    law ∙ ap (λ u. Some (or_this (record { node = node; time = time }) u)) (ap (overflow_under (rows a) parts.dataflow.plan.nodes c.args.p) same ∙ some)

pub returns-then-not-is_before-clause-overflow : goal.returns-then-not-is_before-clause-overflow
returns-then-not-is_before-clause-overflow g c = λ node time lower at e told a given lists h.
    let parts = c.args.self.now in
    let first : node ≡ lower = cc in
    let second : time ≡ at = cc in
    let there = ends parts.ingress.released c.released.result c.args.p c.is_before.result c.is_before.ensures c.if-not-is_before.true c.released.ensures c.requires.low.0 in
    subst (λ x. overflow (rows a) parts.dataflow.plan.nodes x ≡ Some (record { node = node; time = time })) there h.found
    ∙ ap (λ n. Some (record { node = n; time = time })) first ∙ ap (λ t. Some (record { node = lower; time = t })) second
