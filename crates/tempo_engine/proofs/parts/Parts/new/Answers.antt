use Rattle.std.proofs.Common.{◌≤◌, inl, refl, sym, ap, subst, ◌∙◌, arith, rules}
use Rattle.std.proofs.lemmas.List.Elements.{All-nil}
use Rattle.plan_model.specs.IsPlan.{PlanParts, IsPlan}
use Rattle.ingress.specs.Admits.{IsFor}
use Rattle.dataflow.specs.Flows.{CanStep}
use Rattle.tw_rows.specs.Instant.{inf}
use Rattle.lane_expr.specs.Steps.{with_texts}
use Rattle.dataflow.specs.Held.{nodes_in_all}
use Rattle.tempo_engine.proofs.parts.Parts.new.Goals as goal

pub returns-clause-fed : goal.returns-clause-fed
returns-clause-fed c =
    let fixed = (rw c.streams.ensures.streams at c.in_ok-ingress.ensures.fixed) in
    record {
      sound = c.streams.ensures.kept;
      read = tt;
      fine = refl;
      texts = c.in_ok-dataflow.ensures.table ∙ ap (λ t. with_texts t (nodes_in_all c.args.plan.nodes)) c.new-texts.ensures;
      went = record {
        fixed = rw c.in_ok-dataflow.ensures.capacity fixed;
        took = c.in_ok-ingress.ensures.admits c.new-4.new.texts;
        released = c.in_ok-ingress.ensures.released;
        pooled = ap (λ p. p.capacity) c.in_ok-pools.ensures ∙ sym c.in_ok-dataflow.ensures.capacity;
        planned = c.in_ok-dataflow.ensures.plan;
        flows = c.in_ok-dataflow.ensures.flows;
        placed = search rules;
        holds = c.in_ok-egress.ensures.holds c.new-4.new.texts;
        waits = c.in_ok-egress.ensures.placed c.new-4.new.texts;
        able = c.in_ok-egress.ensures.ready;
        kinds = c.in_ok-egress.ensures.kinds ∙ c.deref.ensures.value ∙ c.in_ok-kinds.ensures;
        closed = refl;
        timed = c.event_times_stay.ensures.none;
        instant = inl (omega arith);
        below = refl;
        typed = All-nil _;
      };
    }

pub returns-clause-run : goal.returns-clause-run
returns-clause-run c =
    let fixed = (rw c.streams.ensures.streams at c.in_ok-ingress.ensures.fixed) in
    let none = c.in_ok-ingress.ensures.released in
    let i = c.in_ok-ingress.ingress in
    let d = c.in_ok-dataflow.dataflow in
    record {
      sound = subst IsPlan (sym c.in_ok-dataflow.ensures.plan) c.streams.ensures.kept;
      fixed = subst (λ (q : PlanParts). IsFor q.streams i.policy d.capacity i) (sym c.in_ok-dataflow.ensures.plan)
          (subst (λ k. IsFor c.args.plan.streams i.policy k i) (sym c.in_ok-dataflow.ensures.capacity) (subst (λ r. IsFor c.args.plan.streams r c.args.batch i) (sym fixed.policy) fixed));
      pooled = ap (λ p. p.capacity) c.in_ok-pools.ensures ∙ sym c.in_ok-dataflow.ensures.capacity;
      wide = (let l = ap (λ p. p.limit) c.in_ok-pools.ensures in omega (arith, l));
      can = subst (λ t. CanStep c.new-4.new.texts t c.in_ok-dataflow.dataflow) (sym none) c.in_ok-dataflow.ensures.flows.can;
      low = subst (λ t. t ≤ inf) (sym none) (omega arith);
      waits = c.in_ok-egress.ensures.placed c.new-4.new.texts;
      able = c.in_ok-egress.ensures.ready;
    }
