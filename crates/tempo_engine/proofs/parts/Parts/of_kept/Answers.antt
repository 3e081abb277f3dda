use Rattle.std.specs.Prelude.{◌≡◌, ℕ, List}
use Rattle.std.proofs.Common.{◌∙◌, ap, sym, subst, arith}
use Rattle.tw_rows.specs.declared.edge.Edge.{Edge}
use Rattle.plan_model.specs.IsPlan.{PlanParts, IsPlan}
use Rattle.plan_model.specs.Meaning.{closes}
use Rattle.plan_laws.proofs.Standing.{placed_longer}
use Rattle.ingress.specs.Admits.{IsFor}
use Rattle.egress.specs.Output.{Holds}
use Rattle.egress.specs.Saving.{EntriesArePlaced, Resumes as ShownResumes, IsSound as IsSoundOutput}
use Rattle.egress.specs.Waiting.{edges_if, waiting_in}
use Rattle.tempo_engine.specs.Kept.{KeptView}
use Rattle.dataflow.specs.Flows.{CanStep}
use Rattle.dataflow.specs.Stages.{reached}
use Rattle.tempo_engine.specs.Output.{result_kinds}
use Rattle.tempo_engine.specs.Frozen.{FitsProgress, IsSoundKept, closed_at}
use Rattle.tempo_engine.proofs.Thawing.{thaw_went}
use Rattle.tempo_engine.proofs.parts.Parts.of_kept.Goals as goal

pub returns-clause-went : goal.returns-clause-went
returns-clause-went c = λ w given lists going fits.
    let plan = c.args.plan in
    let k = c.kept.inside in
    let at : c.time_reached-closed.result ≡ closed_at plan k.last = c.time_reached-closed.ensures ∙ ap (reached k.last) (c.closes.ensures ∙ ap (λ r. closes plan.nodes r k.last) c.root.ensures.root) in
    let i = c.in-Ok.ingress in
    let o = c.in-Ok-egress_of.egress in
    let d = c.in-Ok-dataflow_of.dataflow in
    let admits = (rw c.deref.ensures.value at c.in-Ok.ensures.admits) in
    let admits_all = (rw c.deref-2.ensures.value at admits) in
    let flows = (rw c.deref-3.ensures.value at c.in-Ok-dataflow_of.ensures.flows) in
    let holds = subst (λ z. (texts : List (List ℕ)) (h : List Edge) → ShownResumes (result_kinds plan) k.output z texts h → Holds texts h z z o) at c.in-Ok-egress_of.ensures.holds in
    thaw_went c.args.workers plan c.in-Ok.ensures.whole c.args.policy w going given lists c.args.texts _
    (subst (FitsProgress c.args.workers plan w given lists c.args.texts) (sym c.kept.view_is) fits)
    (record { alloc = c.args.alloc; texts = c.dataflow_of.new.texts; ingress = i; pools = c.in_ok-pools.pools; dataflow = d; egress = o; closed = c.time_reached-closed.result; row = c.new-row.result })
    c.in-Ok-dataflow_of.ensures.begins
    (subst (λ n. IsFor plan.streams c.args.policy n i) (sym c.in-Ok-dataflow_of.ensures.capacity) c.in-Ok.ensures.fixed)
    admits_all c.in-Ok.ensures.released (ap (λ p. p.capacity) c.in_ok-pools.ensures ∙ sym c.in-Ok-dataflow_of.ensures.capacity)
    c.in-Ok-dataflow_of.ensures.plan flows holds c.in-Ok-egress_of.ensures.placed c.in-Ok-egress_of.ensures.ready c.in-Ok-egress_of.ensures.kinds at

pub returns-clause-run : goal.returns-clause-run
returns-clause-run c =
    let i = c.in-Ok.ingress in
    let d = c.in-Ok-dataflow_of.dataflow in
    let fixed = c.in-Ok.ensures.fixed in
    let shown = c.in-Ok-egress_of.ensures.placed c.args.texts (subst (λ (v : KeptView). EntriesArePlaced c.args.texts v.output) (sym c.kept.view_is) c.requires.shown) in
    record {
      sound = subst IsPlan (sym c.in-Ok-dataflow_of.ensures.plan) c.in-Ok.ensures.whole;
      fixed = subst (λ (q : PlanParts). IsFor q.streams i.policy d.capacity i) (sym c.in-Ok-dataflow_of.ensures.plan)
          (subst (λ k. IsFor c.args.plan.streams i.policy k i) (sym c.in-Ok-dataflow_of.ensures.capacity) (subst (λ r. IsFor c.args.plan.streams r c.args.batch i) (sym fixed.policy) fixed));
      pooled = ap (λ p. p.capacity) c.in_ok-pools.ensures ∙ sym c.in-Ok-dataflow_of.ensures.capacity;
      wide = (let l = ap (λ p. p.limit) c.in_ok-pools.ensures in omega (arith, l));
      can = subst (λ t. CanStep c.dataflow_of.new.texts t d) (sym c.in-Ok.ensures.released) c.in-Ok-dataflow_of.ensures.can;
      low = c.in-Ok.ensures.low;
      waits = λ t. placed_longer c.dataflow_of.new.texts c.args.texts c.in-Ok-dataflow_of.ensures.begins (edges_if (waiting_in c.in-Ok-egress_of.egress.waiting t)) (shown t);
      able = c.in-Ok-egress_of.ensures.ready;
    }

pub returns-clause-sound : goal.returns-clause-sound
returns-clause-sound c =
    let plan = c.args.plan in
    let k = c.kept.inside in
    let at : c.time_reached-closed.result ≡ closed_at plan k.last = c.time_reached-closed.ensures ∙ ap (reached k.last) (c.closes.ensures ∙ ap (λ r. closes plan.nodes r k.last) c.root.ensures.root) in
    let input = (rw c.deref.ensures.value at c.in-Ok.ensures.sound) in
    subst (IsSoundKept c.args.workers plan) c.kept.view_is (record {
      input = (rw c.deref-2.ensures.value at input);
      states = (rw c.deref-3.ensures.value at c.in-Ok-dataflow_of.ensures.states);
      output = subst (IsSoundOutput (result_kinds plan) k.output) at c.in-Ok-egress_of.ensures.sound;
    })

pub returns-in-Err-clause-refused : goal.returns-in-Err-clause-refused
returns-in-Err-clause-refused c = λ is sound.
    let here = subst (IsSoundKept c.args.workers c.args.plan) (sym c.kept.view_is) sound in
    let refused = (rw c.deref.ensures.value at c.in-Err.ensures.refused) in
    (rw c.deref-2.ensures.value at refused) is here.input

pub returns-in-Err-egress_of-clause-refused : goal.returns-in-Err-egress_of-clause-refused
returns-in-Err-egress_of-clause-refused c = λ is sound.
    let plan = c.args.plan in
    let k = c.kept.inside in
    let at : c.time_reached-closed.result ≡ closed_at plan k.last = c.time_reached-closed.ensures ∙ ap (reached k.last) (c.closes.ensures ∙ ap (λ r. closes plan.nodes r k.last) c.root.ensures.root) in
    let here = subst (IsSoundKept c.args.workers plan) (sym c.kept.view_is) sound in
    c.in-Err-egress_of.ensures.refused is (subst (IsSoundOutput (result_kinds plan) k.output) (sym at) here.output)

pub returns-in-Err-dataflow_of-clause-refused : goal.returns-in-Err-dataflow_of-clause-refused
returns-in-Err-dataflow_of-clause-refused c = λ is sound.
    let here = subst (IsSoundKept c.args.workers c.args.plan) (sym c.kept.view_is) sound in
    (rw c.deref-3.ensures.value at c.in-Err-dataflow_of.ensures.refused) is here.states
