use Rattle.std.proofs.Common.{◌≡◌, [], cond, nat_lt, Some, None, ◌∙◌, refl, ap, sym, arith}
use Rattle.std.proofs.lemmas.List.{append-nil}
use Rattle.plan_model.specs.Meaning.{closes, events}
use Rattle.admission.specs.Admission.{rows}
use Rattle.tempo_engine.specs.Output.{result_kinds}
use Rattle.tempo_engine.proofs.Punctuating.{ends, begun, further_on, whole_holds, whole_stands, shown, next_worked, next_went, rendered_run}
use Rattle.tempo_engine.proofs.parts.Parts.punctuate.Goals as goal

pub slices-init : goal.slices-init
slices-init g c = record {
  run = c.requires.run;
  low = (let t = c.requires.later.0 in omega (arith, t));
  thawed = refl;
  plan = refl;
  workers = refl;
  texts = refl;
  underway = λ plan policy w given lists due. record {
    more_given = given;
    more_lists = lists;
    on_given = λ k. ([], sym (append-nil (given k)));
    on_lists = λ k. ([], sym (append-nil (lists k)));
    there = begun c.args.p plan policy w given lists c.args.self.now due;
  };
}

pub work_slice-requires-clause-run : goal.work_slice-requires-clause-run
work_slice-requires-clause-run g c κs within = c.slices.invariant.run

pub work_slice-requires-clause-later : goal.work_slice-requires-clause-later
work_slice-requires-clause-later g c κs within = (c.slice_end-end.ensures.later.0, (c.slice_end-end.ensures.later.1, c.requires.later.1))

pub work_slice-requires-clause-lines : goal.work_slice-requires-clause-lines
work_slice-requires-clause-lines g c κs within = λ thawed.
    let past = c.requires.due (sym c.slices.invariant.thawed ∙ thawed) in
    let plan = past.0 in
    let policy = past.1.0 in
    let w = past.1.1.0 in
    let more = c.slices.invariant.underway plan policy w past.1.1.1.0 past.1.1.1.1.0 past.1.1.1.1.1 in
    (plan, (policy, (w, (more.more_given, (more.more_lists, more.there)))))

pub slices-preserved : goal.slices-preserved
slices-preserved g c =
    let before = c.slices.invariant in
    record {
      run = c.in-Ok.ensures.run;
      low = (let e = c.in-Ok.ensures.released in let l = c.slice_end-end.ensures.later.1 in omega (arith, e, l));
      thawed = c.work_slice.ensures.thawed ∙ before.thawed;
      plan = c.work_slice.ensures.plan ∙ before.plan;
      workers = c.work_slice.ensures.workers ∙ before.workers;
      texts = c.work_slice.ensures.texts ∙ before.texts;
      underway = λ plan policy w given lists due.
          further_on given lists _ _ (before.underway plan policy w given lists due) (λ more_given more_lists way. c.in-Ok.ensures.underway plan policy w more_given more_lists way);
    }

pub slices-smaller : goal.slices-smaller
slices-smaller g c =
    (let e = c.in-Ok.ensures.released in let l = c.slice_end-end.ensures.later.1 in let m = c.slice_end-end.ensures.later.0 in omega (arith, e, l, m))

pub returns-in-Err-clause-overflow : goal.returns-in-Err-clause-overflow
returns-in-Err-clause-overflow g c = λ node time is plan policy w given lists due.
    let more = c.slices.invariant.underway plan policy w given lists due in
    c.in-Err.ensures.overflow node time is plan policy w more.more_given more.more_lists more.there

pub returns-in-Ok-render-clause-went : goal.returns-in-Ok-render-clause-went
returns-in-Ok-render-clause-went g c = λ plan policy w given lists due high.
    let e = c.slices.self in
    let p = c.args.p in
    let more = c.slices.invariant.underway plan policy w given lists due in
    let there = ends e.ingress.released c.released.result p c.is_before.result c.is_before.ensures c.slices-test.false c.released.ensures c.slices.invariant.low in
    let at_plan : c.plan-plan.result.now ≡ plan = c.plan-plan.ensures ∙ more.there.planned in
    let at_root : c.root.result ≡ plan.root = c.root.ensures.root ∙ ap (λ q. q.root) at_plan in
    let to_is : c.closes-to.result ≡ closes plan.nodes plan.root p = c.closes-to.ensures ∙ ap (λ q. closes q.nodes c.root.result p) at_plan ∙ ap (λ r. closes plan.nodes r p) at_root in
    let held = whole_holds p plan policy w given lists c.args.self.now due e more.more_given more.more_lists more.there there in
    let rendered = c.in-Ok-render.ensures.holds e.texts (more.more_lists plan.root) e.closed (closes plan.nodes plan.root p) held in
    rw to_is (record {
      more_given = more.more_given;
      more_lists = more.more_lists;
      on_given = more.on_given;
      on_lists = more.on_lists;
      there = next_went p plan policy w given lists c.args.self.now due e more.more_given more.more_lists more.there there high c.slices.invariant.run.pooled c.render.new.self rendered
          (c.render.ensures.placed e.texts c.slices.invariant.run.waits) c.in-Ok-render.ensures.failed c.render.ensures.kinds;
    })

pub returns-in-Ok-render-clause-run : goal.returns-in-Ok-render-clause-run
returns-in-Ok-render-clause-run g c =
    let e = c.slices.self in
    rendered_run e c.slices.invariant.run c.render.new.self c.closes-to.result (c.render.ensures.placed e.texts c.slices.invariant.run.waits) c.in-Ok-render.ensures.failed

pub returns-in-Ok-render-clause-worked : goal.returns-in-Ok-render-clause-worked
returns-in-Ok-render-clause-worked g c = λ plan policy w given lists due.
    let e = c.slices.self in
    let more = c.slices.invariant.underway plan policy w given lists due in
    let there = ends e.ingress.released c.released.result c.args.p c.is_before.result c.is_before.ensures c.slices-test.false c.released.ensures c.slices.invariant.low in
    next_worked c.args.p plan policy w given lists c.args.self.now due e more.more_given more.more_lists more.there there c.render.new.self c.closes-to.result

pub returns-in-Ok-render-clause-shown : goal.returns-in-Ok-render-clause-shown
returns-in-Ok-render-clause-shown g c = λ plan policy w given lists due.
    let e = c.slices.self in
    let p = c.args.p in
    let more = c.slices.invariant.underway plan policy w given lists due in
    let there = ends e.ingress.released c.released.result p c.is_before.result c.is_before.ensures c.slices-test.false c.released.ensures c.slices.invariant.low in
    let at_plan : c.plan-plan.result.now ≡ plan = c.plan-plan.ensures ∙ more.there.planned in
    let at_root : c.root.result ≡ plan.root = c.root.ensures.root ∙ ap (λ q. q.root) at_plan in
    let to_is : c.closes-to.result ≡ closes plan.nodes plan.root p = c.closes-to.ensures ∙ ap (λ q. closes q.nodes c.root.result p) at_plan ∙ ap (λ r. closes plan.nodes r p) at_root in
    let held = whole_holds p plan policy w given lists c.args.self.now due e more.more_given more.more_lists more.there there in
    let stands = whole_stands p plan policy w given lists c.args.self.now due e more.more_given more.more_lists more.there there in
    let bytes = c.in-Ok-render.ensures.text e.texts (more.more_lists plan.root) e.closed (closes plan.nodes plan.root p) (events (rows w.after) plan.nodes plan.root) held stands in
    let kinds : e.egress.rows.kinds.items ≡ result_kinds plan = more.there.kinds in
    let later : c.if_later.result ≡ cond (nat_lt e.closed (closes plan.nodes plan.root p)) (Some (closes plan.nodes plan.root p)) None = (rw to_is at c.if_later.ensures) in
    shown p plan policy w given lists c.args.self.now due e more.more_given more.more_lists more.there there c.in-Ok-render.bytes.items (rw (kinds, later) at bytes)
