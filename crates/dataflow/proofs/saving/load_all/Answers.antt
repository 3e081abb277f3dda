-- Answers to the goals of saving::load_all.
use Rattle.std.specs.Prelude.{map}
use Rattle.std.proofs.Common.{◌≡◌, length, ap, subst, arith, ◌∙◌}
use Rattle.std.proofs.lemmas.List.{length-set, length-map}
use Rattle.dataflow.specs.Stages.{reached}
use Rattle.dataflow.proofs.Running.{next_runs}
use Rattle.dataflow.proofs.Reloading.{lists, LoadsTo, loads_step, refuses_step, loads_all, mapped_at}
use Rattle.dataflow.proofs.saving.load_all.Goals as goal

pub returns-in-Err-clause-refused : goal.returns-in-Err-clause-refused
returns-in-Err-clause-refused c = λ is_not.
    let before = c.loop-i.invariant in
    let test = c.loop-i-test.true in
    let count = ap length c.nodes-i-end.ensures.nodes in
    let stages = c.requires.count in
    let many = c.requires.many in
    let long = length-map c.args.saved.now lists in
    refuses_step c.args.plan.now c.args.last c.loop-i.i c.args.stages.now.items c.loop-i.stages.items (map lists c.args.saved.now) c.index_mut.result.now c.deref.result.now c.time_reached-left_to.result c.time_reached-right_to.result
    (omega (arith, test, count)) (omega (arith, test, count, stages)) (omega (arith, test, count, many, long)) before.loads c.index_mut.ensures.value
    (mapped_at lists c.args.saved.now c.loop-i.i c.index-saved-i.result c.deref.result.now (omega (arith, test, count, many)) c.index-saved-i.is c.deref.ensures.value)
    (λ n there. c.time_reached-left_to.ensures ∙ ap (reached c.args.last) (c.left_closing.ensures n there)) (λ n there. c.time_reached-right_to.ensures ∙ ap (reached c.args.last) (c.right_closing.ensures c.args.last n c.closings_at-closings.ensures there))
    (c.in-Err.ensures.refused is_not)

pub returns-in-Err-clause-runs : goal.returns-in-Err-clause-runs
returns-in-Err-clause-runs c = λ workers run.
    let before = c.loop-i.invariant in
    let test = c.loop-i-test.true in
    let count = ap length c.nodes-i-end.ensures.nodes in
    let stages = c.requires.count in
    let all = before.count in
    next_runs workers c.args.plan.now.nodes c.loop-i.stages.items c.loop-i.i c.index_mut.result.now c.load.new.self (omega (arith, test, count, stages, all)) c.index_mut.ensures.value (c.load.ensures.runs workers) (before.runs workers run)

pub loop-i-preserved : goal.loop-i-preserved
loop-i-preserved c =
    let before = c.loop-i.invariant in
    let test = c.loop-i-test.true in
    let count = ap length c.nodes-i-end.ensures.nodes in
    let stages = c.requires.count in
    let many = c.requires.many in
    let all = before.count in
    let long = length-map c.args.saved.now lists in
    record {
      count = length-set c.loop-i.stages.items c.loop-i.i c.load.new.self ∙ before.count;
      loads = loads_step c.args.plan.now c.args.last c.loop-i.i c.args.stages.now.items c.loop-i.stages.items (map lists c.args.saved.now) c.index_mut.result.now c.load.new.self c.deref.result.now c.time_reached-left_to.result c.time_reached-right_to.result
          (omega (arith, test, count, stages, all)) (omega (arith, test, count, many, long)) before.loads c.index_mut.ensures.value
          (mapped_at lists c.args.saved.now c.loop-i.i c.index-saved-i.result c.deref.result.now (omega (arith, test, count, many)) c.index-saved-i.is c.deref.ensures.value)
          (λ n there. c.time_reached-left_to.ensures ∙ ap (reached c.args.last) (c.left_closing.ensures n there)) (λ n there. c.time_reached-right_to.ensures ∙ ap (reached c.args.last) (c.right_closing.ensures c.args.last n c.closings_at-closings.ensures there))
          c.in-Ok.ensures.loads;
      runs = λ workers run. next_runs workers c.args.plan.now.nodes c.loop-i.stages.items c.loop-i.i c.index_mut.result.now c.load.new.self (omega (arith, test, count, stages, all)) c.index_mut.ensures.value (c.load.ensures.runs workers) (before.runs workers run);
    }

pub returns-clause-loads : goal.returns-clause-loads
returns-clause-loads c =
    let before = c.loop-i.invariant in
    let test = c.loop-i-test.false in
    let bound = c.loop-i.auto.i-end in
    let count = ap length c.nodes-i-end.ensures.nodes in
    let end : c.loop-i.i ≡ length c.args.plan.now.nodes = omega (arith, test, bound, count) in
    loads_all c.args.plan.now c.args.last c.args.stages.now.items c.loop-i.stages.items (map lists c.args.saved.now) before.count c.requires.count (length-map c.args.saved.now lists ∙ c.requires.many)
    (subst (λ k. LoadsTo c.args.plan.now c.args.last k c.args.stages.now.items c.loop-i.stages.items (map lists c.args.saved.now)) end before.loads)
