use Rattle.std.proofs.Common.{◌≡◌, ◌∙◌, ap, take, rules}
use Rattle.snapshot_agg.specs.Totaled.{run_of}
use Rattle.snapshot_agg.proofs.Reloading.{runs_next}
use Rattle.snapshot_agg.proofs.loading.runs_of.Goals as goal

pub loop-start-preserved : goal.loop-start-preserved
loop-start-preserved c =
    let l = c.loop-start in
    let e = c.start-item.result in
    let row : c.in_ok-clone.field-0 ≡ e.cells = search rules in
    runs_next c.args.width c.args.starts.now l.start-index e c.in_ok-key.key c.in_ok-clone.field-0 (run_of l.running) (run_of c.put_run.new.running)
    c.loop-start-test.true c.start-item.is (c.in_ok-key.ensures.ok ∙ c.first_data.ensures ∙ ap (take c.args.width) c.items.ensures) row c.in_ok-put_run.ensures l.invariant
