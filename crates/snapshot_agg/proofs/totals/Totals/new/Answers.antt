use Rattle.std.specs.Prelude.{◌+◌, [], ◌∷◌, ◌++◌, take, get_or}
use Rattle.std.proofs.Common.{sym, subst}
use Rattle.std.proofs.lemmas.List.{take_more}
use Rattle.plan_model.specs.declared.agg.Agg.TheVariants.{Count}
use Rattle.snapshot_agg.specs.States.{AreStatesOf}
use Rattle.snapshot_agg.proofs.Kept.{states_push}
use Rattle.snapshot_agg.proofs.totals.Totals.new.Goals as goal

pub loop-agg-preserved : goal.loop-agg-preserved
loop-agg-preserved c =
    let i = c.loop-agg.agg-index in
    let aggs = c.args.aggs.now in
    subst (λ l. AreStatesOf l (take (i + 1) aggs) []) (sym c.in_ok-push.ensures.items)
    (subst (λ l. AreStatesOf (c.loop-agg.states.items ++ c.new.result ∷ []) l []) (sym (take_more aggs i Count c.loop-agg-test.true))
    (states_push c.loop-agg.states.items (take i aggs) c.new.result (get_or aggs i Count) [] c.loop-agg.invariant c.new.ensures))
