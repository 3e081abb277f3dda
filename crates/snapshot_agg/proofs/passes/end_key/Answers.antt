use Rattle.std.proofs.Common.{sym, ◌∙◌}
use Rattle.snapshot_agg.proofs.Rerunning.{rerun, kept_none, kept_told}
use Rattle.snapshot_agg.proofs.passes.end_key.Goals as goal

pub returns-in-None-clause-run : goal.returns-in-None-clause-run
returns-in-None-clause-run c = rerun c.args.running.now c.args.key.now _ (kept_none _ _ c.in-None.ensures.value)

pub returns-then-is_same-clause-run : goal.returns-then-is_same-clause-run
returns-then-is_same-clause-run c =
    rerun c.args.running.now c.args.key.now _ (kept_told _ c.in-Some.run'.now _ c.in-Some.ensures.value (sym c.is_same.ensures ∙ c.if-is_same.true))
