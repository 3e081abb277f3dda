use Rattle.snapshot_agg.proofs.waiting.pop_before.Goals as goal

pub returns-clause-below : goal.returns-clause-below
returns-clause-below c = λ h. c.in_ok-pop_all.ensures.below c.args.to c.up_to-below.ensures h
