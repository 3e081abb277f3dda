use Rattle.dataflow.proofs.Variants.{held_few}
use Rattle.dataflow.proofs.stage.Stage.held.Goals as goal

pub returns-clause-bounded : goal.returns-clause-bounded
returns-clause-bounded c = held_few c.args.self.now c.entries_kept.result c.entries_kept.ensures (c.stages_keep_at_most.ensures c.args.self.now)
