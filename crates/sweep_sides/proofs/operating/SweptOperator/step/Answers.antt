use Rattle.std.proofs.Common.{◌++◌}
use Rattle.tw_rows.specs.Event.{alive}
use Rattle.plan_model.specs.Meaning.{node_closes}
use Rattle.plan_laws.specs.Places.{read_of}
use Rattle.plan_laws.proofs.Undefined.{never_undefined}
use Rattle.sweep_sides.proofs.operating.SweptOperator.step.Goals as goal

pub returns-clause-defined : goal.returns-clause-defined
returns-clause-defined g c = λ texts hl hr out apart k ml.
    let s = c.args.self.now.sweep in
    let n = g.S.Sweep.node s in
    never_undefined n (c.laws.ensures.defined s) (λ t. alive (read_of texts (hl ++ c.args.left.edges)) t) (node_closes n c.args.left_to c.args.right_to)
