use Rattle.std.proofs.Common.{◌++◌, ◌∙◌}
use Rattle.plan_model.specs.Meaning.{node_closes}
use Rattle.edge_stream.specs.Listing.{cells_of}
use Rattle.dataflow.proofs.Rules.{rows_defined, rows_kept, rows_kinds}
use Rattle.dataflow.proofs.stage.step_rows.Goals as goal

pub returns-in-Ok-clause-kept : goal.returns-in-Ok-clause-kept
returns-in-Ok-clause-kept c = λ n x y hl hr out t.
    rows_kept c.args.texts.now c.args.left.capacity (cells_of c.args.left) n c.args.stage.now t.ready x y c.args.left_to hl c.args.left.edges out c.in-Ok.answer.edges t.kept t.on_left (c.in-Ok.ensures.made n t.ready)

pub returns-in-Ok-clause-defined : goal.returns-in-Ok-clause-defined
returns-in-Ok-clause-defined c = λ n x y hl hr out distinct t. rows_defined c.args.texts.now c.args.left.capacity (cells_of c.args.left) n c.args.stage.now t.ready (hl ++ c.args.left.edges) (node_closes n c.args.left_to c.args.right_to)

pub returns-in-Ok-clause-kinds : goal.returns-in-Ok-clause-kinds
returns-in-Ok-clause-kinds c = λ n x y ready.
    c.in-Ok.ensures.kinds n ready ∙ rows_kinds c.args.texts.now c.args.left.capacity (cells_of c.args.left) n c.args.stage.now ready (cells_of c.args.left) (cells_of c.args.right)
