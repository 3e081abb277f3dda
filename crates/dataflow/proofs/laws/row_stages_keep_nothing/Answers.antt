use Rattle.dataflow.proofs.RowNodes.{rows_keep_nothing}
use Rattle.dataflow.proofs.laws.row_stages_keep_nothing.Goals as goal

pub returns : goal.returns
returns c = rows_keep_nothing
