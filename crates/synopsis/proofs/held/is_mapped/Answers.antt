use Rattle.synopsis.proofs.HeldRows.{empty_map}
use Rattle.synopsis.proofs.held.is_mapped.Goals as goal

pub returns-then-is_empty : goal.returns-then-is_empty
returns-then-is_empty c = λ h. empty_map c.args.starts.now c.args.cells.now (c.is_empty.ensures.0 c.if-is_empty.true)
