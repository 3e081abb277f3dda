use Rattle.std.specs.Prelude.{suc}
use Rattle.plan_model.proofs.Counting.{lines_balance}
use Rattle.plan_model.proofs.changes_laws.lines_count_rows.Goals as goal

pub returns : goal.returns
returns c = λ rows r t. lines_balance rows r (suc t)
