-- The texts in the table of an engine.
use Rattle.std.specs.Prelude.{ℕ, List, [], fold}
use Rattle.tw_rows.specs.Cells.{with_row}
use Rattle.lane_expr.specs.Steps.{with_texts}
use Rattle.plan_model.specs.IsPlan.{PlanParts}
use Rattle.row_reader.specs.Interned.{row_read}
use Rattle.admission.specs.Entries.{Told}
use Rattle.dataflow.specs.Held.{nodes_in_all}

-- the table once the lines were taken: the texts of the plan's expressions, and then those of the rows of the lines, in order. Of
-- a plan that compares with `a`, and lines of the rows `b`, `a` and `b`: `a` and `b`
abbrev pub texts_of : PlanParts → List Told → List (List ℕ)
texts_of plan lines = fold (λ texts line. with_row texts (row_read line.read)) (with_texts [] (nodes_in_all plan.nodes)) lines
