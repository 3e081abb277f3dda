-- The fault of a node, as one of its plan, and its text.
use Rattle.std.specs.Prelude.{ℕ, List, ◌++◌, codes, decimal}
use Rattle.edge_stream.specs.declared.saved.StepFault.{StepFault}
use Rattle.edge_stream.specs.declared.saved.StepFault.TheVariants as steps
use Rattle.dataflow.specs.declared.fault.PlanFault.{PlanFault}
use Rattle.dataflow.specs.declared.fault.PlanFault.TheVariants as faults

-- an overflow of a step is one of its node. Of the node 3, an overflow at 7: of the node 3 at 7
abbrev pub fault_at : ℕ → StepFault → PlanFault
fault_at node (steps.Overflow time) = faults.Overflow node time
fault_at node steps.Memory = faults.Memory

-- the text of a fault: `a total of node 3 passed its limits at 7`
abbrev pub fault_text : PlanFault → List ℕ
fault_text (faults.Overflow node time) = codes "a total of node " ++ (decimal node ++ (codes " passed its limits at " ++ decimal time))
fault_text faults.Memory = codes "no memory"
