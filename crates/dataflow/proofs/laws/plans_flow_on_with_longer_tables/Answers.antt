use Rattle.dataflow.proofs.Growing.{can_longer, flows_longer}
use Rattle.dataflow.proofs.laws.plans_flow_on_with_longer_tables.Goals as goal

pub returns-clause-can : goal.returns-clause-can
returns-clause-can c = can_longer

pub returns-clause-flows : goal.returns-clause-flows
returns-clause-flows c = λ texts more last given lists d begins flows. flows_longer texts more last d begins given lists flows
