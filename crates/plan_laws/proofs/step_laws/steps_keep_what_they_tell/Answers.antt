use Rattle.edge_history.proofs.Telling.{answer_from, answer_below}
use Rattle.edge_history.specs.History.{of}
use Rattle.plan_model.specs.Meaning.{node_closes}
use Rattle.plan_model.specs.Nodes.{node_in}
use Rattle.plan_laws.proofs.Steps.{keeps_more, node_rises}
use Rattle.plan_laws.proofs.step_laws.steps_keep_what_they_tell.Goals as goal

pub returns-clause-kept : goal.returns-clause-kept
returns-clause-kept c = keeps_more

pub returns-clause-later : goal.returns-clause-later
returns-clause-later c = λ ops n x y u v left right more. answer_from (node_closes n x y) (node_closes n u v) more (node_in ops n (of left) (of right))

pub returns-clause-below : goal.returns-clause-below
returns-clause-below c = λ ops n x y u v left right more. answer_below (node_closes n x y) (node_closes n u v) more (node_in ops n (of left) (of right))

pub returns-clause-closings : goal.returns-clause-closings
returns-clause-closings c = node_rises
