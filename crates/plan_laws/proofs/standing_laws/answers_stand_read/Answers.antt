use Rattle.plan_laws.proofs.Standing.{stands_read, stands_where, stands_select}
use Rattle.plan_laws.proofs.standing_laws.answers_stand_read.Goals as goal

pub returns-clause-node : goal.returns-clause-node
returns-clause-node c = stands_read

pub returns-clause-tested : goal.returns-clause-tested
returns-clause-tested c = stands_where

pub returns-clause-selected : goal.returns-clause-selected
returns-clause-selected c = stands_select
