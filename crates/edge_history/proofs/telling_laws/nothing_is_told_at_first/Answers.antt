use Rattle.std.specs.Prelude.{[]}
use Rattle.std.proofs.Common.{arith}
use Rattle.edge_history.proofs.Telling.{told_nothing}
use Rattle.edge_history.proofs.Standing.{told_stands}
use Rattle.edge_history.proofs.telling_laws.nothing_is_told_at_first.Goals as goal

pub returns-clause-told : goal.returns-clause-told
returns-clause-told c = told_nothing

pub returns-clause-stands : goal.returns-clause-stands
returns-clause-stands c = λ events. told_stands 0 [] events (omega arith) (told_nothing events)
