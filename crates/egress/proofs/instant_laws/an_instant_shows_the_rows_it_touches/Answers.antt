use Rattle.egress.proofs.Touched.{lines_are, open_then}
use Rattle.egress.proofs.instant_laws.an_instant_shows_the_rows_it_touches.Goals as goal

pub returns-clause-lines : goal.returns-clause-lines
returns-clause-lines c = λ rows t ends starts since touched moves opened h. lines_are rows t ends starts moves since opened touched h

pub returns-clause-after : goal.returns-clause-after
returns-clause-after c = λ rows t ends starts since moves opened. open_then rows t ends starts moves since opened
