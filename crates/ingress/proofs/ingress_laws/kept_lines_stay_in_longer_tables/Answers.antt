use Rattle.ingress.proofs.Reading.{follows_longer, admits_longer}
use Rattle.ingress.proofs.ingress_laws.kept_lines_stay_in_longer_tables.Goals as goal

pub returns-clause-follows : goal.returns-clause-follows
returns-clause-follows c = λ texts more a given i b f. follows_longer more texts a given i b f

pub returns-clause-admits : goal.returns-clause-admits
returns-clause-admits c = λ texts more a given i b f. admits_longer more texts a given i b f
