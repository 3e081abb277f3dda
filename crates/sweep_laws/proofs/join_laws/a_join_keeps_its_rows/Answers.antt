use Rattle.sweep_laws.proofs.Joins.{join_step}
use Rattle.sweep_laws.proofs.join_laws.a_join_keeps_its_rows.Goals as goal

pub returns : goal.returns
returns x meets pair c d hl hr nl nr pl pl1 pl2 dl pr pr1 pr2 dr low high wl wr fl fr = join_step meets pair c d hl hr nl nr pl pl1 pl2 dl pr pr1 pr2 dr low high wl wr fl fr
