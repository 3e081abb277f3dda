use Rattle.ingress.proofs.by_rank.rank_of.Goals as goal

pub returns : goal.returns
returns c = c.rank_between.ensures c.args.edge.now.cells
