use Rattle.std.proofs.Common.{ap}
use Rattle.ingress.specs.OpenKeys.{starts_in}
use Rattle.ingress.proofs.LoadedAll.{edge_taken}
use Rattle.ingress.proofs.Merged.{ok_maps}
use Rattle.ingress.proofs.held_streams.HeldStreams.take_up_edge.Goals as goal

pub returns-clause-ok : goal.returns-clause-ok
returns-clause-ok c = ok_maps c.put_by_rank.result _ _ (λ added cells last saved l sound.
    let i = c.args.self.now in
    edge_taken cells last saved i.waiting.items c.put_by_rank.new.self.waiting.items (starts_in i.opens.starts) (starts_in c.put_by_rank.new.self.opens.starts) l c.args.entry.now sound
    c.args.stream c.items.result.now c.requires.stream c.items.ensures c.requires.role c.put_by_rank.ensures.changed added (λ k. ap (λ o. starts_in o.starts k) c.put_by_rank.ensures.opens))
    c.put_by_rank.ensures.ok
