use Rattle.std.proofs.Common.{◌∙◌, map, ap}
use Rattle.end_queue.proofs.Putting.{edges_shown}
use Rattle.end_queue.proofs.EndQueue.edges.Goals as goal

pub returns : goal.returns
returns c = c.in_ok-copy.ensures ∙ edges_shown c.self.inside.edges.entries ∙ ap (map (λ p. p.edge)) c.self.view_is
