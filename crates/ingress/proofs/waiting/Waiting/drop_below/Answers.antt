use Rattle.std.specs.Prelude.{filter, ◌++◌}
use Rattle.std.proofs.Common.{◌∙◌, ap, sym}
use Rattle.std.proofs.lemmas.List.Elements.{filter-append}
use Rattle.edge_history.specs.Order.{is_from}
use Rattle.ingress.proofs.waiting.Waiting.drop_below.Goals as goal

pub returns : goal.returns
returns c =
    (λ i. c.drop_below.ensures.edges i ++ c.drop_below-2.ensures i)
    ∙ sym (filter-append (is_from c.args.t) c.self.inside.queue.edges c.self.inside.others) ∙ ap (filter (is_from c.args.t)) c.self.view_is
