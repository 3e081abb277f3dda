use Rattle.std.specs.Prelude.{◌≡◌, true, false}
use Rattle.std.proofs.Common.{◌∙◌, ap}
use Rattle.edge_history.specs.Order.{failing, is_from}
use Rattle.edge_stream.proofs.Merging.{with_head}
use Rattle.edge_stream.proofs.Joining.{from_first}
use Rattle.edge_stream.proofs.carried.first_sync.Goals as goal

pub returns-clause-first : goal.returns-clause-first
returns-clause-first c =
    let edges = c.args.list.now.edges in
    let read = ap (λ v. v.edges) c.cursor-cursor.ensures.cursor in
    with_head edges (λ none. let wrong : true ≡ false = c.in_ok-sync.ensures.none.1 (read ∙ none) in absurd (cc))
    (λ e rest is. ap (λ t. failing (is_from t) edges) (c.in_ok-sync.ensures.sync e rest (read ∙ is)) ∙ from_first edges e rest c.cursor-cursor.ensures.order is)
