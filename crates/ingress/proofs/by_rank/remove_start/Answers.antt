use Rattle.std.specs.Prelude.{◌≡◌, ◌<◌, length, get_or, true}
use Rattle.std.proofs.Common.{subst}
use Rattle.tw_rows.specs.declared.edge.Edge.{Edge}
use Rattle.edge_history.specs.Order.{starts_it}
use Rattle.ingress.proofs.Starts.{start_removed}
use Rattle.ingress.proofs.by_rank.remove_start.Goals as goal

pub returns-in-Some-clause-taken : goal.returns-in-Some-clause-taken
returns-in-Some-clause-taken c = λ _. start_removed c.args.cells.now c.args.start c.args.edges.now.items c.remove.new.self.items c.in-Some.place
    (subst (λ l. c.in-Some.place < length l) c.deref.ensures.value c.in-Some.ensures.within)
    (subst (λ l. (d : Edge) → starts_it c.args.cells.now c.args.start (get_or l c.in-Some.place d) ≡ true) c.deref.ensures.value c.in-Some.ensures.some)
    c.remove.ensures.items
