use Rattle.std.proofs.lemmas.Bool.{leb-true}
use Rattle.edge_history.proofs.Holding.{absorb_if}
use Rattle.edge_history.proofs.side_laws.new_edges_are_retained_under_a_test.Goals as goal

pub returns : goal.returns
returns c = λ test t kept h new a b high no_end fresh k from are_h are_b held.
    absorb_if test t kept h new a b high no_end (λ e l. fresh e (leb-true t e.start l)) held are_h are_b k.real k.paired
    from
