use Rattle.std.proofs.Common.{◌∙◌, sym, subst}
use Rattle.std.specs.Prelude.{IfSome, IfNone}
use Rattle.occupancy.specs.Bits.{IsNextSet, IsNoneSet}
use Rattle.edge_stream.proofs.Fronts.{some_left, none_left}
use Rattle.edge_stream.proofs.counted.has_rest.Goals as goal

pub returns-clause-some : goal.returns-clause-some
returns-clause-some c = λ yes none.
    some_left c.next_set.result c.args.batch.now.rows c.args.row (subst (λ o. IfSome c.next_set.result (IsNextSet o.items c.args.row)) c.occupancy.ensures c.next_set.ensures.found)
    (sym c.is_some.ensures ∙ yes) none

pub returns-clause-none : goal.returns-clause-none
returns-clause-none c = λ no.
    none_left c.next_set.result c.args.batch.now.rows c.args.row (subst (λ o. IfNone c.next_set.result (IsNoneSet o.items c.args.row)) c.occupancy.ensures c.next_set.ensures.none)
    (sym c.is_some.ensures ∙ no)
