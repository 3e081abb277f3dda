use Rattle.std.proofs.Common.{arith, rules, sym, subst}
use Rattle.std.specs.Prelude.{◌∷◌}
use Rattle.plan_model.proofs.Aggregates.{length_same}
use Rattle.snapshot_agg.specs.States.{AreStatesOf}
use Rattle.snapshot_agg.proofs.Lists.{whole_items}
use Rattle.snapshot_agg.proofs.totals.Totals.remove.Goals as goal

pub overflow_sub-self : goal.overflow_sub-self
overflow_sub-self c =
    let r = c.requires in
    let a = r.3.is_count in
    let b = length_same _ _ r.4 in
    omega (arith, a, b)

pub returns-clause-own : goal.returns-clause-own
returns-clause-own c = λ aggs rows rest h same.
    let e = length_same rows (c.args.cells.now ∷ rest) same in
    let a = h.is_count in
    let b = h.few in
    let s : AreStatesOf c.remove_all.new.states aggs rest = c.remove_all.ensures aggs rows rest (subst (λ l. AreStatesOf l aggs rows) (sym c.deref_mut.ensures.value) h.are_states) same in
    record { is_count = omega (arith, a, e); few = omega (arith, b); are_states = search (rules, whole_items) }
