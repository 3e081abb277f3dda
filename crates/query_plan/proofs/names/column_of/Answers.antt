use Rattle.std.proofs.Common.{ap, sym, ◌∙◌, nat_eq}
use lib.Pointwise.{pointwise}
use Rattle.query_plan.proofs.Places.{column_here, column_past, column_end}
use Rattle.query_plan.proofs.names.column_of.Goals as goal

pub returns-then-eq : goal.returns-then-eq
returns-then-eq c = column_here c.loop-i.i _ _ c.index-schema-i.result c.loop-i.invariant c.loop-i-test.true c.index-schema-i.is
    (ap (λ n. pointwise nat_eq n c.args.name.now) (sym c.as_str.ensures) ∙ sym c.if-eq.ensures)

pub loop-i-preserved : goal.loop-i-preserved
loop-i-preserved c = column_past c.loop-i.i _ _ c.index-schema-i.result c.loop-i.invariant c.loop-i-test.true c.index-schema-i.is
    (ap (λ n. pointwise nat_eq n c.args.name.now) (sym c.as_str.ensures) ∙ sym c.if-eq.ensures)

pub returns : goal.returns
returns c = column_end c.loop-i.i _ _ c.loop-i.invariant c.loop-i-test.false
