use Rattle.std.proofs.Common.{◌+◌, ◌∙◌, nat_eq, get_or, ap, sym}
use Rattle.std.specs.List.{list_any}
use Rattle.std.proofs.lemmas.List.{get_or_default, take_rest}
use Rattle.query_plan.specs.Schemas.{has_twice}
use Rattle.query_plan.proofs.ColumnFits.{twice_here, twice_past, left_all}
use Rattle.query_plan.proofs.schemas.key_twice.Goals as goal

pub returns-then-is_in : goal.returns-then-is_in
returns-then-is_in c = twice_here nat_eq c.args.key.now c.loop-i.i (get_or c.args.key.now c.loop-i.i 0) c.loop-i.invariant c.loop-i-test.true (get_or_default c.args.key.now c.loop-i.i 0 _ c.loop-i-test.true) (ap (list_any (nat_eq (get_or c.args.key.now c.loop-i.i 0))) (sym (take_rest c.args.key.now (c.loop-i.i + 1))) ∙ sym c.if-is_in.ensures)

pub loop-i-preserved : goal.loop-i-preserved
loop-i-preserved c = twice_past nat_eq c.args.key.now c.loop-i.i (get_or c.args.key.now c.loop-i.i 0) c.loop-i.invariant c.loop-i-test.true (get_or_default c.args.key.now c.loop-i.i 0 _ c.loop-i-test.true) (ap (list_any (nat_eq (get_or c.args.key.now c.loop-i.i 0))) (sym (take_rest c.args.key.now (c.loop-i.i + 1))) ∙ sym c.if-is_in.ensures)

pub returns : goal.returns
returns c = left_all (has_twice nat_eq) c.args.key.now c.loop-i.i c.loop-i.invariant c.loop-i-test.false
