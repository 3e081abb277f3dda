use Rattle.std.proofs.Common.{rules, tests, nat_eq, get_or}
use Rattle.std.proofs.lemmas.List.{get_or_default}
use Rattle.std.proofs.lemmas.Bool.{ne_eqb}
use Rattle.std.specs.List.{list_any}
use Rattle.query_plan.proofs.ColumnFits.{any_here, any_past, left_all}
use Rattle.query_plan.proofs.schemas.is_in.Goals as goal

pub returns-then-column-other : goal.returns-then-column-other
returns-then-column-other c = any_here (nat_eq c.args.column) c.args.key.now c.loop-other.other-index (get_or c.args.key.now c.loop-other.other-index 0) c.loop-other.invariant c.loop-other-test.true (get_or_default c.args.key.now c.loop-other.other-index 0 _ c.loop-other-test.true) (search (rules, tests))

pub loop-other-preserved : goal.loop-other-preserved
loop-other-preserved c = any_past (nat_eq c.args.column) c.args.key.now c.loop-other.other-index (get_or c.args.key.now c.loop-other.other-index 0) c.loop-other.invariant c.loop-other-test.true (get_or_default c.args.key.now c.loop-other.other-index 0 _ c.loop-other-test.true) (ne_eqb _ _ c.if-column-other.false)

pub returns : goal.returns
returns c = left_all (list_any (nat_eq c.args.column)) c.args.key.now c.loop-other.other-index c.loop-other.invariant c.loop-other-test.false
