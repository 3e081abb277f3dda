use Rattle.std.proofs.Common.{get_or, arith}
use Rattle.std.proofs.lemmas.List.{get_or_default}
use Rattle.tw_rows.specs.declared.kind.Kind.TheVariants as K
use Rattle.query_plan.proofs.ColumnFits.{kinds_differ, kinds_none, kind_here, kind_past, kinds_all}
use Rattle.query_plan.proofs.schemas.are_of_kinds.Goals as goal

pub loop-i-init : goal.loop-i-init
loop-i-init c = kinds_none _ _ c.if-columns-wanted.false

pub returns-then-not-same_kind : goal.returns-then-not-same_kind
returns-then-not-same_kind c = kind_here c.args.columns.now c.args.wanted.now c.loop-i.i c.index-columns-i.result (get_or c.args.wanted.now c.loop-i.i K.Int) c.loop-i.invariant c.loop-i-test.true c.index-columns-i.is (get_or_default c.args.wanted.now c.loop-i.i K.Int _ (let e = c.loop-i.invariant.even in let low = c.loop-i-test.true in omega (arith, e, low))) c.if-not-same_kind.ensures

pub loop-i-preserved : goal.loop-i-preserved
loop-i-preserved c = kind_past c.args.columns.now c.args.wanted.now c.loop-i.i c.index-columns-i.result (get_or c.args.wanted.now c.loop-i.i K.Int) c.loop-i.invariant c.loop-i-test.true c.index-columns-i.is (get_or_default c.args.wanted.now c.loop-i.i K.Int _ (let e = c.loop-i.invariant.even in let low = c.loop-i-test.true in omega (arith, e, low))) c.if-not-same_kind.ensures

pub returns : goal.returns
returns c = kinds_all c.args.columns.now c.args.wanted.now c.loop-i.i c.loop-i.invariant c.loop-i-test.false
