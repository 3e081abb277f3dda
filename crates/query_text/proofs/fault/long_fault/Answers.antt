use Rattle.std.proofs.Common.{arith}
use Rattle.query_text.proofs.Limits.{long_syntax_at, long_expr_at, behind, no_place}
use Rattle.query_text.proofs.fault.long_fault.Goals as goal
use Rattle.query_text.proofs.fault.long_fault.Goals.{in-Some+else-place-index, in_default}

pub returns-then-place-index : goal.returns-then-place-index
returns-then-place-index c = long_syntax_at c.args.text.now c.args.words.now c.in-Some.place c.args.index _ _ c.requires.words c.requires.long c.requires.within c.in_ok-stopped.ensures c.in-Some.is c.if-place-index.true

pub returns : goal.returns
returns c = long_expr_at c.args.text.now c.args.words.now c.args.index _ _ c.requires.words c.requires.long c.requires.within c.in_ok-stopped.ensures
    (elim c.match-stopped.branch [ in-Some+else-place-index w ↦ behind _ w.in-Some.place c.args.index w.in-Some.is (omega arith) | in_default w ↦ no_place _ c.args.index w.in_default.is ])
