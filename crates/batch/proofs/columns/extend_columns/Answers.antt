use Rattle.std.proofs.Common.{◌∙◌, ap, refl, get_or, arith}
use Rattle.batch.specs.Payloads.{payload_kind, payload_extend}
use Rattle.batch.proofs.Bulk.{extended_first-kind, extended_first-room, extended_first-next, extended_first-all}
use Rattle.batch.proofs.columns.extend_columns.Goals as goal

pub extend_first-requires-clause-kind : goal.extend_first-requires-clause-kind
extend_first-requires-clause-kind c =
    ap payload_kind c.index-from-c.is
    ∙ extended_first-kind c.args.count c.loop-c.c c.args.columns.now c.loop-c.columns c.args.from.now c.loop-c.invariant c.loop-c-test.true c.requires.kinds c.index-columns-c.result c.index-from-c.result

pub extend_first-requires-clause-room : goal.extend_first-requires-clause-room
extend_first-requires-clause-room c =
    extended_first-room c.args.count c.loop-c.c c.args.columns.now c.loop-c.columns c.args.from.now c.loop-c.invariant c.loop-c-test.true c.requires.kinds c.index-columns-c.result c.requires.room

pub loop-c-preserved : goal.loop-c-preserved
loop-c-preserved c =
    extended_first-next c.args.count c.loop-c.c c.args.columns.now c.loop-c.columns c.args.from.now c.loop-c.invariant c.loop-c-test.true c.requires.kinds
    _ _ c.index-columns-c.result c.index-from-c.result
    (c.extend_first.ensures ∙ ap (λ q. payload_extend c.args.count (get_or c.loop-c.columns c.loop-c.c c.index-columns-c.result) q) c.index-from-c.is) refl

pub returns : goal.returns
returns c = c.loop-c.invariant ∙ extended_first-all c.args.count c.loop-c.c c.args.columns.now c.args.from.now (omega (arith, c.loop-c-test.false))
