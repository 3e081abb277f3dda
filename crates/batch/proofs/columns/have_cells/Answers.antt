use Rattle.std.proofs.Common.{refl, ◌≡◌, ◌<◌, ◌∙◌, length, get_or, arith, pos}
use Rattle.std.proofs.lemmas.List.{take_more_same, length-map, get_or_default}
use Rattle.tw_rows.specs.declared.cells.Datum.TheVariants.{Int}
use Rattle.batch.specs.Payloads.{payload_data, cells_at}
use Rattle.batch.proofs.Pushing.{get_or-cells_at}
use Rattle.batch.proofs.columns.have_cells.Goals as goal

pub loop-c-preserved : goal.loop-c-preserved
loop-c-preserved c =
    let columns = c.args.columns.now in
    let d = c.datum.result in
    let long : length (cells_at columns c.args.i) ≡ length columns = length-map columns (λ p. get_or (payload_data p) c.args.i (Int (pos 0))) in
    let within : c.loop-c.c < length columns = (let e = c.if-columns-cells.false in let t = c.loop-c-test.true in omega (arith, e, t)) in
    let here : get_or (cells_at columns c.args.i) c.loop-c.c d ≡ d = get_or-cells_at columns c.loop-c.c c.args.i c.index-columns-c.result c.index-columns-c.result d d within c.index-columns-c.is c.datum.ensures.datum in
    take_more_same (cells_at columns c.args.i) c.args.cells.now c.loop-c.c d (omega (arith, within, long)) c.loop-c-test.true c.loop-c.invariant (here ∙ c.if-not-same_datum.ensures.0 refl ∙ get_or_default c.args.cells.now c.loop-c.c (Int (pos 0)) d c.loop-c-test.true)
