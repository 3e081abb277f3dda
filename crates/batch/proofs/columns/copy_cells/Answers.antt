use Rattle.std.proofs.Common.{◌≡◌, ◌∙◌, refl, ap, sym, map, length, get_or, arith}
use Rattle.std.proofs.lemmas.List.{length-map}
use Rattle.tw_rows.specs.Cells.{datum_kind}
use Rattle.batch.specs.Payloads.{payload_kind, payload_push, cells_at}
use Rattle.batch.proofs.Pushing.{pushed_first-kind, pushed_first-room, pushed_first-next, pushed_first-all, kinds-cells_at, get_or-cells_at}
use Rattle.batch.proofs.columns.copy_cells.Goals as goal

pub push-requires-clause-kind : goal.push-requires-clause-kind
push-requires-clause-kind c =
    let kinds : map datum_kind (cells_at c.args.from.now c.args.i) ≡ map payload_kind c.args.columns.now = kinds-cells_at c.args.from.now c.args.i c.requires.place ∙ c.requires.kinds in
    let as_many : length c.args.from.now ≡ length c.args.columns.now = sym (length-map c.args.from.now payload_kind) ∙ ap length c.requires.kinds ∙ length-map c.args.columns.now payload_kind in
    let cell = get_or-cells_at c.args.from.now c.loop-c.c c.args.i c.index-from-c.result c.index-from-c.result c.datum-datum.result c.datum-datum.result (omega (arith, as_many, c.loop-c-test.true)) c.index-from-c.is c.datum-datum.ensures.datum in
    ap datum_kind (sym cell) ∙ pushed_first-kind c.loop-c.c _ _ (cells_at c.args.from.now c.args.i) c.loop-c.invariant c.loop-c-test.true kinds c.index-columns-c.result c.datum-datum.result

pub push-requires-clause-room : goal.push-requires-clause-room
push-requires-clause-room c =
    let kinds : map datum_kind (cells_at c.args.from.now c.args.i) ≡ map payload_kind c.args.columns.now = kinds-cells_at c.args.from.now c.args.i c.requires.place ∙ c.requires.kinds in
    pushed_first-room c.loop-c.c _ _ (cells_at c.args.from.now c.args.i) c.loop-c.invariant c.loop-c-test.true kinds c.index-columns-c.result c.requires.room

pub loop-c-preserved : goal.loop-c-preserved
loop-c-preserved c =
    let kinds : map datum_kind (cells_at c.args.from.now c.args.i) ≡ map payload_kind c.args.columns.now = kinds-cells_at c.args.from.now c.args.i c.requires.place ∙ c.requires.kinds in
    let as_many : length c.args.from.now ≡ length c.args.columns.now = sym (length-map c.args.from.now payload_kind) ∙ ap length c.requires.kinds ∙ length-map c.args.columns.now payload_kind in
    let cell = get_or-cells_at c.args.from.now c.loop-c.c c.args.i c.index-from-c.result c.index-from-c.result c.datum-datum.result c.datum-datum.result (omega (arith, as_many, c.loop-c-test.true)) c.index-from-c.is c.datum-datum.ensures.datum in
    pushed_first-next c.loop-c.c _ _ (cells_at c.args.from.now c.args.i) c.loop-c.invariant c.loop-c-test.true kinds _ _ c.index-columns-c.result c.datum-datum.result
    (c.push.ensures ∙ ap (λ d. payload_push (get_or c.loop-c.columns c.loop-c.c c.index-columns-c.result) d) (sym cell)) refl

pub returns : goal.returns
returns c = c.loop-c.invariant ∙ pushed_first-all c.loop-c.c c.args.columns.now (cells_at c.args.from.now c.args.i) (omega (arith, c.loop-c-test.false))
