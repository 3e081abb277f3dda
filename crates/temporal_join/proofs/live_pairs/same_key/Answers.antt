use Rattle.std.proofs.Common.{◌∙◌, ◌<◌, length, sym, arith}
use Rattle.std.proofs.lemmas.List.{length-map, get_or-map}
use Rattle.tw_rows.specs.declared.edge.HeldRow.{HeldRow}
use Rattle.synopsis.specs.Held.{cell_or_zero, key_of}
use Rattle.synopsis.proofs.Together.{lengths_differ, columns_differ, column_more, all_columns}
use Rattle.temporal_join.proofs.live_pairs.same_key.Goals as goal

pub returns-then-columns-own : goal.returns-then-columns-own
returns-then-columns-own c = λ start.
    let row : HeldRow = record { cells = c.args.row.now; start = start } in
    let long = length-map c.args.own.now (cell_or_zero c.args.cells.now) in
    let n = c.if-columns-own.true in
    sym (lengths_differ c.args.columns.now (key_of c.args.own.now c.args.cells.now) row (λ e. n (e ∙ long)))

pub returns-then-not-same_datum : goal.returns-then-not-same_datum
returns-then-not-same_datum c = λ start.
    let row : HeldRow = record { cells = c.args.row.now; start = start } in
    let i = c.loop-i.i in
    let columns = c.args.columns.now in
    let own = c.args.own.now in
    let same = c.if-columns-own.false in
    let low : i < length own = omega (arith, same, c.loop-i-test.true) in
    let at = get_or-map (cell_or_zero c.args.cells.now) own i 0 (cell_or_zero c.args.cells.now 0) low in
    sym (columns_differ columns (key_of own c.args.cells.now) row i 0 (cell_or_zero c.args.cells.now 0) c.loop-i-test.true
    (λ e. let t = c.same_datum.ensures.1 (c.cell_at.ensures ∙ (e ∙ (at ∙ sym c.cell_at-in-loop-i.ensures))) in absurd (cc)))

pub loop-i-preserved : goal.loop-i-preserved
loop-i-preserved c =
    let i = c.loop-i.i in
    let columns = c.args.columns.now in
    let own = c.args.own.now in
    let same = c.if-columns-own.false in
    let long = length-map own (cell_or_zero c.args.cells.now) in
    let low : i < length own = omega (arith, same, c.loop-i-test.true) in
    let at = get_or-map (cell_or_zero c.args.cells.now) own i 0 (cell_or_zero c.args.cells.now 0) low in
    column_more columns (key_of own c.args.cells.now) c.args.row.now i 0 (cell_or_zero c.args.cells.now 0) c.loop-i-test.true (omega (arith, long, low)) c.loop-i.invariant
    (sym c.cell_at.ensures ∙ (c.same_datum.ensures.0 c.if-not-same_datum.false ∙ (c.cell_at-in-loop-i.ensures ∙ sym at)))

pub returns : goal.returns
returns c = λ start.
    let row : HeldRow = record { cells = c.args.row.now; start = start } in
    let long = length-map c.args.own.now (cell_or_zero c.args.cells.now) in
    sym (all_columns c.args.columns.now (key_of c.args.own.now c.args.cells.now) row c.loop-i.i (c.if-columns-own.false ∙ sym long) (omega (arith, c.loop-i-test.false, c.loop-i.auto.i-end)) c.loop-i.invariant)
