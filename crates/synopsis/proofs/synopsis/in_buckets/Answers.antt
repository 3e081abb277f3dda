use Rattle.std.proofs.Common.{◌∙◌, [], ◌∷◌, ap, take, get_or, arith}
use Rattle.std.proofs.lemmas.List.{take_more}
use Rattle.tw_rows.specs.Bag.{total}
use Rattle.tw_rows.specs.declared.edge.HeldRow.{HeldRow}
use Rattle.tw_rows.proofs.Bags.{total-append}
use Rattle.synopsis.specs.Held.{key_of}
use Rattle.synopsis.proofs.synopsis.in_buckets.Goals as goal

pub loop-row-preserved : goal.loop-row-preserved
loop-row-preserved c =
    let rows = c.args.rows.now in
    let i = c.loop-row.row-index in
    let at = c.row-item.result in
    let cells = c.in_ok-copy.copy in
    let row : HeldRow = record { cells = cells; start = at.start } in
    let columns = c.loop-row.key.columns in
    let key = c.values.ensures ∙ (c.write.ensures.values ∙ (ap (key_of columns) c.items.ensures ∙ ap (λ k. key_of k cells) c.loop-row.invariant.columns)) in
    record {
      rows = λ w.
          let a = c.in_ok-put_row.ensures.rows w in
          let b = c.loop-row.invariant.rows w in
          let m = ap (total w) (take_more rows i at c.loop-row-test.true) in
          let t = total-append w (take i rows) (get_or rows i at ∷ []) in
          let e = ap w c.row-item.is in
          let s = ap w (ap (λ l. record at { cells = l }) c.in_ok-copy.ensures.cases) in
          omega (arith, a, b, m, t, e, s);
      keyed = c.in_ok-put_row.ensures.keyed c.args.key.now.columns key c.loop-row.invariant.keyed;
      columns = c.write.ensures.columns ∙ c.loop-row.invariant.columns;
    }
