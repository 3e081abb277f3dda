use Rattle.std.proofs.Common.{◌≡◌, ◌∙◌, ◌<◌, ℕ, Bool, true, false, List, map, length, get_or, sym, ap, arith}
use Rattle.std.proofs.lemmas.Option.{slice_get-get_or}
use Rattle.batch.specs.Rows.{Row}
use Rattle.batch.proofs.Keeping.{no_row}
use Rattle.edge_history.specs.Order.{starts_it}
use Rattle.edge_stream.proofs.Rows.{bit_is}
use Rattle.edge_stream.proofs.Gone.{none_there, none_held}
use Rattle.edge_stream.proofs.starts.start_row.Goals as goal
use Rattle.edge_stream.proofs.starts.start_row.Goals.{else-is_set-via-then-is_set+else-is_start, else-is_set-via-else-is_set}

bit : (rows : List Row) (i : ℕ) (b v : Bool) → i < length rows → b ≡ get_or (map (λ r. r.occupied) rows) i false → b ≡ v → (get_or rows i no_row).occupied ≡ v
bit rows i b v lt read is = sym (bit_is rows i lt) ∙ sym read ∙ is

pub loop-i-preserved : goal.loop-i-preserved
loop-i-preserved c =
    let rows = c.args.batch.now.rows in
    let i = c.loop-i.i in
    let p = starts_it c.args.cells.now c.args.start in
    let lt : i < length rows = omega (arith, c.loop-i-test.true, c.rows-i-end.ensures.rows) in
    let read = c.is_set.ensures ∙ ap (λ o. get_or o.items i false) c.occupancy.ensures in
    elim c.else-is_set.branch [
      | else-is_set-via-then-is_set+else-is_start w ↦
          none_there p rows i lt c.loop-i.invariant (bit rows i c.is_set.result true lt read w.if-is_set.true)
          (sym (w.is_start.ensures (get_or rows i no_row) (slice_get-get_or rows i no_row lt)) ∙ w.if-is_start.false)
      | else-is_set-via-else-is_set w ↦ none_held p rows i lt c.loop-i.invariant (bit rows i c.is_set.result false lt read w.if-is_set.false)
    ]
