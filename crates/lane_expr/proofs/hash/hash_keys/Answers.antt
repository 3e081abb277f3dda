use Rattle.std.proofs.Common.{◌≡◌, ◌<◌, ◌∙◌, get_or, set, length, ap, arith}
use Rattle.std.proofs.lemmas.Option.{slice_get-get_or}
use Rattle.batch.specs.Rows.{Row}
use Rattle.lane_expr.specs.Running.{no_row}
use Rattle.lane_expr.specs.Hash.{key_of, hash_of}
use Rattle.lane_expr.proofs.Mapping.{changed-here, length-changed, changed-next}
use Rattle.lane_expr.proofs.hash.hash_keys.Goals as goal

pub loop-row-preserved : goal.loop-row-preserved
loop-row-preserved c =
    let key = c.args.key.now in
    let f = λ (r : Row). record r { key = key_of r.cells key; hash = hash_of r.cells key } in
    let rows = c.args.batch.now.rows in
    let row = c.loop-row.row in
    let now = c.loop-row.batch.rows in
    let within : row < length rows = omega (arith, c.loop-row-test.true, c.rows-row-end.ensures.rows) in
    let long = ap length c.loop-row.invariant.rows ∙ length-changed f row rows in
    let low : row < length now = omega (arith, within, long) in
    let here : get_or now row no_row ≡ get_or rows row no_row = ap (λ rs. get_or rs row no_row) c.loop-row.invariant.rows ∙ changed-here f row rows no_row in
    let marked = c.mark.ensures (get_or now row no_row) (slice_get-get_or now row no_row low) in
    record {
      rows = ap (λ t. t.rows) marked
          ∙ ap (λ k. set now row (record (get_or now row no_row) { key = k; hash = c.hash_at-hash.result })) c.first_word-first.ensures
          ∙ ap (λ h. set now row (record (get_or now row no_row) { key = key_of (get_or now row no_row).cells key; hash = h })) c.hash_at-hash.ensures
          ∙ ap (λ r. set now row (f r)) here
          ∙ ap (λ rs. set rs row (f (get_or rows row no_row))) c.loop-row.invariant.rows
          ∙ changed-next f row rows no_row within;
      capacity = ap (λ t. t.capacity) marked ∙ c.loop-row.invariant.capacity;
      kinds = ap (λ t. t.kinds) marked ∙ c.loop-row.invariant.kinds;
    }
