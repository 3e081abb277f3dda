use Rattle.std.proofs.Common.{◌<◌, ◌≤◌, ◌∙◌, ◌++◌, ◌∷◌, [], ◌+◌, List, drop, length, ap, sym, get_or, arith}
use Rattle.std.proofs.lemmas.List.{length-append}
use Rattle.std.proofs.lemmas.Option.{slice_get-get_or}
use Rattle.batch.specs.Rows.{Row, kept, occupied_rows}
use Rattle.batch.proofs.Keeping.{no_row, kept_within, kept_bit, kept_row}
use Rattle.batch.proofs.Tables.{told_set, told_clear, told_room, told_all, length-kept}
use Rattle.batch.proofs.Views.{table_is}
use Rattle.batch.proofs.batch.Batch.copy_kept.Goals.{then-is_kept, else-is_kept}
use Rattle.batch.proofs.batch.Batch.copy_kept.Goals as goal

pub copy_row-requires-clause-room : goal.copy_row-requires-clause-room
copy_row-requires-clause-room c =
    let rows : List Row = c.args.self.now.rows in
    let bits = c.args.mask.now.items in
    let within : c.loop-i.i < length rows = omega (arith, c.loop-i-test.true, c.rows-i-end.ensures.rows) in
    let bit = kept_bit rows bits c.loop-i.i no_row within c.requires.mask c.is_kept.result c.is_kept.ensures ∙ c.if-is_kept.true in
    let long = length-append c.args.to.now.rows (occupied_rows (kept rows bits)) in
    told_room (kept rows bits) c.loop-i.i no_row (kept_within rows bits c.loop-i.i no_row within c.requires.mask) c.loop-i.to.rows (c.args.to.now.rows ++ occupied_rows (kept rows bits)) c.loop-i.invariant.told c.loop-i.to.capacity bit (omega (arith, long, c.requires.room, c.loop-i.invariant.room))

pub loop-i-preserved : goal.loop-i-preserved
loop-i-preserved c =
    let rows : List Row = c.args.self.now.rows in
    let bits = c.args.mask.now.items in
    let total = c.args.to.now.rows ++ occupied_rows (kept rows bits) in
    let within : c.loop-i.i < length rows = omega (arith, c.loop-i-test.true, c.rows-i-end.ensures.rows) in
    let inside = kept_within rows bits c.loop-i.i no_row within c.requires.mask in
    let bit = kept_bit rows bits c.loop-i.i no_row within c.requires.mask c.is_kept.result c.is_kept.ensures in
    elim c.if-is_kept.branch [
      | then-is_kept w ↦
          let copied = w.to-is ∙ w.copy_row.ensures (get_or rows c.loop-i.i no_row) (slice_get-get_or rows c.loop-i.i no_row within) in
          let set = bit ∙ w.if-is_kept.true in
          let same = kept_row rows bits c.loop-i.i no_row within c.requires.mask set in
          record {
            told = told_set (kept rows bits) c.loop-i.i no_row inside c.loop-i.to.rows total c.loop-i.invariant.told c.if-is_kept.to.rows set (ap (λ t. t.rows) copied ∙ ap (λ r. c.loop-i.to.rows ++ r ∷ []) (sym same));
            kinds = ap (λ t. t.kinds) copied ∙ c.loop-i.invariant.kinds;
            room = ap (λ t. t.capacity) copied ∙ c.loop-i.invariant.room;
          }
      | else-is_kept w ↦
          record {
            told = ap (λ t. t.rows ++ occupied_rows (drop (c.loop-i.i + 1) (kept rows bits))) w.to-is ∙ told_clear (kept rows bits) c.loop-i.i no_row inside c.loop-i.to.rows total c.loop-i.invariant.told (bit ∙ w.if-is_kept.false);
            kinds = ap (λ t. t.kinds) w.to-is ∙ c.loop-i.invariant.kinds;
            room = ap (λ t. t.capacity) w.to-is ∙ c.loop-i.invariant.room;
          }
    ]

pub returns : goal.returns
returns c =
    let rows : List Row = c.args.self.now.rows in
    let bits = c.args.mask.now.items in
    let total = c.args.to.now.rows ++ occupied_rows (kept rows bits) in
    let past : length (kept rows bits) ≤ c.loop-i.i = omega (arith, c.loop-i-test.false, c.rows-i-end.ensures.rows, length-kept rows bits c.requires.mask) in
    table_is _ _ _ _ (told_all (kept rows bits) c.loop-i.to.rows total c.loop-i.i past c.loop-i.invariant.told) c.loop-i.invariant.room c.loop-i.invariant.kinds
