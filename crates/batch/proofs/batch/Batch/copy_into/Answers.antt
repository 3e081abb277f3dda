use Rattle.std.proofs.Common.{◌<◌, ◌∙◌, ◌++◌, ◌+◌, drop, length, ap, sym, get_or, arith}
use Rattle.std.proofs.lemmas.List.{length-append}
use Rattle.std.proofs.lemmas.Option.{slice_get-get_or}
use Rattle.batch.specs.Rows.{Row, occupied_rows}
use Rattle.batch.specs.Columns.{row_at}
use Rattle.batch.proofs.Tables.{told_set, told_clear, told_room}
use Rattle.batch.proofs.Views.{columns_of, occupied_place, row_bit}
use Rattle.batch.proofs.batch.Batch.copy_into.Goals.{then-is_set, else-is_set}
use Rattle.batch.proofs.batch.Batch.copy_into.Goals as goal

pub is_set-requires : goal.is_set-requires
is_set-requires c = occupied_place c.self.inside c.args.self.now c.self.view_is c.self.invariant c.loop-i.i (omega (arith, c.loop-i-test.true, c.rows-i-end.ensures.rows))

pub copy_row-requires-clause-room : goal.copy_row-requires-clause-room
copy_row-requires-clause-room c =
    let none : Row = row_at (columns_of c.self.inside) 0 in
    let within : c.loop-i.i < length c.args.self.now.rows = omega (arith, c.loop-i-test.true, c.rows-i-end.ensures.rows) in
    let bit = row_bit c.self.inside c.args.self.now c.self.view_is c.self.invariant c.loop-i.i none within ∙ sym c.is_set.ensures ∙ c.if-is_set.true in
    let long = length-append c.args.to.now.rows (occupied_rows c.args.self.now.rows) in
    told_room c.args.self.now.rows c.loop-i.i none within c.loop-i.to.rows (c.args.to.now.rows ++ occupied_rows c.args.self.now.rows) c.loop-i.invariant.told c.loop-i.to.capacity bit (omega (arith, long, c.requires.room, c.loop-i.invariant.room))

pub loop-i-preserved : goal.loop-i-preserved
loop-i-preserved c =
    let none : Row = row_at (columns_of c.self.inside) 0 in
    let within : c.loop-i.i < length c.args.self.now.rows = omega (arith, c.loop-i-test.true, c.rows-i-end.ensures.rows) in
    let bit = row_bit c.self.inside c.args.self.now c.self.view_is c.self.invariant c.loop-i.i none within ∙ sym c.is_set.ensures in
    elim c.if-is_set.branch [
      | then-is_set w ↦
          let copied = w.to-is ∙ w.copy_row.ensures (get_or c.args.self.now.rows c.loop-i.i none) (slice_get-get_or c.args.self.now.rows c.loop-i.i none within) in
          record {
            told = told_set c.args.self.now.rows c.loop-i.i none within c.loop-i.to.rows (c.args.to.now.rows ++ occupied_rows c.args.self.now.rows) c.loop-i.invariant.told c.if-is_set.to.rows (bit ∙ w.if-is_set.true) (ap (λ t. t.rows) copied);
            kinds = ap (λ t. t.kinds) copied ∙ c.loop-i.invariant.kinds;
            room = ap (λ t. t.capacity) copied ∙ c.loop-i.invariant.room;
          }
      | else-is_set w ↦
          record {
            told = ap (λ t. t.rows ++ occupied_rows (drop (c.loop-i.i + 1) c.args.self.now.rows)) w.to-is ∙ told_clear c.args.self.now.rows c.loop-i.i none within c.loop-i.to.rows (c.args.to.now.rows ++ occupied_rows c.args.self.now.rows) c.loop-i.invariant.told (bit ∙ w.if-is_set.false);
            kinds = ap (λ t. t.kinds) w.to-is ∙ c.loop-i.invariant.kinds;
            room = ap (λ t. t.capacity) w.to-is ∙ c.loop-i.invariant.room;
          }
    ]
