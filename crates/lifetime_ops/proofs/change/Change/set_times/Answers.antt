use Rattle.std.proofs.Common.{◌<◌, ◌∙◌, ap, arith, length, get_or}
use Rattle.std.proofs.lemmas.List.{length-set}
use Rattle.batch.proofs.Keeping.{no_row}
use Rattle.lifetime_ops.proofs.Rows.{row_next, times_set}
use Rattle.lifetime_ops.proofs.change.Change.set_times.Goals as goal

pub loop-i-preserved : goal.loop-i-preserved
loop-i-preserved c =
    let rows = c.args.batch.now.rows in
    let lt : c.loop-i.i < length rows = omega (arith, c.loop-i-test.true, c.rows-i-end.ensures.rows) in
    let is = c.set_times.ensures (get_or rows c.loop-i.i no_row) (row_next c.args.self.now rows c.loop-i.batch.rows c.loop-i.i lt c.loop-i.invariant.rows) in
    record {
      rows = ap (λ t. t.rows) is
          ∙ times_set c.args.self.now rows c.loop-i.batch.rows c.loop-i.i c.sync_at-sync.result c.other_at-other.result c.start.result c.other.result lt c.loop-i.invariant.rows c.sync_at-sync.ensures c.other_at-other.ensures c.start.ensures c.other.ensures;
      len = ap (λ t. length t.rows) is ∙ length-set c.loop-i.batch.rows c.loop-i.i _ ∙ c.loop-i.invariant.len;
      capacity = ap (λ t. t.capacity) is ∙ c.loop-i.invariant.capacity;
      kinds = ap (λ t. t.kinds) is ∙ c.loop-i.invariant.kinds;
    }
