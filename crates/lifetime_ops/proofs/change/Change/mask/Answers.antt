use Rattle.std.proofs.Common.{◌<◌, ◌∙◌, ap, arith, length, get_or}
use Rattle.batch.specs.Rows.{edge_of}
use Rattle.batch.proofs.Keeping.{no_row}
use Rattle.edge_stream.proofs.Rows.{sync_is, other_is, bits_next}
use Rattle.plan_laws.specs.Answers.{is_answered}
use Rattle.lifetime_ops.specs.Nodes.{node_of}
use Rattle.lifetime_ops.proofs.change.Change.mask.Goals as goal

pub loop-i-preserved : goal.loop-i-preserved
loop-i-preserved c =
    let rows = c.args.batch.now.rows in
    let lt : c.loop-i.i < length rows = omega (arith, c.loop-i-test.true, c.rows-i-end.ensures.rows) in
    let bit = c.answers.ensures (edge_of (get_or rows c.loop-i.i no_row)) (sync_is rows c.loop-i.i c.sync_at.result lt c.sync_at.ensures) (other_is rows c.loop-i.i c.other_at.result lt c.other_at.ensures) in
    record {
      bits = ap (λ m. m.items) c.push.ensures ∙ bits_next (is_answered (node_of c.args.self.now)) rows c.loop-i.i c.loop-i.mask.items c.answers.result lt c.loop-i.invariant.bits bit;
      room = ap (λ m. m.capacity) c.push.ensures ∙ c.loop-i.invariant.room;
    }
