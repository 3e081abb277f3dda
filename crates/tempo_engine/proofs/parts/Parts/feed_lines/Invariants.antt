use Rattle.std.proofs.Common.{◌≡◌, ◌≤◌, length, All}
use Rattle.tempo_engine.specs.Block.{between_feeds}
use Rattle.tempo_engine.specs.Went.{CanRun, TookLines}
use Rattle.tempo_engine.proofs.Blocks.{TookFront}
use Rattle.tempo_engine.proofs.parts.Parts.feed_lines.Given as goal

abbrev pub invariant-lines : goal.invariant-lines
invariant-lines g l = record {
  short : All (λ line. length line ≤ 65536) (between_feeds l.rest);
  run : CanRun l.self;
  took : TookLines l.self;
  thawed : l.self.dataflow.thawed ≡ l.fn.self.dataflow.thawed;
  plan : l.self.dataflow.plan ≡ l.fn.self.dataflow.plan;
  workers : l.self.dataflow.workers ≡ l.fn.self.dataflow.workers;
  front : TookFront l.fn.self l.fn.first (between_feeds l.fn.lines) l.self l.number (between_feeds l.rest) l.text.items;
}

abbrev pub decreases-lines : goal.decreases-lines
decreases-lines g l = length l.rest
