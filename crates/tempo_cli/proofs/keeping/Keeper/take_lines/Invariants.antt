use Rattle.std.proofs.Common.{◌≡◌, [], false, length}
use Rattle.tempo_cli.specs.Standing.{TakesHeld}
use Rattle.tempo_cli.specs.KeptStatus.{StaysCounted}
use Rattle.tempo_cli.proofs.keeping.Keeper.take_lines.Given as goal

abbrev pub invariant-lines : goal.invariant-lines
invariant-lines g l =
    (l.self.answering.cutter.longest ≡ 65536)
    × (l.self.answering.engine.ended ≡ false)
    × TakesHeld (g.W.Wire.journal l.fn.wire) (g.W.Wire.journal l.wire) l.fn.self [] l.self l.held.items
    × StaysCounted (g.W.Wire.read_faults l.fn.wire) (g.W.Wire.read_faults l.wire) (g.W.Wire.write_faults l.fn.wire) (g.W.Wire.write_faults l.wire)

abbrev pub decreases-lines : goal.decreases-lines
decreases-lines g l = length l.self.answering.cutter.rest
