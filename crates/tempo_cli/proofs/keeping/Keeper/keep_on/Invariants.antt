use Rattle.std.proofs.Common.{◌≡◌, ◌+◌, ◌++◌, ℕ, List, false}
use Rattle.wire_lines.specs.Journal.{Entry, Grows}
use Rattle.tempo_cli.specs.Table.{limit}
use Rattle.tempo_cli.specs.Feeding.{WantsBytes}
use Rattle.tempo_cli.specs.Keeping.{Task}
use Rattle.tempo_cli.specs.Standing.{MayRead}
use Rattle.tempo_cli.specs.KeptStatus.{StaysCounted}
use Rattle.tempo_cli.proofs.keeping.Keeper.keep_on.Given as goal

abbrev pub invariant-reads : goal.invariant-reads
invariant-reads g l =
    WantsBytes l.self.answering.cutter
    × (l.self.answering.engine.ended ≡ false)
    × ((t : Task) (every : ℕ) (J : List Entry) → MayRead t every l.fn.self (limit + 1) J → Grows (g.W.Wire.journal l.fn.wire) (g.W.Wire.journal l.wire) (λ K. MayRead t every l.self l.left (J ++ K)))
    × StaysCounted (g.W.Wire.read_faults l.fn.wire) (g.W.Wire.read_faults l.wire) (g.W.Wire.write_faults l.fn.wire) (g.W.Wire.write_faults l.wire)

abbrev pub decreases-reads : goal.decreases-reads
decreases-reads g l = l.left
