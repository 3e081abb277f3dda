use Rattle.std.proofs.Common.{◌≡◌, ◌≤◌, ◌+◌, ℕ, List, length}
use Rattle.wire_lines.specs.Journal.{Grows}
use Rattle.tempo_cli.specs.Feeding.{Asked, Holds}
use Rattle.tempo_cli.specs.Table.{limit}
use Rattle.tempo_cli.specs.Working.{AfterGiven, GivesOn}
use Rattle.tempo_cli.specs.Halting.{StaysOpen}
use Rattle.tempo_cli.proofs.Held.{Holding}
use Rattle.tempo_cli.proofs.answer.work.Given as goal

abbrev pub invariant-lines : goal.invariant-lines
invariant-lines g l =
    (l.answering.cutter.longest ≡ 65536)
    × (g.W.Wire.read_faults l.wire ≡ g.W.Wire.read_faults l.fn.wire)
    × (g.W.Wire.write_faults l.wire ≡ g.W.Wire.write_faults l.fn.wire)
    × ((q : Asked) (bytes : List ℕ) (given : List (List ℕ)) → Holds q bytes given l.fn.answering → length bytes ≤ limit + 1 → Grows (g.W.Wire.journal l.fn.wire) (g.W.Wire.journal l.wire) (Holding q bytes given l.answering l.held.items))
    × AfterGiven (g.W.Wire.journal l.fn.wire) (g.W.Wire.journal l.wire) l.fn.answering (λ k bytes. GivesOn k bytes l.answering)
    × StaysOpen l.fn.answering.engine l.answering.engine

abbrev pub decreases-lines : goal.decreases-lines
decreases-lines g l = length l.answering.cutter.rest
