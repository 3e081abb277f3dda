use Rattle.std.proofs.Common.{◌≡◌, map, drop}
use Rattle.wire_lines.specs.Journal.{Grows}
use Rattle.wire_lines.proofs.Growth.{SentBefore}
use Rattle.tempo_cli.specs.Status.{joined_pieces}
use Rattle.tempo_cli.proofs.notes.send_pieces.Given as goal

abbrev pub invariant-loop-piece : goal.invariant-loop-piece
invariant-loop-piece g l =
    Grows (g.N.Wire.journal l.fn.notes) (g.N.Wire.journal l.notes) (SentBefore (joined_pieces (map (λ p. p.now) l.pieces)) (joined_pieces (map (λ p. p.now) (drop l.piece-index l.pieces))))
    × (g.N.Wire.write_faults l.notes ≡ g.N.Wire.write_faults l.fn.notes)
