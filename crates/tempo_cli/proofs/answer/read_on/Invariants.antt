use Rattle.std.proofs.Common.{◌≡◌}
use Rattle.tempo_cli.specs.Feeding.{WantsBytes}
use Rattle.tempo_cli.specs.Working.{Reading, WhateverRead, WhateverCame, MayCome}
use Rattle.tempo_cli.specs.Halting.{StaysOpen}
use Rattle.tempo_cli.proofs.answer.read_on.Given as goal

abbrev pub invariant-loop-left : goal.invariant-loop-left
invariant-loop-left g l =
    WhateverRead (g.W.Wire.journal l.fn.wire) (g.W.Wire.journal l.wire) l.fn.answering l.fn.most (λ q J. Reading q l.answering l.left J)
    × (g.W.Wire.read_faults l.wire ≡ g.W.Wire.read_faults l.fn.wire)
    × (g.W.Wire.write_faults l.wire ≡ g.W.Wire.write_faults l.fn.wire)
    × WantsBytes l.answering.cutter
    × WhateverCame (g.W.Wire.journal l.fn.wire) (g.W.Wire.journal l.wire) l.fn.answering l.fn.most (λ k J. MayCome k l.answering l.left J)
    × StaysOpen l.fn.answering.engine l.answering.engine

abbrev pub decreases-loop-left : goal.decreases-loop-left
decreases-loop-left g l = l.left
