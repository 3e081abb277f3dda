-- What went out, what is held and the lines that are left are the checkpoint; and no call of the wire failed.
use Rattle.std.proofs.Common.{◌≡◌, ◌≤◌, length}
use Rattle.checkpoint.specs.Text.{checkpoint_lines}
use Rattle.checkpoint.specs.Writing.{lines_left}
use Rattle.tempo_cli.proofs.Sending.{IsSending}
use Rattle.tempo_cli.proofs.freezing.send_lines.Given as goal

abbrev pub invariant-lines : goal.invariant-lines
invariant-lines g l =
    IsSending (checkpoint_lines l.form.head l.frozen) (lines_left l.form l.frozen l.place) l.buffer (g.W.Wire.journal l.fn.wire) (g.W.Wire.journal l.wire)
    × (length l.buffer.items ≤ 65536)
    × (g.W.Wire.write_faults l.wire ≡ g.W.Wire.write_faults l.fn.wire)
    × (g.W.Wire.read_faults l.wire ≡ g.W.Wire.read_faults l.fn.wire)

abbrev pub decreases-lines : goal.decreases-lines
decreases-lines g l = length (lines_left l.form l.frozen l.place)
