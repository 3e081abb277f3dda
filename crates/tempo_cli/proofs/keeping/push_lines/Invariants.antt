-- What is printed and the lines that are left are the checkpoint.
use Rattle.std.proofs.Common.{◌≡◌, ◌++◌, length}
use Rattle.checkpoint.specs.Text.{checkpoint_lines}
use Rattle.checkpoint.specs.Writing.{bytes_of, lines_left}
use Rattle.tempo_cli.proofs.keeping.push_lines.Given as goal

abbrev pub invariant-lines : goal.invariant-lines
invariant-lines l = l.out.items ++ bytes_of (lines_left l.form l.frozen l.place) ≡ l.fn.out.items ++ bytes_of (checkpoint_lines l.form.head l.frozen)

abbrev pub decreases-lines : goal.decreases-lines
decreases-lines l = length (lines_left l.form l.frozen l.place)
