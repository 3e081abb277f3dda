use Rattle.std.proofs.Common.{sym}
use Rattle.wire_lines.proofs.LineLength.{line_len-found, line_len-all}
use Rattle.wire_lines.proofs.cutter.line_length.Goals as goal

pub returns-in-Some : goal.returns-in-Some
returns-in-Some c =
    let found = c.in-Some.ensures in
    sym (line_len-found c.args.bytes.now c.in-Some.length found.0.high found.0.before found.1)

pub returns-in-None : goal.returns-in-None
returns-in-None c = sym (line_len-all c.args.bytes.now c.in-None.ensures)
