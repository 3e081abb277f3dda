use Rattle.wire_lines.proofs.LineLength.{line_len-found, line_len-all}
use Rattle.tempo_cli.proofs.Wholes.{first_at, whole_none}
use Rattle.tempo_cli.proofs.reading.first_line.Goals as goal

pub returns-in-Some-clause-some : goal.returns-in-Some-clause-some
returns-in-Some-clause-some c =
    let found = c.in-Some.ensures in
    first_at c.args.bytes.now c.in-Some.at found.0.high (line_len-found c.args.bytes.now c.in-Some.at found.0.high found.0.before found.1)

pub returns-in-None-clause-none : goal.returns-in-None-clause-none
returns-in-None-clause-none c = whole_none c.args.bytes.now (line_len-all c.args.bytes.now c.in-None.ensures)
