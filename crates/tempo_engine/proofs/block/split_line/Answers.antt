use Rattle.std.proofs.Common.{[], ◌+◌, ◌-◌, length, take, drop}
use Rattle.tempo_engine.specs.Block.{between_feeds}
use Rattle.tempo_engine.proofs.Blocks.{one_line, first_line, none_at_all}
use Rattle.tempo_engine.proofs.block.split_line.Goals as goal

pub returns-in-Some-clause-first : goal.returns-in-Some-clause-first
returns-in-Some-clause-first c =
    let found = c.in-Some.ensures in
    (between_feeds (take (length c.args.lines.now - (c.in-Some.at + 1)) (drop (c.in-Some.at + 1) c.args.lines.now)), (first_line c.args.lines.now c.in-Some.at found.0.high found.0.before found.1).1)

pub returns-in-Some-clause-more : goal.returns-in-Some-clause-more
returns-in-Some-clause-more c =
    let found = c.in-Some.ensures in
    first_line c.args.lines.now c.in-Some.at found.0.high found.0.before found.1

pub returns-in-None-clause-no_feed : goal.returns-in-None-clause-no_feed
returns-in-None-clause-no_feed c = none_at_all c.args.lines.now c.in-None.ensures

pub returns-in-None-clause-first : goal.returns-in-None-clause-first
returns-in-None-clause-first c = ([], one_line c.args.lines.now (none_at_all c.args.lines.now c.in-None.ensures))

pub returns-in-None-clause-none : goal.returns-in-None-clause-none
returns-in-None-clause-none c = one_line c.args.lines.now (none_at_all c.args.lines.now c.in-None.ensures)
