use Rattle.wire_lines.proofs.Blocks.{block_given, block_none, block_short, block_cuts, block_among}
use Rattle.wire_lines.proofs.laws.blocks_are_lines.Goals as goal

pub returns-clause-given : goal.returns-clause-given
returns-clause-given c = block_given

pub returns-clause-none : goal.returns-clause-none
returns-clause-none c = block_none

pub returns-clause-short : goal.returns-clause-short
returns-clause-short c = block_short

pub returns-clause-after : goal.returns-clause-after
returns-clause-after c = block_cuts

pub returns-clause-lines : goal.returns-clause-lines
returns-clause-lines c = block_among
