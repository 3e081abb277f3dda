use Rattle.std.proofs.Common.{arith, rules}
use Rattle.egress.proofs.loading.keep_entry.Goals as goal

pub returns : goal.returns
returns c = record { starts = search rules; ends = search rules; kept = c.open_row.ensures.filled (omega arith); waiting = search rules }
