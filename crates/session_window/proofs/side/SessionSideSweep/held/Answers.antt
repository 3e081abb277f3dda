use Rattle.std.proofs.Common.{arith}
use Rattle.session_window.proofs.side.SessionSideSweep.held.Goals as goal

pub returns : goal.returns
returns c = omega (arith, c.len-rows.ensures, c.len-ends.ensures.len, c.len-waiting.ensures.len, c.saturating_add.ensures, c.saturating_add-2.ensures)
